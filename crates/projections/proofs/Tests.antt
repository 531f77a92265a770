-- The loops that test kept items and kept fields: the answer is that for what is left. Assumes nothing.
use mathlib.Core.Path.{◌≡◌, refl, sym, ap, ap₂, ◌∙◌}
use mathlib.Core.Bool.{Bool, true, false, not, ◌&&◌}
use mathlib.Core.List.{List}
use Prim.Native.Nat.{ℕ, ◌+◌, ◌^◌, ◌<◌, ◌≤◌}
use native.Mathlib.Omega.{arith}
use lib.Dec.{eqb}
use Rattle.cpl.specs.Plan.{Item, Pair, eq_p, pair}
use Rattle.cpl.specs.Tests.{all_b}
use Rattle.required_indices.specs.Request.{IsNext, request_mask, set_of}
use Rattle.required_indices.specs.declared.RequiredIndices.{RequiredIndices}
use Rattle.std.specs.Option.{is_some}
use Rattle.std.proofs.Common.{Option, Some, None}
use Rattle.arena.specs.Rows.{RowIs, item_at}
use Rattle.arena.proofs.Rows.{read_bare_lem, read_named}
use Rattle.lookup.specs.Fields.{field_at}
use Rattle.projections.specs.Lists.{AllBare, FieldsIn, is_bare, kept_fields, kept_items, same_b}
use Rattle.projections.proofs.Chosen.{chosen, chosen-end, chosen-items, chosen-next, chosen_none, found}

un_not : (b c : Bool) → not b ≡ c → b ≡ not c
un_not true c e = ap not e
un_not false c e = ap not e

-- ── all bare? ───────────────────────────────────────────────────────────────────────────────

pub record Bare (items : List ℕ) (first count : ℕ) (kept : RequiredIndices) (from : ℕ) : Type 0 where
  pub upto : from ≤ count
  pub same : (cells : List ℕ) → all_b is_bare (chosen (item_at items cells) first from (request_mask count kept)) ≡ all_b is_bare (kept_items items cells first count kept)

module _ (items : List ℕ) (first count : ℕ) (kept : RequiredIndices) (h : set_of kept < 2 ^ count) where
  pub bare-none : Bare items first count kept 0
  bare-none = record { upto = omega arith; same = λ cells. ap (all_b is_bare) (chosen-items items cells first count kept h) }

  module _ (from : ℕ) (p : Bare items first count kept from) (out : Option ℕ) (g : IsNext (set_of kept) from out) where
    pub bare-all : out ≡ None → AllBare items first count kept true
    unfolding all_b
    bare-all e = record { is = λ cells. sym (ap (all_b is_bare) (chosen-end (item_at items cells) first count kept h from out g e)) ∙ p.same cells }

    module _ (i : ℕ) (e : out ≡ Some i) {q n m k : ℕ} (v : RowIs items (first + i) q n m k) where
      left : (cells : List ℕ) → Bool
      left cells = all_b is_bare (chosen (item_at items cells) first (i + 1) (request_mask count kept))

      here : (cells : List ℕ) → is_bare (item_at items cells (first + i)) && left cells ≡ all_b is_bare (kept_items items cells first count kept)
      unfolding all_b left
      here cells = sym (ap (all_b is_bare) (chosen-next (item_at items cells) first count kept h from out g i e)) ∙ p.same cells

      pub bare-more : m ≡ 0 → Bare items first count kept (i + 1)
      unfolding is_bare left
      bare-more z = record { upto = omega (arith, found count (set_of kept) h from out g i e); same = λ cells. sym (ap (λ (x : Item). is_bare x && left cells) (read_bare_lem cells v z)) ∙ here cells }

      pub bare_no : (m ≡ 0 → ⊥) → AllBare items first count kept false
      unfolding is_bare
      bare_no z = record { is = λ cells. sym (ap (λ (x : Item). is_bare x && left cells) (read_named cells v z)) ∙ here cells }

-- ── the same fields? ────────────────────────────────────────────────────────────────────────

pub record Alike (s : List ℕ) (start width : ℕ) (kept : RequiredIndices) (s₂ : List ℕ) (lower below : ℕ) (input : RequiredIndices) (from at : ℕ) : Type 0 where
  pub upto : from ≤ width
  pub same : same_b (chosen (field_at s) start from (request_mask width kept)) (chosen (field_at s₂) lower at (request_mask below input))
      ≡ same_b (kept_fields s start width kept) (kept_fields s₂ lower below input)

module _ (s : List ℕ) (start width : ℕ) (kept : RequiredIndices) (h : FieldsIn s start width kept) (s₂ : List ℕ) (lower below : ℕ) (input : RequiredIndices) (l : FieldsIn s₂ lower below input) where
  abbrev whole : Bool
  whole = same_b (kept_fields s start width kept) (kept_fields s₂ lower below input)

  pub alike_none : Alike s start width kept s₂ lower below input 0 0
  alike_none = record { upto = omega arith; same = ap₂ same_b (chosen_none (field_at s) start width kept h.within) (chosen_none (field_at s₂) lower below input l.within) }

  module _ (from at : ℕ) (p : Alike s start width kept s₂ lower below input from at) (out : Option ℕ) (g : IsNext (set_of kept) from out) (out₂ : Option ℕ) (g₂ : IsNext (set_of input) at out₂) where
    both_end : out ≡ None → out₂ ≡ None → true ≡ whole
    unfolding same_b
    both_end e e₂ = sym (ap₂ same_b (chosen-end (field_at s) start width kept h.within from out g e) (chosen-end (field_at s₂) lower below input l.within at out₂ g₂ e₂)) ∙ p.same

    first_ends : out ≡ None → (j : ℕ) → out₂ ≡ Some j → false ≡ whole
    unfolding same_b
    first_ends e j e₂ = sym (ap₂ same_b (chosen-end (field_at s) start width kept h.within from out g e) (chosen-next (field_at s₂) lower below input l.within at out₂ g₂ j e₂)) ∙ p.same

    -- the first list has ended: has the second?
    pub ends : out ≡ None → (b : Bool) → is_some out₂ ≡ not b → b ≡ whole
    ends e b = go out₂ refl
      where
        go : (o : Option ℕ) → out₂ ≡ o → is_some o ≡ not b → b ≡ whole
        go None e₂ t = un_not b false (sym t) ∙ both_end e e₂
        go (Some j) e₂ t = un_not b true (sym t) ∙ first_ends e j e₂

    module _ (i : ℕ) (e : out ≡ Some i) where
      pub second-ends : out₂ ≡ None → false ≡ whole
      unfolding same_b
      second-ends e₂ = sym (ap₂ same_b (chosen-next (field_at s) start width kept h.within from out g i e) (chosen-end (field_at s₂) lower below input l.within at out₂ g₂ e₂)) ∙ p.same

      module _ (j : ℕ) (e₂ : out₂ ≡ Some j) {q n r m : ℕ} (v : pair q n ≡ field_at s (start + i)) (u : pair r m ≡ field_at s₂ (lower + j)) where
        rest : Bool
        rest = same_b (chosen (field_at s) start (i + 1) (request_mask width kept)) (chosen (field_at s₂) lower (j + 1) (request_mask below input))

        both : (eqb q r && eqb n m) && rest ≡ whole
        unfolding same_b rest eq_p
        both = ap₂ (λ (x y : Pair). eq_p x y && rest) v u
            ∙ sym (ap₂ same_b (chosen-next (field_at s) start width kept h.within from out g i e) (chosen-next (field_at s₂) lower below input l.within at out₂ g₂ j e₂))
            ∙ p.same

        pub alike_more : not (eqb q r && eqb n m) ≡ false → Alike s start width kept s₂ lower below input (i + 1) (j + 1)
        unfolding rest
        alike_more t = record { upto = omega (arith, found width (set_of kept) h.within from out g i e); same = sym (ap (◌&& rest) (un_not _ false t)) ∙ both }

        pub alike_no : not (eqb q r && eqb n m) ≡ true → false ≡ whole
        alike_no t = sym (ap (◌&& rest) (un_not _ true t)) ∙ both
