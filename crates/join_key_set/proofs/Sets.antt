-- The laws of one set: a pair that is looked for, and a pair that is inserted. Assumes nothing.
use mathlib.Core.Path.{◌≡◌, refl, sym, ap, ap₂, subst⁻¹, ◌∙◌}
use mathlib.Core.Bool.{Bool, true, false, cond, ◌||◌}
use mathlib.Core.List.{List, ◌∷◌}
use mathlib.Core.Option.{Option, none, some}
use Prim.Native.Nat.{ℕ, ◌+◌, ◌*◌, ◌<◌, ◌≤◌}
use native.Mathlib.Omega.{arith}
use borrow.Author.Tests.{le-ltb, lt-ltb}
use lib.ListN.{length}
use Rattle.cpl.specs.Plan.{Expr, On, on}
use Rattle.cpl.specs.Tests.{any_b}
use Rattle.arena.specs.Cells.{Wf, expr_at}
use Rattle.arena.specs.Kept.{Kept}
use Rattle.arena.proofs.Kept.{kept_refl, kept_trans}
use Rattle.join_keys.specs.Keys as keys
use Rattle.join_keys.specs.Keys.{contains, added, insert, is_pair}
use Rattle.join_key_set.specs.Pairs.{KeyIs, KeysOk, key_at, keys_at, put_key}
use Rattle.join_key_set.specs.Answers.{Fills, insert_common}
use Rattle.join_key_set.specs.declared.JoinKeySet.{JoinKeySet}
use Rattle.join_key_set.specs.declared.Pairs.{Pairs}
use Rattle.std.specs.Prelude.{Result, Ok, Err}
use Rattle.join_key_set.proofs.Laws.{keys_length, kept_less, put_below, put_keys, put_ok, read_key_lem, rest, rest-next, rest-none}

-- ── a pair that is looked for ───────────────────────────────────────────────────────────────

swap : (a b c d : Bool) → (a || b) || (c || d) ≡ a || (c || (b || d))
swap true b c d = refl
swap false true true d = refl
swap false true false d = refl
swap false false true d = refl
swap false false false d = refl

contains-next : (p : On) (s : keys.JoinKeySet) (l r : Expr) → contains (p ∷ s) l r ≡ is_pair l r p || (is_pair r l p || contains s l r)
unfolding contains any_b
contains-next p s l r = swap (is_pair l r p) (any_b (is_pair l r) s) (is_pair r l p) (any_b (is_pair r l) s)

-- the pairs before pair i are others
pub record Sought (cells s : List ℕ) (f n : ℕ) (l r : Expr) (i : ℕ) : Type 0 where
  pub upto : i ≤ n
  pub same : contains (rest cells s f n i) l r ≡ contains (keys_at cells s f n) l r

module _ (cells s : List ℕ) (f n : ℕ) (l r : Expr) where
  pub sought_all : (i : ℕ) → Sought cells s f n l r i → n ≤ i → false ≡ contains (keys_at cells s f n) l r
  unfolding contains any_b
  sought_all i p h = sym (ap (λ ks. contains ks l r) (rest-none cells s f n i h)) ∙ p.same

  module _ (i a b : ℕ) (p : Sought cells s f n l r i) (h : i < n) (k : KeyIs s (f + i) a b) where
    next : is_pair l r (on (expr_at cells a) (expr_at cells b)) || (is_pair r l (on (expr_at cells a) (expr_at cells b)) || contains (rest cells s f n (i + 1)) l r) ≡ contains (keys_at cells s f n) l r
    next =
        ap (λ q. is_pair l r q || (is_pair r l q || contains (rest cells s f n (i + 1)) l r)) (sym (read_key_lem cells k))
        ∙ (sym (contains-next (key_at cells s (f + i)) (rest cells s f n (i + 1)) l r)
        ∙ (sym (ap (λ ks. contains ks l r) (rest-next cells s f n i h)) ∙ p.same))

    module _ {x : Bool} (e : x ≡ is_pair l r (on (expr_at cells a) (expr_at cells b))) where
      pub sought_pair : x ≡ true → true ≡ contains (keys_at cells s f n) l r
      sought_pair t = ap (◌|| (is_pair r l (on (expr_at cells a) (expr_at cells b)) || contains (rest cells s f n (i + 1)) l r)) (sym t ∙ e) ∙ next

      module _ {y : Bool} (g : y ≡ is_pair r l (on (expr_at cells a) (expr_at cells b))) where
        both : x || (y || contains (rest cells s f n (i + 1)) l r) ≡ contains (keys_at cells s f n) l r
        both = ap₂ (λ u v. u || (v || contains (rest cells s f n (i + 1)) l r)) e g ∙ next

        pub sought_mirror : x ≡ false → y ≡ true → true ≡ contains (keys_at cells s f n) l r
        sought_mirror t u = sym (ap₂ (λ u v. u || (v || contains (rest cells s f n (i + 1)) l r)) t u) ∙ both

        pub sought_more : x ≡ false → y ≡ false → Sought cells s f n l r (i + 1)
        sought_more t u = record { upto = omega arith; same = sym (ap₂ (λ u v. u || (v || contains (rest cells s f n (i + 1)) l r)) t u) ∙ both }

-- ── answers ─────────────────────────────────────────────────────────────────────────────────

-- a set that stays as it is
pub fills_same : {o : Option keys.JoinKeySet} {cells s : List ℕ} {most : ℕ} (set : JoinKeySet) → KeysOk cells s set.start set.size → o ≡ some (keys_at cells s set.start set.size) → set.size ≤ most
    → Fills o cells s set.start most (Ok set) s
fills_same set k e h = record { starts = refl; is = e; few = h; ok = k; kept = kept_refl _ _ }

-- what was done after something else
pub fills_after : {o o' : Option keys.JoinKeySet} (cells : List ℕ) {s s₁ : List ℕ} {start start' most most' : ℕ} (r : Result JoinKeySet Pairs) (s₂ : List ℕ) → o ≡ o' → Kept (start * 2) s s₁ → start' ≡ start → most' ≤ most
    → Fills o' cells s₁ start' most' r s₂ → Fills o cells s start most r s₂
fills_after cells (Ok set) s₂ e k h l g = record {
  starts = g.starts ∙ h;
  is = e ∙ (g.is ∙ ap (λ n. some (keys_at cells s₂ n set.size)) h);
  few = omega (arith, g.few);
  ok = rw h at g.ok;
  kept = kept_trans (omega arith) k (rw h at g.kept);
}
fills_after cells (Err d) s₂ e k h l g = e ∙ g

-- ── a pair that is inserted ─────────────────────────────────────────────────────────────────

module _ (cells s : List ℕ) (set : JoinKeySet) (l r : ℕ) (ok : KeysOk cells s set.start set.size) {x : Bool}
    (e : x ≡ contains (keys_at cells s set.start set.size) (expr_at cells l) (expr_at cells r)) where
  pub insert-known : x ≡ true → Fills (insert (expr_at cells l) (expr_at cells r) (keys_at cells s set.start set.size)) cells s set.start (set.size + 1) (Ok set) s
  unfolding insert
  insert-known h = fills_same set ok (rw (sym e ∙ h)) (omega arith)

  pub insert_new : x ≡ false → set.size < 64 → (set.start + set.size + 1) * 2 ≤ length s → Wf cells (l + 1) → Wf cells (r + 1)
      → Fills (insert (expr_at cells l) (expr_at cells r) (keys_at cells s set.start set.size)) cells s set.start (set.size + 1) (Ok (record { start = set.start; size = set.size + 1 })) (put_key s (set.start + set.size) l r)
  unfolding insert added
  insert_new h k room a b = record {
    starts = refl;
    is = rw (sym e ∙ h, keys_length cells s set.start set.size, lt-ltb set.size 64 k) (ap some (sym (put_keys cells s set.start set.size l r room)));
    few = omega arith;
    ok = put_ok cells s set.start set.size l r room ok a b;
    kept = kept_less (omega arith) (put_below s (set.start + set.size) l r);
  }

  pub insert_65th : x ≡ false → 64 ≤ set.size → insert (expr_at cells l) (expr_at cells r) (keys_at cells s set.start set.size) ≡ none
  unfolding insert added
  insert_65th h k = rw (sym e ∙ h, keys_length cells s set.start set.size, le-ltb set.size 64 k)

-- a pair that the second set has too, or has not
module _ (cells s : List ℕ) (set s₂ : JoinKeySet) (l r : ℕ) {x : Bool} (e : x ≡ contains (keys_at cells s s₂.start s₂.size) (expr_at cells l) (expr_at cells r)) where
  pub common_yes : x ≡ true → (f : Result JoinKeySet Pairs) (s' : List ℕ) → Fills (insert (expr_at cells l) (expr_at cells r) (keys_at cells s set.start set.size)) cells s set.start (set.size + 1) f s'
      → Fills (insert_common (keys_at cells s s₂.start s₂.size) (expr_at cells l) (expr_at cells r) (keys_at cells s set.start set.size)) cells s set.start (set.size + 1) f s'
  unfolding insert_common
  common_yes h f s' g = subst⁻¹ (λ b. Fills (cond b (insert (expr_at cells l) (expr_at cells r) (keys_at cells s set.start set.size)) (some (keys_at cells s set.start set.size))) cells s set.start (set.size + 1) f s') (sym e ∙ h) g

  pub common_no : KeysOk cells s set.start set.size → x ≡ false
      → Fills (insert_common (keys_at cells s s₂.start s₂.size) (expr_at cells l) (expr_at cells r) (keys_at cells s set.start set.size)) cells s set.start (set.size + 1) (Ok set) s
  unfolding insert_common
  common_no k h = fills_same set k (rw (sym e ∙ h)) (omega arith)
