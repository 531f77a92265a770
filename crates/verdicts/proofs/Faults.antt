-- The fault of one node: the tests in their order, and what the arrays hold then. Assumes nothing.
use mathlib.Core.Path.{◌≡◌, refl, sym, ap, ap₂, subst, subst⁻¹, ◌∙◌}
use mathlib.Core.Bool.{Bool, true, false, not, true≢false}
use mathlib.Core.List.{List}
use mathlib.Core.Option.{Option, none, some}
use Prim.Native.Nat.{ℕ, ◌+◌, ◌<◌, ◌≤◌}
use native.Mathlib.Omega.{arith}
use borrow.Author.Tests.{le-leb, lt-leb}
use lib.Dec.{leb}
use lib.ListN.{length}
use Rattle.std.specs.Prelude.{Ok, Err}
use Rattle.cpl.specs.Accept.{Fault, Test, ◌then◌, clash, fault, must, node_fault}
use Rattle.cpl.specs.Codes.{AMBIGUOUS, CLASH, FIELDS, UNKNOWN, WIDTH}
use Rattle.cpl.specs.Exprs.{definite, known}
use Rattle.cpl.specs.Limits.{max_nodes}
use Rattle.cpl.specs.Plan.{Catalogue, Pair}
use Rattle.cpl.specs.ReadPlan.{Head}
use Rattle.lookup.specs.Answers.{Resolved, resolved_of, resolving}
use Rattle.lookup.specs.Fields.{RowIn, WidthsKept, fields_at, first_at, row_at, width_at}
use Rattle.lookup.specs.declared.Unresolved.TheVariants as unresolved
use Rattle.refusals.specs.Codes.{code_of}
use Rattle.refusals.specs.declared.Reason.{Reason}
use Rattle.refusals.specs.declared.Refusal.{Refusal}
use Rattle.lookup.proofs.Rows.{row_set, set_first, set-kept, set-width}
use Rattle.verdicts.specs.Heads.{fields_head, head_fault}
use Rattle.verdicts.specs.Nodes.{KeptBelow, RowStored}
use Rattle.verdicts.specs.Verdicts.{Judged, Placed}
use Rattle.verdicts.specs.declared.Row.{Row}

-- ── the tests in their order ────────────────────────────────────────────────────────────────

-- what the references find, test by test
was_unknown : (a d : Bool) → Err unresolved.Unknown ≡ resolved_of a d → a ≡ false
was_unknown true true e = absurd (let z : true ≡ false = cc in true≢false z)
was_unknown true false e = absurd (let z : true ≡ false = cc in true≢false z)
was_unknown false d e = refl

was_ambiguous : (a d : Bool) → Err unresolved.Ambiguous ≡ resolved_of a d → (a ≡ true) × (d ≡ false)
was_ambiguous true true e = absurd (let z : true ≡ false = cc in true≢false z)
was_ambiguous true false e = (refl, refl)
was_ambiguous false d e = absurd (let z : true ≡ false = cc in true≢false z)

was_fine : (a d : Bool) → Ok tt ≡ resolved_of a d → (a ≡ true) × (d ≡ true)
was_fine true true e = (refl, refl)
was_fine true false e = absurd (let z : true ≡ false = cc in true≢false z)
was_fine false d e = absurd (let z : true ≡ false = cc in true≢false z)

module _ (C : Catalogue) (at : ℕ) (pass : Test → Bool) (even : Bool) (fs gs : List Pair) where
  -- after the references
  after : Bool → Option Fault
  after e = must e WIDTH at then must (leb (length fs) C.version.max_fields) FIELDS at then must (not (clash gs)) CLASH at

  tests : (a d : Bool) → pass known ≡ a → pass definite ≡ d → must a UNKNOWN at then must d AMBIGUOUS at then after even ≡ node_fault C at pass even fs gs
  unfolding node_fault after
  tests a d x y = sym (ap₂ (λ x y. must x UNKNOWN at then must y AMBIGUOUS at then after even) x y)

  pub un-known : Err unresolved.Unknown ≡ resolving pass → some (fault UNKNOWN at) ≡ node_fault C at pass even fs gs
  unfolding must ◌then◌
  un-known u = tests false (pass definite) (was_unknown (pass known) (pass definite) u) refl

  pub un-definite : Err unresolved.Ambiguous ≡ resolving pass → some (fault AMBIGUOUS at) ≡ node_fault C at pass even fs gs
  unfolding must ◌then◌
  un-definite u = let w = was_ambiguous (pass known) (pass definite) u in tests true false w.0 w.1

  found : Ok tt ≡ resolving pass → after even ≡ node_fault C at pass even fs gs
  unfolding must ◌then◌
  found u = let w = was_fine (pass known) (pass definite) u in tests true true w.0 w.1

  pub un-even : Ok tt ≡ resolving pass → false ≡ even → some (fault WIDTH at) ≡ node_fault C at pass even fs gs
  unfolding must ◌then◌ after
  un-even a b = ap after b ∙ found a

  rest : (l c : Bool) → Ok tt ≡ resolving pass → true ≡ even → l ≡ leb (length fs) C.version.max_fields → c ≡ clash gs → must l FIELDS at then must (not c) CLASH at ≡ node_fault C at pass even fs gs
  unfolding must ◌then◌ after
  rest l c a b d e = ap₂ (λ x y. must x FIELDS at then must (not y) CLASH at) d e ∙ ap after b ∙ found a

  pub too_many : Ok tt ≡ resolving pass → true ≡ even → C.version.max_fields < length fs → some (fault FIELDS at) ≡ node_fault C at pass even fs gs
  unfolding must ◌then◌
  too_many a b h = rest false (clash gs) a b (sym (lt-leb (length fs) C.version.max_fields h)) refl

  pub un-clear : Ok tt ≡ resolving pass → true ≡ even → length fs ≤ C.version.max_fields → true ≡ clash gs → some (fault CLASH at) ≡ node_fault C at pass even fs gs
  unfolding must ◌then◌
  un-clear a b h c = rest true true a b (sym (le-leb (length fs) C.version.max_fields h)) c

  pub no_fault : Ok tt ≡ resolving pass → true ≡ even → length fs ≤ C.version.max_fields → false ≡ clash gs → none ≡ node_fault C at pass even fs gs
  unfolding must ◌then◌
  no_fault a b h c = rest true false a b (sym (le-leb (length fs) C.version.max_fields h)) c

-- ── what the arrays hold then ───────────────────────────────────────────────────────────────

-- the references as they were looked up are the node's
pub seen_as : {p q : Test → Bool} {r : Resolved} → r ≡ resolving p → p ≡ q → r ≡ resolving q
seen_as e d = e ∙ ap resolving d

module _ {C : Catalogue} {h : Head} {fl fr : List Pair} {k free : ℕ} {s w s' w' : List ℕ} where
  pub judged-bad : {e : Refusal} {r : Reason} → (e.reason ≡ r) × (e.place ≡ k) → some (fault (code_of r) k) ≡ head_fault C k h fl fr → Judged C h fl fr k free s w s' w' (Err e)
  judged-bad p e = record { says = ap₂ (λ (x y : _). some (fault (code_of x) y)) p.0 p.1 ∙ e; done = λ next z. absurd (let y : true ≡ false = cc in true≢false y) }

  -- the row stands, and the node's numbers say where
  pub judged-fine : {most : ℕ} {r : Row} → none ≡ head_fault C k h fl fr → C.version.max_fields ≡ most → r.width ≤ most → RowStored free most r (fields_head C h fl fr) s' → RowIn s free most → KeptBelow free s s'
      → k < max_nodes → max_nodes + max_nodes ≤ length w → w' ≡ row_set w k r.width r.first → Judged C h fl fr k free s w s' w' (Ok r.next)
  unfolding fields_at
  judged-fine {r = r} e m l t room p few wide d =
      let a : width_at w' k ≡ r.width = ap (λ x. width_at x k) d ∙ set-width w k r.width r.first few wide in
      let b : first_at w' k ≡ r.first = ap (λ x. first_at x k) d ∙ set_first w k r.width r.first few wide in
      let it : Placed C h fl fr k free r.next s w s' w' = record {
        from = t.from;
        upto = omega (arith, t.upto, m);
        row = ap₂ (row_at s') b a ∙ t.is;
        few = omega (arith, a, l, m);
        before = omega (arith, a, b, t.before);
        inside = omega (arith, a, b, t.before, t.upto, room, p.long);
        rows_kept = p;
        widths_kept = subst⁻¹ (WidthsKept k (k + 1) w) d (set-kept w k r.width r.first few wide);
      } in
      record { says = e; done = λ next z. let q : r.next ≡ next = cc in subst (λ n. Placed C h fl fr k free n s w s' w') q it }
