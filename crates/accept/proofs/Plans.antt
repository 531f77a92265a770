-- Plan by plan: a node's own verdict after its inputs' is the plan's. Assumes nothing.
use mathlib.Core.Path.{◌≡◌, refl, sym, ap, ap₂, subst, ◌∙◌}
use mathlib.Core.Bool.{false}
use mathlib.Core.List.{List, []}
use mathlib.Core.Option.{Option, none, some}
use Prim.Native.Nat.{ℕ, suc, ◌+◌, ◌*◌, ◌<◌, ◌≤◌}
use native.Mathlib.Nat.{mul-add, mul-le-mul_left, mul-one, mul-suc}
use native.Mathlib.Decide.{dec_lt}
use native.Mathlib.Omega.{arith}
use lib.ListN.{length}
use Rattle.std.specs.Prelude.{Result, Ok, Err}
use Rattle.refusals.specs.Codes.{code_of}
use Rattle.refusals.specs.declared.Refusal.{Refusal}
use Rattle.cpl.specs.Accept.{Fault, ◌then◌, check, clash, fault}
use Rattle.cpl.specs.Exprs.{plan_nodes}
use Rattle.cpl.specs.Fields.{fields_of}
use Rattle.cpl.specs.Limits.{max_nodes}
use Rattle.cpl.specs.Plan.{Binary, Catalogue, Leaf, Pair, Plan, Unary, binary, leaf, unary}
use Rattle.cpl.specs.ReadPlan.{Head, h0, h1, h2}
use Rattle.cpl.proofs.Accepted.{accepted, distinct-fields}
use Rattle.cpl.proofs.Bools.{is_false}
use Rattle.cpl.proofs.Clash.{no_clash}
use Rattle.versions.specs.Versions.{fields_room}
use Rattle.versions.specs.declared.Version.{Version}
use Rattle.tree.specs.Shows.{HasInput, HasInputs, Shows, Stands, TakenApart}
use Rattle.tree.specs.Tree.{Arrays, PartsOk, head_of, lent, plan_at, right_of}
use Rattle.tree.specs.declared.Node.{Node}
use Rattle.lookup.specs.Fields.{RowStays, WidthsKept, fields_at, first_at, row_at, width_at}
use Rattle.lookup.specs.declared.Sides.{Sides}
use Rattle.lookup.proofs.Rows.{widths_trans, widths-wide}
use Rattle.verdicts.specs.Heads.{fields_head, head_fault}
use Rattle.verdicts.specs.Nodes.{KeptBelow, Named, NodeInside, SidesReady, parts}
use Rattle.verdicts.specs.Verdicts.{Judged, Placed, fault_of}
use Rattle.accept.specs.Verdicts.{Checked, Judgeable, Settled, Walking, end_of, span_of}
use Rattle.accept.proofs.Inside.{FitHead, fit-head, from_on, node-inside, node-named, parts_same}
use Rattle.verdicts.proofs.Rowed.{below_less, below_row, below_then, clear_none}

-- ── `check`, one step ───────────────────────────────────────────────────────────────────────

module _ (C : Catalogue) (k : ℕ) where
  one_later : (p : Plan) {f : Option Fault} → f ≡ check C p (k + 1) → f ≡ check C p (suc k)
  one_later p e = let d : k + 1 ≡ suc k = omega arith in e ∙ ap (check C p) d

  leaf-check : (h : Leaf) (fl fr : List Pair) → head_fault C k (h0 h) fl fr ≡ check C (leaf h) k
  unfolding check
  leaf-check h fl fr = refl

  one-check : (h : Unary) (p : Plan) (fr : List Pair) → none ≡ check C p (k + 1) → head_fault C k (h1 h) (fields_of C p) fr ≡ check C (unary h p) k
  unfolding check ◌then◌
  one-check h p fr e = ap (◌then head_fault C k (h1 h) (fields_of C p) fr) (one_later p e)

  one-fault : (h : Unary) (p : Plan) {x : Fault} → some x ≡ check C p (k + 1) → some x ≡ check C (unary h p) k
  unfolding check ◌then◌
  one-fault h p e = ap (◌then head_fault C k (h1 h) (fields_of C p) []) (one_later p e)

  module _ (h : Binary) (p q : Plan) (right : ℕ) (at : right ≡ k + 1 + plan_nodes p) where
    two_later : {f : Option Fault} → f ≡ check C q right → f ≡ check C q (suc (k + plan_nodes p))
    two_later e = let d : right ≡ suc (k + plan_nodes p) = omega arith in e ∙ ap (check C q) d

    own : Option Fault
    own = head_fault C k (h2 h) (fields_of C p) (fields_of C q)

    two-check : none ≡ check C p (k + 1) → none ≡ check C q right → head_fault C k (h2 h) (fields_of C p) (fields_of C q) ≡ check C (binary h p q) k
    unfolding check ◌then◌ own
    two-check e f = ap₂ (λ x y. x then (y then own)) (one_later p e) (two_later f)

    first-fault : {x : Fault} → some x ≡ check C p (k + 1) → some x ≡ check C (binary h p q) k
    unfolding check ◌then◌ own
    first-fault e = ap (◌then (check C q (suc (k + plan_nodes p)) then own)) (one_later p e)

    second-fault : {x : Fault} → none ≡ check C p (k + 1) → some x ≡ check C q right → some x ≡ check C (binary h p q) k
    unfolding check ◌then◌ own
    second-fault e f = ap₂ (λ x y. x then (y then own)) (one_later p e) (two_later f)

-- a node's inputs, once its head is known
module _ (a : Arrays) (count k : ℕ) (n : Node) where
  pub has-none : {h : Leaf} → head_of a n ≡ h0 h → Stands a count k (right_of n) (head_of a n) → plan_at a k ≡ leaf h
  has-none e o = subst (Stands a count k (right_of n)) e o

  pub has_one : {h : Unary} → head_of a n ≡ h1 h → Stands a count k (right_of n) (head_of a n) → HasInput a count k h
  has_one e o = subst (Stands a count k (right_of n)) e o

  pub has-two : {right : ℕ} {h : Binary} → right ≡ right_of n → head_of a n ≡ h2 h → Stands a count k (right_of n) (head_of a n) → HasInputs a count k right h
  has-two {h = h} d e o = subst (λ r. HasInputs a count k r h) (sym d) (subst (Stands a count k (right_of n)) e o)

-- ── as many fields as a plan's nodes may have ───────────────────────────────────────────────

nodes-leaf : (a : Arrays) (k : ℕ) {h : Leaf} → plan_at a k ≡ leaf h → plan_nodes (plan_at a k) ≡ 1
unfolding plan_nodes
nodes-leaf a k e = ap plan_nodes e

nodes-one : {a : Arrays} {count k : ℕ} {h : Unary} → HasInput a count k h → plan_nodes (plan_at a k) ≡ suc (plan_nodes (plan_at a (k + 1)))
unfolding plan_nodes
nodes-one i = ap plan_nodes i.plan

nodes-two : {a : Arrays} {count k right : ℕ} {h : Binary} → HasInputs a count k right h → plan_nodes (plan_at a k) ≡ suc (plan_nodes (plan_at a (k + 1)) + plan_nodes (plan_at a right))
unfolding plan_nodes
nodes-two i = ap plan_nodes i.plan

some-nodes : (p : Plan) → 0 < plan_nodes p
unfolding plan_nodes
some-nodes (leaf h) = omega arith
some-nodes (unary h p) = omega arith
some-nodes (binary h p q) = omega arith

span-leaf : (C : Catalogue) (a : Arrays) (k : ℕ) {h : Leaf} → plan_at a k ≡ leaf h → span_of C a k ≡ C.version.max_fields
span-leaf C a k e = ap (C.version.max_fields *◌) (nodes-leaf a k e) ∙ mul-one C.version.max_fields

span-one : (C : Catalogue) {a : Arrays} {count k : ℕ} {h : Unary} → HasInput a count k h → span_of C a k ≡ span_of C a (k + 1) + C.version.max_fields
span-one C {a} {k = k} i = ap (C.version.max_fields *◌) (nodes-one i) ∙ mul-suc C.version.max_fields (plan_nodes (plan_at a (k + 1)))

span-two : (C : Catalogue) {a : Arrays} {count k right : ℕ} {h : Binary} → HasInputs a count k right h → span_of C a k ≡ span_of C a (k + 1) + span_of C a right + C.version.max_fields
span-two C {a} {k = k} {right} i =
    let m = C.version.max_fields in
    let x = plan_nodes (plan_at a (k + 1)) in
    let y = plan_nodes (plan_at a right) in
    ap (m *◌) (nodes-two i) ∙ mul-suc m (x + y) ∙ ap (◌+ m) (mul-add m x y)

-- the version's room for 256 nodes is room for the plan
pub whole-span : (C : Catalogue) (a : Arrays) (s : List ℕ) → plan_nodes (plan_at a 0) ≤ max_nodes → fields_room C.version ≤ length s → (0 + span_of C a 0) * 2 ≤ length s
whole-span C a s h l = let b : span_of C a 0 ≤ C.version.max_fields * max_nodes = mul-le-mul_left C.version.max_fields h in omega (arith, b, l)

-- ── fields that stand in the arrays stay there ──────────────────────────────────────────────

module _ {C : Catalogue} {a : Arrays} {s w s' w' : List ℕ} {free next : ℕ} where
  stays : (j : ℕ) → KeptBelow free s s' → RowStays w w' j → free ≤ next → Settled C a s w free j → Settled C a s' w' next j
  unfolding fields_at
  stays j K R l o =
      let d = R.first in
      let e = R.width in
      record {
        stand = record {
          fields = ap₂ (row_at s') d e ∙ below_row K (first_at w j) (width_at w j) o.before ∙ o.stand.fields;
          few = omega (arith, e, o.stand.few);
          inside = omega (arith, d, e, o.stand.inside, K.long);
        };
        before = omega (arith, d, e, o.before);
      }

-- the left input's fields stand, and then the right's
both-stand : {C : Catalogue} {a : Arrays} {s₁ w₁ s₂ w₂ : List ℕ} {mid next : ℕ} (lo right hi : ℕ) → ((j : ℕ) → lo ≤ j → j < right → Settled C a s₁ w₁ mid j) → ((j : ℕ) → right ≤ j → j < hi → Settled C a s₂ w₂ next j)
    → KeptBelow mid s₁ s₂ → WidthsKept right hi w₁ w₂ → mid ≤ next → (j : ℕ) → lo ≤ j → j < hi → Settled C a s₂ w₂ next j
both-stand lo right hi f g K W m j l h = elim (dec_lt j right) [ yes d ↦ stays j K (W.low j d) m (f j l d) | no n ↦ g j (omega arith) h ]

-- the row of a node whose plan has no fault does not clash
clear-row : (C : Catalogue) (p : Plan) (at : ℕ) (s w : List ℕ) (j : ℕ) → none ≡ check C p at → fields_at s w j ≡ fields_of C p → clash (row_at s (first_at w j) (width_at w j)) ≡ false
unfolding fields_at
clear-row C p at s w j e f = ap clash f ∙ is_false (clash (fields_of C p)) (no_clash (distinct-fields C p (accepted C p at (sym e))))

-- ── a plan that is judged ───────────────────────────────────────────────────────────────────

-- a verdict: the next free field, or why the plan is refused
abbrev pub Verdict : Type 0
Verdict = Result ℕ Refusal

abbrev pub is_refused : Refusal → Option Fault
is_refused e = some (fault (code_of e.reason) e.place)

pub judged-is : {C : Catalogue} {h h' : Head} {fl fr : List Pair} {k free : ℕ} {s w s' w' : List ℕ} {r : Verdict} → h ≡ h' → Judged C h fl fr k free s w s' w' r → Judged C h' fl fr k free s w s' w' r
judged-is {C} {fl = fl} {fr} {k} {free} {s} {w} {s'} {w'} {r} e j = subst (λ h. Judged C h fl fr k free s w s' w' r) e j

-- what is said of an input without a fault
fine-says : {f : Option Fault} {v : Verdict} {next : ℕ} → v ≡ Ok next → fault_of v ≡ f → none ≡ f
fine-says e s = sym (ap fault_of e) ∙ s

bad-says : {f : Option Fault} {v : Verdict} {e : Refusal} → v ≡ Err e → fault_of v ≡ f → is_refused e ≡ f
bad-says e s = sym (ap fault_of e) ∙ s

-- the fields of node k, once it has its row
own_stands : {C : Catalogue} {a : Arrays} {h : Head} {fl fr : List Pair} {k free next : ℕ} {s w s' w' : List ℕ} → Placed C h fl fr k free next s w s' w' → fields_head C h fl fr ≡ fields_of C (plan_at a k) → Settled C a s' w' next k
own_stands P e = record { stand = record { fields = P.row ∙ e; few = P.few; inside = P.inside }; before = P.before }

module _ {C : Catalogue} {a : Arrays} {k : ℕ} {r : Verdict} where
  pub leaf-checked : {h : Leaf} {fl fr : List Pair} {free : ℕ} {s w s' w' : List ℕ} → plan_at a k ≡ leaf h → Judged C (h0 h) fl fr k free s w s' w' r → Checked C a k free s w s' w' r
  unfolding fields_of
  leaf-checked {h} {fl} {fr} {free} {s} {w} {s'} {w'} e J =
      let n = nodes-leaf a k e in
      record {
        says = J.says ∙ leaf-check C k h fl fr ∙ ap (λ p. check C p k) (sym e);
        done = λ next z. let P = J.done next z in record {
          from = P.from;
          upto = omega (arith, P.upto, span-leaf C a k e);
          each = λ j lo hi. from_on (Settled C a s' w' next) k j lo (own_stands P (ap (fields_of C) (sym e))) (λ l. absurd (omega arith));
          rows_kept = P.rows_kept;
          widths_kept = widths-wide k (end_of a k) (omega arith) (omega arith) P.widths_kept;
        };
      }

  -- a fault of an input
  refused : {free : ℕ} {s w s' w' : List ℕ} {e : Refusal} → r ≡ Err e → is_refused e ≡ check C (plan_at a k) k → Checked C a k free s w s' w' r
  refused bad e = record { says = ap fault_of bad ∙ e; done = λ next z. absurd (let y : ◌≡◌ {A = ℕ} 0 1 = cc in omega arith) }

  -- one input
  module _ {count : ℕ} (few : count ≤ max_nodes) {h : Unary} (i : HasInput a count k h) where
    pub one-checked : {fl fr : List Pair} {free mid : ℕ} {s w s₁ w₁ s₂ w₂ : List ℕ} {v : Verdict} → end_of a k ≤ count → v ≡ Ok mid → Checked C a (k + 1) free s w s₁ w₁ v → fl ≡ fields_of C (plan_at a (k + 1))
        → Judged C (h1 h) fl fr k mid s₁ w₁ s₂ w₂ r → Checked C a k free s w s₂ w₂ r
    unfolding fields_of
    one-checked {fl} {fr} {free} {mid} {s} {w} {s₁} {w₁} {s₂} {w₂} ends fine F e J =
        let n = nodes-one i in
        let D = F.done mid fine in
        record {
          says = J.says ∙ ap (λ x. head_fault C k (h1 h) x fr) e ∙ one-check C k h (plan_at a (k + 1)) fr (fine-says fine F.says) ∙ ap (λ p. check C p k) (sym i.plan);
          done = λ next z. let P = J.done next z in record {
            from = omega (arith, D.from, P.from);
            upto = omega (arith, D.upto, P.upto, span-one C i);
            each = λ j lo hi. from_on (Settled C a s₂ w₂ next) k j lo
                (own_stands P (ap (Rattle.cpl.specs.Fields.unary_fields h) e ∙ ap (fields_of C) (sym i.plan)))
                (λ l. stays j P.rows_kept (P.widths_kept.high j l (omega arith)) P.from (D.each j l (omega arith)));
            rows_kept = below_then D.rows_kept (below_less D.from P.rows_kept);
            widths_kept = widths_trans (widths-wide k (end_of a k) (omega arith) (omega arith) D.widths_kept) (widths-wide k (end_of a k) (omega arith) (omega arith) P.widths_kept);
          };
        }

    pub one-refused : {free : ℕ} {s w s₁ w₁ : List ℕ} {v : Verdict} {e : Refusal} → r ≡ Err e → v ≡ Err e → Checked C a (k + 1) free s w s₁ w₁ v → Checked C a k free s w s₁ w₁ r
    one-refused own bad F = refused own (one-fault C k h (plan_at a (k + 1)) (bad-says bad F.says) ∙ ap (λ p. check C p k) (sym i.plan))

  -- two inputs
  module _ {count right : ℕ} (few : count ≤ max_nodes) {h : Binary} (i : HasInputs a count k right h) where
    pub two-checked : {fl fr : List Pair} {free mid on : ℕ} {s w s₁ w₁ s₂ w₂ s₃ w₃ : List ℕ} {v v' : Verdict} → end_of a k ≤ count → v ≡ Ok mid → Checked C a (k + 1) free s w s₁ w₁ v
        → v' ≡ Ok on → Checked C a right mid s₁ w₁ s₂ w₂ v' → fl ≡ fields_of C (plan_at a (k + 1)) → fr ≡ fields_of C (plan_at a right) → Judged C (h2 h) fl fr k on s₂ w₂ s₃ w₃ r → Checked C a k free s w s₃ w₃ r
    unfolding fields_of
    two-checked {fl} {fr} {free} {mid} {on} {s} {w} {s₁} {w₁} {s₂} {w₂} {s₃} {w₃} ends fine F fine' G e f J =
        let n = nodes-two i in
        let d = i.ends in
        let D = F.done mid fine in
        let E = G.done on fine' in
        record {
          says = J.says ∙ ap₂ (λ x y. head_fault C k (h2 h) x y) e f ∙ two-check C k h (plan_at a (k + 1)) (plan_at a right) right d (fine-says fine F.says) (fine-says fine' G.says) ∙ ap (λ p. check C p k) (sym i.plan);
          done = λ next z. let P = J.done next z in record {
            from = omega (arith, D.from, E.from, P.from);
            upto = omega (arith, D.upto, E.upto, P.upto, span-two C i);
            each = λ j lo hi. from_on (Settled C a s₃ w₃ next) k j lo
                (own_stands P (ap₂ (Rattle.cpl.specs.Fields.binary_fields h) e f ∙ ap (fields_of C) (sym i.plan)))
                (λ l. stays j P.rows_kept (P.widths_kept.high j l (omega arith)) P.from
                (both-stand (k + 1) right (end_of a right) (λ x p q. D.each x p (omega arith)) E.each E.rows_kept E.widths_kept E.from j l (omega arith)));
            rows_kept = below_then D.rows_kept (below_then (below_less D.from E.rows_kept) (below_less (let q = D.from in let u = E.from in omega arith) P.rows_kept));
            widths_kept = widths_trans (widths-wide k (end_of a k) (omega arith) (omega arith) D.widths_kept) (widths_trans (widths-wide k (end_of a k) (omega arith) (omega arith) E.widths_kept) (widths-wide k (end_of a k) (omega arith) (omega arith) P.widths_kept));
          };
        }

    pub first-refused : {free : ℕ} {s w s₁ w₁ : List ℕ} {v : Verdict} {e : Refusal} → r ≡ Err e → v ≡ Err e → Checked C a (k + 1) free s w s₁ w₁ v → Checked C a k free s w s₁ w₁ r
    first-refused own bad F = refused own (first-fault C k h (plan_at a (k + 1)) (plan_at a right) right i.ends (bad-says bad F.says) ∙ ap (λ p. check C p k) (sym i.plan))

    pub second-refused : {free mid : ℕ} {s w s₁ w₁ s₂ w₂ : List ℕ} {v v' : Verdict} {e : Refusal} → v ≡ Ok mid → Checked C a (k + 1) free s w s₁ w₁ v → r ≡ Err e → v' ≡ Err e → Checked C a right mid s₁ w₁ s₂ w₂ v' → Checked C a k free s w s₂ w₂ r
    second-refused fine F own bad G =
        refused own (second-fault C k h (plan_at a (k + 1)) (plan_at a right) right i.ends (fine-says fine F.says) (bad-says bad G.says) ∙ ap (λ p. check C p k) (sym i.plan))

-- an input whose plan has no fault
pub input-fields : {C : Catalogue} {a : Arrays} {j free next : ℕ} {s w s₁ w₁ : List ℕ} {v : Verdict} → v ≡ Ok next → Checked C a j free s w s₁ w₁ v → Settled C a s₁ w₁ next j
input-fields {a = a} {j} {next = next} fine F = (F.done next fine).each j (omega arith) (omega (arith, some-nodes (plan_at a j)))

-- the left input's fields, after the right input is judged too
pub left-input : {C : Catalogue} {a : Arrays} {count k right free mid on : ℕ} {h : Binary} {s w s₁ w₁ s₂ w₂ : List ℕ} {v v' : Verdict} → HasInputs a count k right h → v ≡ Ok mid → Checked C a (k + 1) free s w s₁ w₁ v
    → v' ≡ Ok on → Checked C a right mid s₁ w₁ s₂ w₂ v' → Settled C a s₂ w₂ on (k + 1)
left-input {k = k} {on = on} b fine F fine' G = let E = G.done on fine' in stays (k + 1) E.rows_kept (E.widths_kept.low (k + 1) b.after) E.from (input-fields fine F)

-- ── what each step needs ────────────────────────────────────────────────────────────────────

pub walk_of : {C : Catalogue} {a : Arrays} {count : ℕ} {names : List ℕ} {tables : ℕ} {version : Version} {s w : List ℕ} {k free : ℕ} → Judgeable C a count names tables version s w k free
    → Walking C a names version.fields s w k free
walk_of {count = count} {tables = tables} o = record {
  count = count;
  tables = tables;
  tree = o.tree;
  here = o.here;
  named = o.named;
  tables_fit = o.tables_fit;
  tables_are = o.tables_are;
  most_is = ap (λ v. v.max_fields) o.version_is;
  room = o.room;
  wide = o.wide;
}

-- the node's own numbers and parts
module _ {C : Catalogue} {cells rows nodes names : List ℕ} {most : ℕ} {s w : List ℕ} {k free : ℕ} (o : Walking C (lent cells rows nodes) names most s w k free) {n : Node} (t : TakenApart nodes k n) where
  pub shown : Shows (lent cells rows nodes) o.count k n
  shown = t.shows C cells rows o.count o.tree o.here

  fit : FitHead C (head_of (lent cells rows nodes) n)
  fit = fit-head C (lent cells rows nodes) o.count k (right_of n) (head_of (lent cells rows nodes) n) shown.0 (o.tree.each k o.here).fit

  pub own-parts : PartsOk (parts cells rows) n × NodeInside most names rows n
  own-parts = (parts_same cells rows nodes [] n shown.1, node-inside o.named o.tables_fit o.tables_are o.most_is cells rows nodes n shown.1 fit)

  pub own-named : Named C names n
  own-named = node-named o.named o.tables_fit o.tables_are o.most_is (lent cells rows nodes) n fit

  module _ {h : Leaf} (e : head_of (lent cells rows nodes) n ≡ h0 h) where
    pub is_leaf : plan_at (lent cells rows nodes) k ≡ leaf h
    is_leaf = has-none (lent cells rows nodes) o.count k n e shown.0

  module _ {h : Unary} (e : head_of (lent cells rows nodes) n ≡ h1 h) where
    pub is-unary : HasInput (lent cells rows nodes) o.count k h
    is-unary = has_one (lent cells rows nodes) o.count k n e shown.0

  module _ {right : ℕ} {h : Binary} (d : right ≡ right_of n) (e : head_of (lent cells rows nodes) n ≡ h2 h) where
    pub is-binary : HasInputs (lent cells rows nodes) o.count k right h
    is-binary = has-two (lent cells rows nodes) o.count k n d e shown.0

module _ {C : Catalogue} {a : Arrays} {names : List ℕ} {most : ℕ} {s w : List ℕ} {k free : ℕ} (o : Walking C a names most s w k free) where
  pub few_nodes : k < max_nodes
  few_nodes = omega (arith, o.here, o.tree.few)

  pub ends_in : end_of a k ≤ o.count
  ends_in = (o.tree.each k o.here).within

  walk_at : (j at : ℕ) {s' w' : List ℕ} → j < o.count → (at + span_of C a j) * 2 ≤ length s' → length w' ≡ length w → Walking C a names most s' w' j at
  walk_at j at h r e = record {
    count = o.count;
    tables = o.tables;
    tree = o.tree;
    here = h;
    named = o.named;
    tables_fit = o.tables_fit;
    tables_are = o.tables_are;
    most_is = o.most_is;
    room = r;
    wide = omega (arith, o.wide, e);
  }

  -- the inputs can be judged
  pub walk-one : {h : Unary} → HasInput a o.count k h → Walking C a names most s w (k + 1) free
  walk-one i = walk_at (k + 1) free i.below (omega (arith, o.room, span-one C i)) refl

  pub walk-left : {right : ℕ} {h : Binary} → HasInputs a o.count k right h → Walking C a names most s w (k + 1) free
  walk-left i = walk_at (k + 1) free (omega (arith, i.below, i.after)) (omega (arith, o.room, span-two C i)) refl

  pub walk-right : {right mid : ℕ} {h : Binary} {s₁ w₁ : List ℕ} {v : Verdict} → HasInputs a o.count k right h → v ≡ Ok mid → Checked C a (k + 1) free s w s₁ w₁ v → Walking C a names most s₁ w₁ right mid
  walk-right {right} {mid} i fine F =
      let D = F.done mid fine in
      walk_at right mid i.below (omega (arith, o.room, span-two C i, D.upto, D.rows_kept.long)) D.widths_kept.long

  -- the widths are as many as before
  pub wide-after : (w' : List ℕ) → length w' ≡ length w → max_nodes + max_nodes ≤ length w'
  wide-after w' e = omega (arith, o.wide, e)

  -- a node without inputs
  pub ready-none : {x : Sides} {h : Leaf} → plan_at a k ≡ leaf h → (x.left ≡ 0) × (x.lwidth ≡ 0) × (x.right ≡ 0) × (x.rwidth ≡ 0) → SidesReady s free most x
  ready-none {x} i e = record {
    before_left = omega (arith, e.0, e.1);
    before_right = omega (arith, e.2, e.3);
    few_left = omega (arith, e.1);
    few_right = omega (arith, e.3);
    clear_left = no_fields x.left x.lwidth e.1;
    clear_right = no_fields x.right x.rwidth e.3;
    room = omega (arith, o.room, span-leaf C a k i, o.most_is);
  }
    where
      no_fields : (j n : ℕ) → n ≡ 0 → clash (row_at s j n) ≡ false
      no_fields j n e = ap (λ n. clash (row_at s j n)) e ∙ clear_none s j

  pub ready-one : {x : Sides} {h : Unary} {on : ℕ} {s₁ w₁ : List ℕ} {v : Verdict} → HasInput a o.count k h → v ≡ Ok on → Checked C a (k + 1) free s w s₁ w₁ v
      → (x.left ≡ first_at w₁ (k + 1)) × (x.lwidth ≡ width_at w₁ (k + 1)) × (x.right ≡ 0) × (x.rwidth ≡ 0) → SidesReady s₁ on most x
  ready-one {x} {on = on} {s₁} {w₁} b fine F e =
      let D = F.done on fine in
      let i = input-fields fine F in
      record {
        before_left = omega (arith, e.0, e.1, i.before);
        before_right = omega (arith, e.2, e.3);
        few_left = omega (arith, e.1, i.stand.few, o.most_is);
        few_right = omega (arith, e.3);
        clear_left = ap₂ (λ j n. clash (row_at s₁ j n)) e.0 e.1 ∙ clear-row C (plan_at a (k + 1)) (k + 1) s₁ w₁ (k + 1) (fine-says fine F.says) i.stand.fields;
        clear_right = ap (λ n. clash (row_at s₁ x.right n)) e.3 ∙ clear_none s₁ x.right;
        room = omega (arith, o.room, span-one C b, o.most_is, D.upto, D.rows_kept.long);
      }

  pub ready-two : {x : Sides} {right mid on : ℕ} {s₁ w₁ s₂ w₂ : List ℕ} {v v' : Verdict} {h : Binary} → HasInputs a o.count k right h → v ≡ Ok mid → Checked C a (k + 1) free s w s₁ w₁ v → v' ≡ Ok on → Checked C a right mid s₁ w₁ s₂ w₂ v'
      → (x.left ≡ first_at w₂ (k + 1)) × (x.lwidth ≡ width_at w₂ (k + 1)) × (x.right ≡ first_at w₂ right) × (x.rwidth ≡ width_at w₂ right) → SidesReady s₂ on most x
  ready-two {right = right} {mid} {on} {s₁} {w₁} {s₂} {w₂} b fine F fine' G e =
      let D = F.done mid fine in
      let E = G.done on fine' in
      let i = left-input b fine F fine' G in
      let j = input-fields fine' G in
      record {
        before_left = omega (arith, e.0, e.1, i.before);
        before_right = omega (arith, e.2, e.3, j.before);
        few_left = omega (arith, e.1, i.stand.few, o.most_is);
        few_right = omega (arith, e.3, j.stand.few, o.most_is);
        clear_left = ap₂ (λ j n. clash (row_at s₂ j n)) e.0 e.1 ∙ clear-row C (plan_at a (k + 1)) (k + 1) s₂ w₂ (k + 1) (fine-says fine F.says) i.stand.fields;
        clear_right = ap₂ (λ j n. clash (row_at s₂ j n)) e.2 e.3 ∙ clear-row C (plan_at a right) right s₂ w₂ right (fine-says fine' G.says) j.stand.fields;
        room = omega (arith, o.room, span-two C b, o.most_is, D.upto, E.upto, D.rows_kept.long, E.rows_kept.long);
      }

-- a side is an input's fields
pub side-is : {C : Catalogue} {a : Arrays} {s w : List ℕ} {next j f n : ℕ} → f ≡ first_at w j → n ≡ width_at w j → Settled C a s w next j → row_at s f n ≡ fields_of C (plan_at a j)
unfolding fields_at
side-is {s = s} d e o = ap₂ (row_at s) d e ∙ o.stand.fields
