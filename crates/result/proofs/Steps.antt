-- The laws of `result_at`, by which every proof goes: its text is opened here alone. Assumes nothing.
use mathlib.Core.Path.{◌≡◌, refl, sym, ap, ap₂, ◌∙◌}
use mathlib.Core.Bool.{Bool, true, false}
use Prim.Native.Nat.{ℕ, zero, suc, ◌<◌}
use native.Mathlib.Omega.{arith}
use lib.Dec.{eqb}
use Rattle.cpl.specs.Fields.{fields_of}
use Rattle.cpl.specs.Plan.{Catalogue, Plan, binary, projection, unary}
use Rattle.cpl.specs.Read.{pick}
use Rattle.cpl.specs.ReadPlan.{Head, h0, h1, h2}
use Rattle.arena.specs.Rows.{items_at}
use Rattle.tree.specs.Node.{node_at}
use Rattle.tree.specs.Tree.{Arrays, head_of, plan_at}
use Rattle.result.specs.Result.{Results, columns_node, first_at, form_at, formed, kept_node, nothing_left, old_at, result_at, result_to, second_at, set_at, unary_part}
use Rattle.result.specs.Records.{InputsBelow, RecordOk, WfResults, first_of, record_at, record_of, second_of, stands_for}
use Rattle.result.specs.declared.Record.{Record}
use Rattle.result.specs.declared.Record.TheVariants.{Columns, Items, Nothing}
use Rattle.result.specs.declared.Record.TheVariants

module _ (C : Catalogue) (a : Arrays) (r : Results) where
  -- a record by its four numbers is a record taken apart
  formed-is : (R : ℕ → Plan) (s form old first second : ℕ) →
      formed C a r form old first second s (R first) (R second)
      ≡ stands_for C a r s (record_of form old first second) (R (first_of (record_of form old first second))) (R (second_of (record_of form old first second)))
  unfolding formed
  formed-is R s form old first second = by (eqb form 0) (eqb form 1) (eqb form 2)
    where
      rec : Bool → Bool → Bool → Record
      rec b c d = pick b (TheVariants.Kept old first second) (pick c (Columns old first) (pick d (Items old second first) Nothing))

      by : (b c d : Bool) →
          pick b (kept_node C s (head_of a (node_at a.nodes old)) (R first) (R second))
          (pick c (columns_node (fields_of C (plan_at a old)) s (R first)) (pick d (unary (projection (items_at r.items r.cells old second)) (R first)) nothing_left))
          ≡ stands_for C a r s (rec b c d) (R (first_of (rec b c d))) (R (second_of (rec b c d)))
      by true c d = refl
      by false true d = refl
      by false false true = refl
      by false false false = refl

  step : (f i : ℕ) →
      result_to (suc f) C a r i
      ≡ stands_for C a r (set_at r.records i) (record_at r.records i) (result_to f C a r (first_of (record_at r.records i))) (result_to f C a r (second_of (record_at r.records i)))
  unfolding result_to record_at
  step f i = formed-is (result_to f C a r) (set_at r.records i) (form_at r.records i) (old_at r.records i) (first_at r.records i) (second_at r.records i)

  -- inputs are compared only where the node has them
  same_head : (i f g s : ℕ) (h : Head) {p p' q q' : Plan} → InputsBelow i f g h → (f < i → p ≡ p') → (g < i → q ≡ q') → kept_node C s h p q ≡ kept_node C s h p' q'
  same_head i f g s (h0 h) l e d = refl
  same_head i f g s (h1 h) l e d = ap (unary (unary_part s h)) (e l)
  same_head i f g s (h2 h) l e d = ap₂ (binary h) (e l.0) (d l.1)

  module _ (count m k : ℕ) where
    pub same_inputs : (i s : ℕ) (x : Record) {p p' q q' : Plan} → RecordOk C a count r m k i s x → (first_of x < i → p ≡ p') → (second_of x < i → q ≡ q') →
        stands_for C a r s x p q ≡ stands_for C a r s x p' q'
    same_inputs i s (TheVariants.Kept old f g) o e d = same_head i f g s (head_of a (node_at a.nodes old)) o.inputs e d
    same_inputs i s (Columns old f) o e d = ap (columns_node (fields_of C (plan_at a old)) s) (e o.input)
    same_inputs i s (Items row n f) o e d = ap (unary (projection (items_at r.items r.cells row n))) (e o.input)
    same_inputs i s Nothing o e d = refl

    module _ (n : ℕ) (w : WfResults C a count r n m k) where
      fuel : (f g i : ℕ) → i < n → i < f → i < g → result_to f C a r i ≡ result_to g C a r i
      fuel zero g i h l j = absurd (omega arith)
      fuel (suc f) zero i h l j = absurd (omega arith)
      fuel (suc f) (suc g) i h l j =
          let x : Record = record_at r.records i in
          step f i
          ∙ same_inputs i (set_at r.records i) x (w.each i h) (λ b. fuel f g (first_of x) (omega arith) (omega arith) (omega arith)) (λ b. fuel f g (second_of x) (omega arith) (omega arith) (omega arith))
          ∙ sym (step g i)

      -- one step of `result_at`
      pub result-step : (i : ℕ) → i < n →
          result_at C a r i
          ≡ stands_for C a r (set_at r.records i) (record_at r.records i) (result_at C a r (first_of (record_at r.records i))) (result_at C a r (second_of (record_at r.records i)))
      unfolding result_at
      result-step i h =
          let x : Record = record_at r.records i in
          step i i
          ∙ same_inputs i (set_at r.records i) x (w.each i h) (λ b. fuel i (suc (first_of x)) (first_of x) (omega arith) b (omega arith)) (λ b. fuel i (suc (second_of x)) (second_of x) (omega arith) b (omega arith))
