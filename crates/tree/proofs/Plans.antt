-- The laws of `plan_at`, by which every proof goes: its text is opened here alone. Assumes nothing.
use mathlib.Core.Path.{◌≡◌, refl, sym, ap, ap₂, subst, ◌∙◌}
use mathlib.Core.List.{List}
use Prim.Native.Nat.{ℕ, zero, suc, ◌+◌, ◌<◌, ◌≤◌}
use native.Mathlib.Omega.{arith}
use Rattle.cpl.specs.Exprs.{plan_nodes}
use Rattle.cpl.specs.Plan.{Catalogue, Plan, binary, leaf, unary}
use Rattle.cpl.specs.ReadPlan.{Head, h0, h1, h2}
use Rattle.tree.specs.Node.{node_at}
use Rattle.tree.specs.Shows.{Shows, Stands, TakenApart}
use Rattle.tree.specs.Tree.{Arrays, InputsOk, WfTree, build, head_of, lent, plan_at, plan_to, right_of}
use Rattle.tree.specs.declared.Node.{Node}

pub nodes-pos : (p : Plan) → 0 < plan_nodes p
unfolding plan_nodes
nodes-pos (leaf h) = omega arith
nodes-pos (unary h p) = omega arith
nodes-pos (binary h p₁ p₂) = omega arith

-- inputs are compared only where they are nodes of the tree
same_inputs : (a : Arrays) (count k right : ℕ) (h : Head) {p p' q q' : Plan}
    → InputsOk a count k right h → (k + 1 < count → p ≡ p') → (k < right → right < count → q ≡ q') → build h p q ≡ build h p' q'
same_inputs a count k right (h0 h) i e f = refl
same_inputs a count k right (h1 h) i e f = ap (unary h) (e i)
same_inputs a count k right (h2 h) i e f = ap₂ (binary h) (e (omega (arith, i.0, i.1))) (f (omega (arith, i.0)) i.1)

pub node : (a : Arrays) (f k : ℕ) → plan_to (suc f) a k ≡ build (head_of a (node_at a.nodes k)) (plan_to f a (k + 1)) (plan_to f a (right_of (node_at a.nodes k)))
unfolding plan_to
node a f k = refl

module _ (C : Catalogue) (a : Arrays) (count : ℕ) (w : WfTree C a count) where
  -- no deeper than there are nodes left
  deep : (f g k : ℕ) → k < count → count ≤ f + k → count ≤ g + k → plan_to f a k ≡ plan_to g a k
  unfolding plan_to
  deep zero g k h i j = absurd (omega arith)
  deep (suc f) zero k h i j = absurd (omega arith)
  deep (suc f) (suc g) k h i j =
      same_inputs a count k (right_of (node_at a.nodes k)) (head_of a (node_at a.nodes k)) (w.each k h).inputs
      (λ l. deep f g (k + 1) l (omega arith) (omega arith))
      (λ l m. deep f g (right_of (node_at a.nodes k)) m (omega arith) (omega arith))

  -- one step of `plan_at`
  pub plan-step : (k : ℕ) → k < count → plan_at a k ≡ build (head_of a (node_at a.nodes k)) (plan_at a (k + 1)) (plan_at a (right_of (node_at a.nodes k)))
  unfolding plan_at
  plan-step k h =
      node a 255 k
      ∙ same_inputs a count k (right_of (node_at a.nodes k)) (head_of a (node_at a.nodes k)) (w.each k h).inputs
      (λ l. deep 255 256 (k + 1) l (omega (arith, w.few)) (omega (arith, w.few)))
      (λ l m. deep 255 256 (right_of (node_at a.nodes k)) m (omega (arith, w.few)) (omega (arith, w.few)))

stands : (a : Arrays) (count k right : ℕ) (h : Head) → plan_at a k ≡ build h (plan_at a (k + 1)) (plan_at a right) → InputsOk a count k right h → Stands a count k right h
stands a count k right (h0 h) e i = e
stands a count k right (h1 h) e i = record { plan = e; below = i }
stands a count k right (h2 h) e i = record { plan = e; after = omega (arith, i.0, nodes-pos (plan_at a (k + 1))); ends = i.0; below = i.1 }

-- a node of a tree shows its plan
pub shows : {C : Catalogue} {a : Arrays} {count : ℕ} → WfTree C a count → (k : ℕ) → k < count → Shows a count k (node_at a.nodes k)
shows {C} {a} {count} w k h =
    (stands a count k (right_of (node_at a.nodes k)) (head_of a (node_at a.nodes k)) (plan-step C a count w k h) (w.each k h).inputs, (w.each k h).parts)

pub taken : {nodes : List ℕ} {k : ℕ} {n : Node} → n ≡ node_at nodes k → TakenApart nodes k n
taken {nodes} {k} e = record {
  is = e;
  shows = λ C cells rows count w h. subst (λ m. Shows (lent cells rows nodes) count k m) (sym e) (shows w k h);
}
