-- A plan that stands in the lent arrays as `Layout` says is read back from them, and the arrays are a tree that code can walk. Assumes nothing.
use mathlib.Core.Path.{◌≡◌, refl, sym, ap, ap₂, subst, subst₂, ◌∙◌}
use mathlib.Core.List.{List}
use Prim.Native.Nat.{ℕ, zero, suc, ◌+◌, ◌*◌, ◌<◌, ◌≤◌}
use native.Mathlib.Decide.{ℕ_discrete, dec_lt}
use native.Mathlib.Omega.{arith}
use lib.ListN.{length}
use lib.Seq.{sets}
use Rattle.cpl.specs.Exprs.{plan_nodes, plan_tags}
use Rattle.cpl.specs.Limits.{max_nodes, max_tags}
use Rattle.cpl.specs.Plan.{Catalogue, Plan, binary, leaf, unary}
use Rattle.cpl.specs.ReadPlan.{Head}
use Rattle.cpl.specs.Writable.{FitPlan}
use Rattle.arena.specs.Cells.{Wf}
use Rattle.arena.proofs.Laws.{wf-none}
use Rattle.tree.specs.Layout.{binary_cells, binary_node, binary_nodes, binary_rows, binary_rows_in, expr_nodes, plan_cells, plan_rows, plan_rows_in, plan_table, unary_cells, unary_node, unary_nodes, unary_rows, unary_rows_in}
use Rattle.tree.specs.Node.{node_at}
use Rattle.tree.specs.Tree.{Arrays, InputsOk, PartsOk, WfNode, WfTree, build, head_of, lent, plan_at, plan_to, right_of}
use Rattle.tree.proofs.Heads.{HeadBack, binary_back, leaf_back, unary_back}
use Rattle.tree.proofs.Held.{Held, held-left, held-right, held-sets, moved}
use Rattle.tree.proofs.Long.{binary-cells, binary-node, binary-rows, plan-cells, plan-rows, plan-table, unary-cells, unary-node, unary-rows}
use Rattle.tree.proofs.Plans.{node, nodes-pos}

-- ── one node ────────────────────────────────────────────────────────────────────────────────

module _ (a : Arrays) {k right : ℕ} {h : Head} (b : HeadBack a k right h) where
  right_is : right_of (node_at a.nodes k) ≡ right
  right_is = ap right_of b.node_is ∙ b.right_is

  head-is : head_of a (node_at a.nodes k) ≡ h
  head-is = ap (head_of a) b.node_is ∙ b.head

  -- over inputs that are read back
  over : (d : ℕ) {p q : Plan} → plan_to d a (k + 1) ≡ p → plan_to d a right ≡ q → plan_to (suc d) a k ≡ build h p q
  over d e f = node a d k ∙ ap₂ (λ x r. build x (plan_to d a (k + 1)) (plan_to d a r)) head-is right_is ∙ ap₂ (build h) e f

  ok : (C : Catalogue) (count : ℕ) (p : Plan) → plan_at a k ≡ p → FitPlan C p → plan_tags p ≤ max_tags → k + plan_nodes p ≤ count → InputsOk a count k right h → WfNode C a count k
  ok C count p e f t l i = record {
    numbers = b.fits;
    parts = subst (PartsOk a) (sym b.node_is) b.parts;
    inputs = subst₂ (InputsOk a count k) (sym right_is) (sym head-is) i;
    fit = subst (FitPlan C) (sym e) f;
    tags = subst (λ x. plan_tags x ≤ max_tags) (sym e) t;
    within = subst (λ x. k + plan_nodes x ≤ count) (sym e) l;
  }

-- ── plans ───────────────────────────────────────────────────────────────────────────────────

-- a plan is read back at node k, and each of its nodes is one that code can walk
pub record PlanBack (C : Catalogue) (a : Arrays) (count k made : ℕ) (p : Plan) : Type 0 where
  pub plan : (deep : ℕ) → plan_nodes p ≤ deep → plan_to deep a k ≡ p
  pub wf : Wf a.cells (made + expr_nodes p)
  pub each : (j : ℕ) → k ≤ j → j < k + plan_nodes p → WfNode C a count j

-- a plan is nested no deeper than it has nodes
deeper : (a : Arrays) (k : ℕ) (p : Plan) → ((d : ℕ) → plan_nodes p ≤ suc d → plan_to (suc d) a k ≡ p) → (deep : ℕ) → plan_nodes p ≤ deep → plan_to deep a k ≡ p
deeper a k p f zero h = absurd (omega (arith, nodes-pos p))
deeper a k p f (suc d) h = f d h

at_once : (a : Arrays) (k : ℕ) (p : Plan) → plan_nodes p ≤ max_nodes → ((deep : ℕ) → plan_nodes p ≤ deep → plan_to deep a k ≡ p) → plan_at a k ≡ p
unfolding plan_at
at_once a k p h f = f max_nodes h

module _ (C : Catalogue) (a : Arrays) (count : ℕ) (few : count ≤ max_nodes) where
  pub plan_back : (p : Plan) (k made row : ℕ) → FitPlan C p → plan_tags p ≤ max_tags → k + plan_nodes p ≤ count → Wf a.cells made
      → Held a.cells (made * 3) (plan_cells made p) → Held a.rows (row * 4) (plan_rows made p) → Held a.nodes (k * 7) (plan_table k made row p) → PlanBack C a count k made p
  unfolding plan_cells plan_rows plan_table plan_nodes plan_tags expr_nodes FitPlan
  plan_back (leaf h) k made row f t l w c r n =
      let b = leaf_back C a h k made row f w c r n in
      let plan = deeper a k (leaf h) (λ d m. over a b.0 d refl refl) in
      let here = ok a b.0 C count (leaf h) (at_once a k (leaf h) (omega arith) plan) f t l tt in
      record { plan = plan; wf = b.1; each = λ j lo hi. subst (WfNode C a count) (omega arith) here }
  plan_back (unary h p) k made row f t l w c r n =
      let u = unary_back a C.version h k made row f.0 w (held-left (unary_cells made h) _ c) (held-left (unary_rows made h) _ r) (held-left (unary_node made row h) _ n) in
      let x : made * 3 + unary_nodes h * 3 ≡ (made + unary_nodes h) * 3 = omega arith in
      let y : row * 4 + unary_rows_in h * 4 ≡ (row + unary_rows_in h) * 4 = omega arith in
      let z : k * 7 + 7 ≡ (k + 1) * 7 = omega arith in
      let I = plan_back p (k + 1) (made + unary_nodes h) (row + unary_rows_in h) f.1 (omega arith) (omega arith) u.1
      (moved x (held-right (unary_cells made h) _ (unary_nodes h * 3) (unary-cells made h) c))
      (moved y (held-right (unary_rows made h) _ (unary_rows_in h * 4) (unary-rows made h) r))
      (moved z (held-right (unary_node made row h) _ 7 (unary-node made row h) n)) in
      let plan = deeper a k (unary h p) (λ d m. over a u.0 d (I.plan d (omega arith)) refl) in
      let here = ok a u.0 C count (unary h p) (at_once a k (unary h p) (omega arith) plan) f t l (omega (arith, nodes-pos p)) in
      record {
        plan = plan;
        wf = subst (Wf a.cells) (omega arith) I.wf;
        each = λ j lo hi. elim (ℕ_discrete j k) [ yes e ↦ subst (WfNode C a count) (sym e) here | no d ↦ I.each j (omega arith) (omega arith) ];
      }
  plan_back (binary h p₁ p₂) k made row f t l w c r n =
      let made₁ = made + binary_nodes h in
      let row₁ = row + binary_rows_in h in
      let made₂ = made₁ + expr_nodes p₁ in
      let row₂ = row₁ + plan_rows_in p₁ in
      let right = k + 1 + plan_nodes p₁ in
      let u = binary_back a h k made row right f.0 w (held-left (binary_cells made h) _ c) (held-left (binary_rows made h) _ r) (held-left (binary_node made row right h) _ n) in
      let x : made * 3 + binary_nodes h * 3 ≡ made₁ * 3 = omega arith in
      let y : row * 4 + binary_rows_in h * 4 ≡ row₁ * 4 = omega arith in
      let z : k * 7 + 7 ≡ (k + 1) * 7 = omega arith in
      let x₁ : made₁ * 3 + expr_nodes p₁ * 3 ≡ made₂ * 3 = omega arith in
      let y₁ : row₁ * 4 + plan_rows_in p₁ * 4 ≡ row₂ * 4 = omega arith in
      let z₁ : (k + 1) * 7 + plan_nodes p₁ * 7 ≡ right * 7 = omega arith in
      let c₁ = moved x (held-right (binary_cells made h) _ (binary_nodes h * 3) (binary-cells made h) c) in
      let r₁ = moved y (held-right (binary_rows made h) _ (binary_rows_in h * 4) (binary-rows made h) r) in
      let n₁ = moved z (held-right (binary_node made row right h) _ 7 (binary-node made row right h) n) in
      let I = plan_back p₁ (k + 1) made₁ row₁ f.1 (omega arith) (omega arith) u.1
      (held-left (plan_cells made₁ p₁) _ c₁) (held-left (plan_rows made₁ p₁) _ r₁) (held-left (plan_table (k + 1) made₁ row₁ p₁) _ n₁) in
      let J = plan_back p₂ right made₂ row₂ f.2 (omega arith) (omega arith) I.wf
      (moved x₁ (held-right (plan_cells made₁ p₁) _ (expr_nodes p₁ * 3) (plan-cells made₁ p₁) c₁))
      (moved y₁ (held-right (plan_rows made₁ p₁) _ (plan_rows_in p₁ * 4) (plan-rows made₁ p₁) r₁))
      (moved z₁ (held-right (plan_table (k + 1) made₁ row₁ p₁) _ (plan_nodes p₁ * 7) (plan-table (k + 1) made₁ row₁ p₁) n₁)) in
      let plan = deeper a k (binary h p₁ p₂) (λ d m. over a u.0 d (I.plan d (omega arith)) (J.plan d (omega arith))) in
      let first = at_once a (k + 1) p₁ (omega arith) I.plan in
      let here = ok a u.0 C count (binary h p₁ p₂) (at_once a k (binary h p₁ p₂) (omega arith) plan) f t l
      (ap (λ p. k + 1 + plan_nodes p) (sym first), omega (arith, nodes-pos p₂)) in
      record {
        plan = plan;
        wf = subst (Wf a.cells) (omega arith) J.wf;
        each = λ j lo hi. elim (ℕ_discrete j k) [
          | yes e ↦ subst (WfNode C a count) (sym e) here
          | no d ↦ elim (dec_lt j right) [ yes b ↦ I.each j (omega arith) (omega arith) | no b ↦ J.each j (omega arith) (omega arith) ]
        ];
      }

-- ── the theorem ─────────────────────────────────────────────────────────────────────────────

-- the arrays stand for the plan, and can be walked
pub record Stored (C : Catalogue) (p : Plan) (a : Arrays) : Type 0 where
  pub is : plan_at a 0 ≡ p
  pub tree : WfTree C a (plan_nodes p)

-- where the layout of a plan that can be written stands in the arrays, from their starts on, the arrays stand for the plan
pub held : (C : Catalogue) (p : Plan) (a : Arrays) → FitPlan C p → plan_nodes p ≤ max_nodes → plan_tags p ≤ max_tags
    → Held a.cells 0 (plan_cells 0 p) → Held a.rows 0 (plan_rows 0 p) → Held a.nodes 0 (plan_table 0 0 0 p) → Stored C p a
held C p a f few tags c r n =
    let b = plan_back C a (plan_nodes p) few p 0 0 0 f tags (omega arith) (wf-none a.cells) c r n in
    record { is = at_once a 0 p few b.plan; tree = record { few = few; each = λ k h. b.each k (omega arith) (omega arith) } }

-- a plan that can be written, stored as a reader stores it in arrays that are long enough (`Few` has lengths that are, for any)
pub stored : (C : Catalogue) (p : Plan) (cells rows nodes : List ℕ) {cells' rows' nodes' : List ℕ} → FitPlan C p → plan_nodes p ≤ max_nodes → plan_tags p ≤ max_tags
    → expr_nodes p * 3 ≤ length cells → plan_rows_in p * 4 ≤ length rows → plan_nodes p * 7 ≤ length nodes
    → cells' ≡ sets cells 0 (plan_cells 0 p) → rows' ≡ sets rows 0 (plan_rows 0 p) → nodes' ≡ sets nodes 0 (plan_table 0 0 0 p) → Stored C p (lent cells' rows' nodes')
stored C p cells rows nodes {cells'} {rows'} {nodes'} f few tags c r n e₁ e₂ e₃ =
    held C p (lent cells' rows' nodes') f few tags
    (rw e₁ (held-sets cells 0 (plan_cells 0 p) (omega (arith, plan-cells 0 p))))
    (rw e₂ (held-sets rows 0 (plan_rows 0 p) (omega (arith, plan-rows 0 p))))
    (rw e₃ (held-sets nodes 0 (plan_table 0 0 0 p) (omega (arith, plan-table 0 0 0 p))))
