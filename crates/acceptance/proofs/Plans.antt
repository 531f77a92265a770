-- What is known of an accepted plan: every node is accepted, so it stands. Assumes nothing.
use mathlib.Core.Path.{◌≡◌, ap, subst}
use mathlib.Core.List.{List}
use Prim.Native.Nat.{ℕ, zero, suc, ◌+◌, ◌<◌, ◌≤◌}
use native.Mathlib.Decide.{dec_lt}
use native.Mathlib.Omega.{arith}
use Rattle.cpl.specs.Exprs.{plan_nodes}
use Rattle.cpl.specs.Plan.{Catalogue}
use Rattle.cpl.specs.ReadPlan.{Head, h0, h1, h2}
use Rattle.cpl.specs.Accepted.{Accepted}
use Rattle.cpl.proofs.Accepted.{accepted}
use Rattle.tree.specs.Node.{node_at}
use Rattle.tree.specs.Shows.{Stands}
use Rattle.tree.specs.Tree.{Arrays, WfTree, head_of, lent, plan_at, right_of}
use Rattle.tree.proofs.Plans.{nodes-pos, shows}
use Rattle.versions.specs.declared.Version.{Version}
use Rattle.lookup.specs.Standing.{Standing}
use Rattle.accept.proofs.Inside.{from_on}
use Rattle.acceptance.specs.Readings.{PlanIn, root_plan}

-- ── every node of an accepted plan is accepted ──────────────────────────────────────────────

module _ (C : Catalogue) (a : Arrays) (count : ℕ) where
  -- the plan at k is accepted, and so is each of its nodes
  abbrev Each : ℕ → Type 0
  Each k = k < count → Accepted C (plan_at a k) → (j : ℕ) → k ≤ j → j < k + plan_nodes (plan_at a k) → Accepted C (plan_at a j)

  at_head : (deep k right : ℕ) (h : Head) → Stands a count k right h → plan_nodes (plan_at a k) ≤ suc deep
      → ((i : ℕ) → plan_nodes (plan_at a i) ≤ deep → Each i) → Each k
  unfolding Accepted plan_nodes
  at_head deep k right (h0 h) s d go l o j m n =
      let size = ap plan_nodes s in
      from_on (λ (i : ℕ). Accepted C (plan_at a i)) k j m o (λ x. absurd (omega arith))
  at_head deep k right (h1 h) s d go l o j m n =
      let size = ap plan_nodes s.plan in
      from_on (λ (i : ℕ). Accepted C (plan_at a i)) k j m o (λ x. go (k + 1) (omega arith) s.below (subst (Accepted C) s.plan o).0 j x (omega arith))
  at_head deep k right (h2 h) s d go l o j m n =
      let size = ap plan_nodes s.plan in
      let both = subst (Accepted C) s.plan o in
      let first = nodes-pos (plan_at a (k + 1)) in
      from_on (λ (i : ℕ). Accepted C (plan_at a i)) k j m o
      (λ x. elim (dec_lt j right) [
        | yes y ↦ go (k + 1) (omega arith) (omega (arith, s.after, s.below)) both.0 j x (omega (arith, s.ends))
        | no y ↦ go right (omega arith) s.below both.1 j (omega arith) (omega (arith, s.ends))
      ])

  module _ (w : WfTree C a count) where
    nested : (deep k : ℕ) → plan_nodes (plan_at a k) ≤ deep → Each k
    nested zero k d l = absurd (omega (arith, nodes-pos (plan_at a k)))
    nested (suc deep) k d l = at_head deep k (right_of (node_at a.nodes k)) (head_of a (node_at a.nodes k)) (shows w k l).0 d (λ i e. nested deep i e) l

    pub all-accepted : count ≡ plan_nodes (plan_at a 0) → Accepted C (plan_at a 0) → (j : ℕ) → j < count → Accepted C (plan_at a j)
    all-accepted e o j l = nested (plan_nodes (plan_at a 0)) 0 (omega arith) (omega (arith, nodes-pos (plan_at a 0))) o j (omega arith) (omega arith)

-- ── an accepted plan stands ─────────────────────────────────────────────────────────────────

abbrev pub standing : {file cells rows nodes fields widths keys : List ℕ} {version : Version} {start count : ℕ} → PlanIn file cells rows nodes fields widths keys version start count
    → Standing cells rows nodes fields widths
standing {cells = cells} {rows} {nodes} {count = count} p = record {
  C = p.C;
  count = count;
  tables = p.tables;
  tree = p.tree;
  stand = λ j l. (p.stand j l).fields;
  accepted = all-accepted p.C (lent cells rows nodes) count p.tree p.whole (accepted p.C (root_plan cells rows nodes) 0 p.fine);
  inside = λ j l. (p.stand j l).inside;
}
