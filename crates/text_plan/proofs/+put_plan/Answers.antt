-- `text_plan::put_plan` meets its contract; the measure is how many nodes may follow. Assumes nothing.
use Rattle.text_plan.proofs.Plans.{first-input, leaf-plan, line_ok, one_input, one_plan, second-after, second-input, two-plan}
use mathlib.Core.Path.{◌∙◌, sym}
use native.Mathlib.Omega.{arith}
use Rattle.text_plan.proofs.+put_plan.Goals as goal

pub node_at-node-requires : goal.node_at-node-requires
node_at-node-requires t c =
    let w = c.requires.walks in
    (w.tree.each _ w.below).numbers

pub put_line-a-requires : goal.put_line-a-requires
put_line-a-requires t c =
    line_ok c.requires.walks c.node_at-node.ensures

pub overflow_add-k : goal.overflow_add-k
overflow_add-k t c =
    let w = c.requires.walks in
    omega (arith, w.below, w.tree.few)

pub overflow_add-level : goal.overflow_add-level
overflow_add-level t c =
    let w = c.requires.walks in
    omega (arith, w.below, w.tree.few, c.requires.level_le_k)

pub put_plan-requires : goal.put_plan-requires
put_plan-requires t c =
    let w = c.requires.walks in
    (omega (arith, c.decreases, w.below, w.tree.few), (one_input w c.node_at-node.ensures (sym c.inputs_of.ensures ∙ c.in-One.is), omega (arith, c.requires.level_le_k)))

pub overflow_add-k-in-Two : goal.overflow_add-k-in-Two
overflow_add-k-in-Two t c =
    let w = c.requires.walks in
    omega (arith, w.below, w.tree.few)

pub overflow_add-level-in-Two : goal.overflow_add-level-in-Two
overflow_add-level-in-Two t c =
    let w = c.requires.walks in
    omega (arith, w.below, w.tree.few, c.requires.level_le_k)

pub put_plan-b-requires : goal.put_plan-b-requires
put_plan-b-requires t c =
    let w = c.requires.walks in
    (omega (arith, c.decreases, w.below, w.tree.few), (first-input w c.node_at-node.ensures (sym c.inputs_of.ensures ∙ c.in-Two.is), omega (arith, c.requires.level_le_k)))

pub overflow_add-level-in-Two-2 : goal.overflow_add-level-in-Two-2
overflow_add-level-in-Two-2 t c =
    let w = c.requires.walks in
    omega (arith, w.below, w.tree.few, c.requires.level_le_k)

pub put_plan-requires-in-Two : goal.put_plan-requires-in-Two
put_plan-requires-in-Two t c =
    let w = c.requires.walks in
    let e = sym c.inputs_of.ensures ∙ c.in-Two.is in
    let h = second-after w c.node_at-node.ensures e in
    (omega (arith, c.decreases, w.below, w.tree.few, h), (second-input w c.node_at-node.ensures e, omega (arith, c.requires.level_le_k, h)))

pub returns-in-Nothing : goal.returns-in-Nothing
returns-in-Nothing t c =
    leaf-plan c.requires.walks c.node_at-node.ensures _ (sym c.inputs_of.ensures ∙ c.in-Nothing.is) c.put_line-a.ensures

pub returns-in-One : goal.returns-in-One
returns-in-One t c =
    one_plan c.requires.walks c.node_at-node.ensures _ (sym c.inputs_of.ensures ∙ c.in-One.is) c.put_line-a.ensures c.put_plan.ensures

pub returns-in-Two : goal.returns-in-Two
returns-in-Two t c =
    two-plan c.requires.walks c.node_at-node.ensures (sym c.inputs_of.ensures ∙ c.in-Two.is) _ c.put_line-a.ensures c.put_plan-b.ensures c.put_plan-in-Two.ensures
