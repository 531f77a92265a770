-- The proof of the cycle of calls {read_plan}. The measure is the number of nodes left. Assumes nothing.
use Rattle.std.proofs.lemmas.Result.{err_from_is_err_and}
use Prim.Native.Nat.{◌+◌}
use native.Mathlib.Omega.{arith}
use Rattle.reader.proofs.Plans.{head_facts, plan_facts, plan_cut, plan_many, plan-head-bad, plan-leaf, plan-one, head_read, plan-first-bad, plan-two}
use Rattle.reader.proofs.Rooms.{after-head, after-plan}
use Rattle.reader.proofs.+read_plan.Goals as goal

pub returns-then-file-at : goal.returns-then-file-at
returns-then-file-at t c =
    λ C same wide. rw (c.new.ensures.0, c.new.ensures.1) (plan_cut C _ _ _ _ c.requires.made_le_tags.2 c.if-file-at.true)

pub returns-then-k-ge256 : goal.returns-then-k-ge256
returns-then-k-ge256 t c =
    λ C same wide. rw (c.new-then-k-ge256.ensures.0, c.new-then-k-ge256.ensures.1) (plan_many C _ _ _ _ c.requires.made_le_tags.2 c.if-file-at.false c.if-k-ge256.true)

pub read_plan-requires : goal.read_plan-requires
read_plan-requires t c =
    let a = rw (c.in_ok-head.was, c.in-One.is) at (c.read_head.ensures c.requires.made_le_tags.9.0 c.requires.made_le_tags.9.1 c.requires.made_le_tags.9.2 (c.args.k + 1)) in
    let g = head_facts a.1 in
    (omega (arith, c.decreases, c.if-k-ge256.false), ((omega (arith, g, c.requires.made_le_tags), omega (arith, g), omega (arith, c.if-k-ge256.false), after-head c.requires.known _ _ _ _ _ c.requires.made_le_tags.3 g.3, omega (arith, c.requires.made_le_tags), omega (arith, c.requires.made_le_tags), omega (arith, c.requires.made_le_tags), omega (arith, c.requires.made_le_tags), omega (arith, c.requires.made_le_tags), c.requires.made_le_tags.9), c.requires.known))

pub read_plan-requires-in-Two : goal.read_plan-requires-in-Two
read_plan-requires-in-Two t c =
    let a = rw (c.in_ok-head.was, c.in-Two.is) at (c.read_head.ensures c.requires.made_le_tags.9.0 c.requires.made_le_tags.9.1 c.requires.made_le_tags.9.2 (c.args.k + 1)) in
    let g = head_facts a.1 in
    (omega (arith, c.decreases, c.if-k-ge256.false), ((omega (arith, g, c.requires.made_le_tags), omega (arith, g), omega (arith, c.if-k-ge256.false), after-head c.requires.known _ _ _ _ _ c.requires.made_le_tags.3 g.3, omega (arith, c.requires.made_le_tags), omega (arith, c.requires.made_le_tags), omega (arith, c.requires.made_le_tags), omega (arith, c.requires.made_le_tags), omega (arith, c.requires.made_le_tags), c.requires.made_le_tags.9), c.requires.known))

pub returns-in_err-first-in-Two : goal.returns-in_err-first-in-Two
returns-in_err-first-in-Two t c =
    let p = err_from_is_err_and c.from_residual-in_err-first-in-Two.result c.from_residual-in_err-first-in-Two.ensures.1 in
    λ C same wide. let a = rw (c.in_ok-head.was, c.in-Two.is) at (c.read_head.ensures C same wide (c.args.k + 1)) in
    rw (p.1, p.2) (plan-first-bad C _ _ _ _ c.requires.made_le_tags.2 c.if-file-at.false c.if-k-ge256.false c.byte-t.ensures.0 (head_read c.requires.known C _ _ _ c.if-file-at.false c.if-k-ge256.false c.byte-t.ensures.0 _ _ _ _ _ _ a.1) (rw c.in_err-first-in-Two.was at (c.read_plan-in-Two.ensures C same wide)))

pub read_plan-requires-in-Two-2 : goal.read_plan-requires-in-Two-2
read_plan-requires-in-Two-2 t c =
    let a = rw (c.in_ok-head.was, c.in-Two.is) at (c.read_head.ensures c.requires.made_le_tags.9.0 c.requires.made_le_tags.9.1 c.requires.made_le_tags.9.2 (c.args.k + 1)) in
    let g = head_facts a.1 in
    let p = plan_facts c.requires.known (rw c.in_ok-first-in-Two.was at (c.read_plan-in-Two.ensures c.requires.made_le_tags.9.0 c.requires.made_le_tags.9.1 c.requires.made_le_tags.9.2) 257 (omega arith)) in
    (omega (arith, c.decreases, c.if-k-ge256.false, p), ((omega (arith, g, p, c.requires.made_le_tags), omega (arith, p), omega (arith, p), after-plan c.requires.known _ _ _ _ _ _ (after-head c.requires.known _ _ _ _ _ c.requires.made_le_tags.3 g.3) p.5, omega (arith, c.requires.made_le_tags), omega (arith, c.requires.made_le_tags), omega (arith, c.requires.made_le_tags), omega (arith, c.requires.made_le_tags), omega (arith, c.requires.made_le_tags), c.requires.made_le_tags.9), c.requires.known))

pub returns-in_err-head : goal.returns-in_err-head
returns-in_err-head t c =
    let p = err_from_is_err_and c.from_residual.result c.from_residual.ensures.1 in
    λ C same wide. rw (p.1, p.2) (plan-head-bad C _ _ _ _ c.requires.made_le_tags.2 c.if-file-at.false c.if-k-ge256.false c.byte-t.ensures.0 (rw c.in_err-head.was at (c.read_head.ensures C same wide (c.args.k + 1))))

pub returns-in-Leaf : goal.returns-in-Leaf
returns-in-Leaf t c =
    λ C same wide. let a = rw (c.in_ok-head.was, c.in-Leaf.is) at (c.read_head.ensures C same wide (c.args.k + 1)) in
    plan-leaf c.requires.known C _ _ _ c.if-file-at.false c.if-k-ge256.false c.byte-t.ensures.0 _ _ _ _ _ _ _ _ _ a.0 a.1 c.put_node.ensures

pub returns-in-One : goal.returns-in-One
returns-in-One t c =
    λ C same wide. let a = rw (c.in_ok-head.was, c.in-One.is) at (c.read_head.ensures C same wide (c.args.k + 1)) in
    plan-one c.requires.known C _ _ _ c.if-file-at.false c.if-k-ge256.false c.byte-t.ensures.0 _ _ _ _ _ _ _ _ _ _ _ a.0 a.1 c.put_node-in-One.ensures c.read_plan.result (c.read_plan.ensures C same wide)

pub returns-in_ok-first-in-Two : goal.returns-in_ok-first-in-Two
returns-in_ok-first-in-Two t c =
    λ C same wide. let a = rw (c.in_ok-head.was, c.in-Two.is) at (c.read_head.ensures C same wide (c.args.k + 1)) in
    plan-two c.requires.known C _ _ _ c.if-file-at.false c.if-k-ge256.false c.byte-t.ensures.0 _ _ _ _ _ _ _ _ _ _ _ _ _ _ _ _ a.0 a.1 (rw c.in_ok-first-in-Two.was at (c.read_plan-in-Two.ensures C same wide)) c.put_node-in-Two.ensures c.read_plan-in-Two-2.result (c.read_plan-in-Two-2.ensures C same wide)
