-- The proof of the cycle of calls {accept_at}. The measure is the number of node numbers from the node on. Assumes nothing.
use Rattle.verdicts.proofs.Given.{head-same}
use Rattle.accept.proofs.Inputs.{kids_are}
use Rattle.accept.proofs.Plans.{ends_in, few_nodes, first-refused, input-fields, is-binary, is_leaf, is-unary, judged-is, leaf-checked, left-input, one-checked, one-refused, own-named, own-parts, ready-none, ready-one, ready-two, second-refused, side-is, two-checked, walk-left, walk-one, walk-right}
use Rattle.tree.specs.Tree.{lent}
use mathlib.Core.List.{[]}
use mathlib.Core.Path.{◌∙◌, refl}
use native.Mathlib.Omega.{arith}
use Rattle.std.proofs.lemmas.Result.{err_from_is_err_and}
use Rattle.accept.proofs.+accept_at.Goals as goal

pub node_at-node-requires : goal.node_at-node-requires
node_at-node-requires t c =
    (c.requires.1.tree.each c.args.k c.requires.1.here).numbers

pub overflow_add-left : goal.overflow_add-left
overflow_add-left t c =
    omega (arith, few_nodes c.requires.1)

pub own_verdict-requires : goal.own_verdict-requires
own_verdict-requires t c =
    let i = is_leaf c.requires.1 c.node_at-node.ensures ((rw c.in-Nothing.is at (kids_are c.node_at-node.result c.inputs_of.ensures)) (lent c.args.cells.now c.args.rows.now c.args.nodes.now)).1 in
    record {
      parts_ok = own-parts c.requires.1 c.node_at-node.ensures;
      sides_ready = (ready-none c.requires.1 i c.no_sides-sides.ensures, few_nodes c.requires.1, c.requires.1.wide);
    }

pub accept_at-requires : goal.accept_at-requires
accept_at-requires t c =
    let i = is-unary c.requires.1 c.node_at-node.ensures ((rw c.in-One.is at (kids_are c.node_at-node.result c.inputs_of.ensures)) (lent c.args.cells.now c.args.rows.now c.args.nodes.now)).1 in
    (omega (arith, c.decreases, few_nodes c.requires.1), (c.requires.0, walk-one c.requires.1 i))

pub returns-in_err-on-in-One : goal.returns-in_err-on-in-One
returns-in_err-on-in-One t c =
    let p = err_from_is_err_and c.from_residual.result c.from_residual.ensures.1 in
    rw (p.1, p.2) (λ C W.
    let i = is-unary W c.node_at-node.ensures ((rw c.in-One.is at (kids_are c.node_at-node.result c.inputs_of.ensures)) (lent c.args.cells.now c.args.rows.now c.args.nodes.now)).1 in
    one-refused W.tree.few i refl c.in_err-on-in-One.was (c.accept_at.ensures C (walk-one W i)))

pub own_verdict-requires-in-One : goal.own_verdict-requires-in-One
own_verdict-requires-in-One t c =
    let i = is-unary c.requires.1 c.node_at-node.ensures ((rw c.in-One.is at (kids_are c.node_at-node.result c.inputs_of.ensures)) (lent c.args.cells.now c.args.rows.now c.args.nodes.now)).1 in
    let F = c.accept_at.ensures c.requires.0 (walk-one c.requires.1 i) in
    record {
      parts_ok = own-parts c.requires.1 c.node_at-node.ensures;
      sides_ready = (ready-one c.requires.1 i c.in_ok-on-in-One.was F c.one_side-sides.ensures, few_nodes c.requires.1, omega (arith, c.requires.1.wide, (F.done _ c.in_ok-on-in-One.was).widths_kept.long));
    }

pub accept_at-requires-in-Two : goal.accept_at-requires-in-Two
accept_at-requires-in-Two t c =
    let kids = rw c.in-Two.is at (kids_are c.node_at-node.result c.inputs_of.ensures) in
    let i = is-binary c.requires.1 c.node_at-node.ensures kids.0 (kids.1 (lent c.args.cells.now c.args.rows.now c.args.nodes.now)).1 in
    (omega (arith, c.decreases, few_nodes c.requires.1), (c.requires.0, walk-left c.requires.1 i))

pub returns-in_err-mid-in-Two : goal.returns-in_err-mid-in-Two
returns-in_err-mid-in-Two t c =
    let p = err_from_is_err_and c.from_residual-in_err-mid-in-Two.result c.from_residual-in_err-mid-in-Two.ensures.1 in
    rw (p.1, p.2) (λ C W.
    let kids = rw c.in-Two.is at (kids_are c.node_at-node.result c.inputs_of.ensures) in
    let i = is-binary W c.node_at-node.ensures kids.0 (kids.1 (lent c.args.cells.now c.args.rows.now c.args.nodes.now)).1 in
    first-refused W.tree.few i refl c.in_err-mid-in-Two.was (c.accept_at-in-Two.ensures C (walk-left W i)))

pub accept_at-requires-in-Two-2 : goal.accept_at-requires-in-Two-2
accept_at-requires-in-Two-2 t c =
    let kids = rw c.in-Two.is at (kids_are c.node_at-node.result c.inputs_of.ensures) in
    let i = is-binary c.requires.1 c.node_at-node.ensures kids.0 (kids.1 (lent c.args.cells.now c.args.rows.now c.args.nodes.now)).1 in (
      omega (arith, c.decreases, few_nodes c.requires.1, i.after, i.below, c.requires.1.tree.few),
      (c.requires.0, walk-right c.requires.1 i c.in_ok-mid-in-Two.was (c.accept_at-in-Two.ensures c.requires.0 (walk-left c.requires.1 i))),
    )

pub returns-in_err-on-in-Two : goal.returns-in_err-on-in-Two
returns-in_err-on-in-Two t c =
    let p = err_from_is_err_and c.from_residual-in_err-on-in-Two.result c.from_residual-in_err-on-in-Two.ensures.1 in
    rw (p.1, p.2) (λ C W.
    let kids = rw c.in-Two.is at (kids_are c.node_at-node.result c.inputs_of.ensures) in
    let i = is-binary W c.node_at-node.ensures kids.0 (kids.1 (lent c.args.cells.now c.args.rows.now c.args.nodes.now)).1 in
    let F = c.accept_at-in-Two.ensures C (walk-left W i) in
    let G = c.accept_at-in-Two-2.ensures C (walk-right W i c.in_ok-mid-in-Two.was F) in
    second-refused W.tree.few i c.in_ok-mid-in-Two.was F refl c.in_err-on-in-Two.was G)

pub own_verdict-requires-in-Two : goal.own_verdict-requires-in-Two
own_verdict-requires-in-Two t c =
    let kids = rw c.in-Two.is at (kids_are c.node_at-node.result c.inputs_of.ensures) in
    let i = is-binary c.requires.1 c.node_at-node.ensures kids.0 (kids.1 (lent c.args.cells.now c.args.rows.now c.args.nodes.now)).1 in
    let F = c.accept_at-in-Two.ensures c.requires.0 (walk-left c.requires.1 i) in
    let G = c.accept_at-in-Two-2.ensures c.requires.0 (walk-right c.requires.1 i c.in_ok-mid-in-Two.was F) in
    record {
      parts_ok = own-parts c.requires.1 c.node_at-node.ensures;
      sides_ready = (
        ready-two c.requires.1 i c.in_ok-mid-in-Two.was F c.in_ok-on-in-Two.was G c.two_sides-sides.ensures,
        few_nodes c.requires.1,
        omega (arith, c.requires.1.wide, (F.done _ c.in_ok-mid-in-Two.was).widths_kept.long, (G.done _ c.in_ok-on-in-Two.was).widths_kept.long),
      );
    }

pub returns-in-Nothing : goal.returns-in-Nothing
returns-in-Nothing t c =
    λ C W.
    let kid = (rw c.in-Nothing.is at (kids_are c.node_at-node.result c.inputs_of.ensures)) (lent c.args.cells.now c.args.rows.now c.args.nodes.now) in
    leaf-checked (is_leaf W c.node_at-node.ensures kid.1) (judged-is (head-same c.args.cells.now c.args.rows.now [] c.args.nodes.now c.node_at-node.result ∙ kid.1) (c.own_verdict.ensures C W.most_is (own-named W c.node_at-node.ensures)))

pub returns-in_ok-on-in-One : goal.returns-in_ok-on-in-One
returns-in_ok-on-in-One t c =
    λ C W.
    let kid = (rw c.in-One.is at (kids_are c.node_at-node.result c.inputs_of.ensures)) (lent c.args.cells.now c.args.rows.now c.args.nodes.now) in
    let i = is-unary W c.node_at-node.ensures kid.1 in
    let F = c.accept_at.ensures C (walk-one W i) in
    one-checked W.tree.few i (ends_in W) c.in_ok-on-in-One.was F
    (side-is c.one_side-sides.ensures.0 c.one_side-sides.ensures.1 (input-fields c.in_ok-on-in-One.was F))
    (judged-is (head-same c.args.cells.now c.args.rows.now [] c.args.nodes.now c.node_at-node.result ∙ kid.1) (c.own_verdict-in-One.ensures C W.most_is (own-named W c.node_at-node.ensures)))

pub returns-in_ok-on-in-Two : goal.returns-in_ok-on-in-Two
returns-in_ok-on-in-Two t c =
    λ C W.
    let kids = rw c.in-Two.is at (kids_are c.node_at-node.result c.inputs_of.ensures) in
    let i = is-binary W c.node_at-node.ensures kids.0 (kids.1 (lent c.args.cells.now c.args.rows.now c.args.nodes.now)).1 in
    let F = c.accept_at-in-Two.ensures C (walk-left W i) in
    let G = c.accept_at-in-Two-2.ensures C (walk-right W i c.in_ok-mid-in-Two.was F) in
    two-checked W.tree.few i (ends_in W) c.in_ok-mid-in-Two.was F c.in_ok-on-in-Two.was G
    (side-is c.two_sides-sides.ensures.0 c.two_sides-sides.ensures.1 (left-input i c.in_ok-mid-in-Two.was F c.in_ok-on-in-Two.was G))
    (side-is c.two_sides-sides.ensures.2 c.two_sides-sides.ensures.3 (input-fields c.in_ok-on-in-Two.was G))
    (judged-is (head-same c.args.cells.now c.args.rows.now [] c.args.nodes.now c.node_at-node.result ∙ (kids.1 (lent c.args.cells.now c.args.rows.now c.args.nodes.now)).1) (c.own_verdict-in-Two.ensures C W.most_is (own-named W c.node_at-node.ensures)))
