-- `acceptance::read_and_check` meets its contract: refused by the reader or at a node, or accepted. Assumes nothing.
use Rattle.std.proofs.lemmas.Result.{err_from_is_err_and}
use Rattle.acceptance.proofs.Ways.{accept_ends, all-stand, are_bytes, got, judgeable, no_faults, refuse-node, refuse_read}
use mathlib.Core.Path.{refl, sym}
use native.Mathlib.Omega.{arith}
use Rattle.acceptance.proofs.read_and_check.Goals as goal

pub accept_node-requires : goal.accept_node-requires
accept_node-requires c =
    let g = got (rw c.in_ok-read.was at c.read_file.ensures) (are_bytes _ (λ i. omega (arith, c.type_inv.file i))) c.requires.cells_long c.requires.rows_long c.requires.nodes_long (omega (arith, c.requires.names_long, c.read_file.auto.names)) in
    (g.C, judgeable g c.requires.fields_long c.requires.widths_long)

pub returns-in_err-read : goal.returns-in_err-read
returns-in_err-read c =
    let p = err_from_is_err_and c.from_residual.result c.from_residual.ensures.1 in
    rw (p.1, p.2) (refuse_read _ _ _ _ _ _ _ _ (rw c.in_err-read.was at c.read_file.ensures))

pub returns-in_err-accept_node : goal.returns-in_err-accept_node
returns-in_err-accept_node c =
    let p = err_from_is_err_and c.from_residual-in_err-accept_node.result c.from_residual-in_err-accept_node.ensures.1 in
    let g = got (rw c.in_ok-read.was at c.read_file.ensures) (are_bytes _ (λ i. omega (arith, c.type_inv.file i))) c.requires.cells_long c.requires.rows_long c.requires.nodes_long (omega (arith, c.requires.names_long, c.read_file.auto.names)) in
    let k = rw c.in_err-accept_node.was at (c.accept_node.ensures g.C (judgeable g c.requires.fields_long c.requires.widths_long)) in
    rw (p.1, p.2) (refuse-node _ _ _ _ _ _ _ _ _ _ _ _ _ g.reads (sym k.says))

pub returns : goal.returns
returns c =
    let g = got (rw c.in_ok-read.was at c.read_file.ensures) (are_bytes _ (λ i. omega (arith, c.type_inv.file i))) c.requires.cells_long c.requires.rows_long c.requires.nodes_long (omega (arith, c.requires.names_long, c.read_file.auto.names)) in
    let k = rw c.in_ok-accept_node.was at (c.accept_node.ensures g.C (judgeable g c.requires.fields_long c.requires.widths_long)) in
    accept_ends _ _ _ _ _ _ _ _ _ _ g (no_faults k) (all-stand k _ g.whole) refl
