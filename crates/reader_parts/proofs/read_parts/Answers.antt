-- `read_parts` meets its contract. Assumes nothing.
use native.Mathlib.Omega.{arith}
use Rattle.std.proofs.lemmas.Result.{err_from_is_err_and}
use Rattle.reader_parts.specs.Parts.{store_of, reader_of}
use Rattle.reader_parts.proofs.Compose.{none_read, one_read, one_refused, all_read}
use Rattle.reader_parts.proofs.Parts.{sized_of, one-row}
use Rattle.reader_parts.proofs.read_parts.Goals as goal

pub loop-init : goal.loop-init
loop-init c =
    record { way = none_read (store_of c.args.kind) (reader_of c.args.kind) _ _ _ _ _ _ (omega arith) (omega arith); rows = omega arith }

pub read_part-requires : goal.read_part-requires
read_part-requires c =
    omega (arith, c.loop.invariant.way.few, c.loop.invariant.way.grown, c.loop.invariant.rows, c.requires)

pub returns-in_err-t : goal.returns-in_err-t
returns-in_err-t c =
    let p = err_from_is_err_and c.from_residual.result c.from_residual.ensures.1 in
    rw (p.1, p.2) (one_refused c.loop.invariant.way (omega arith) _ c.in_err-t.ensures)

pub loop-preserved : goal.loop-preserved
loop-preserved c =
    let g = c.in_ok-t.ensures 0 in
    record {
      way = one_read c.loop.invariant.way (sized_of c.args.kind) (omega arith) _ (omega arith) c.in_ok-t.ensures;
      rows = omega (arith, g.row_is, one-row c.args.kind g.value, c.loop.invariant.rows);
    }

pub returns : goal.returns
returns c =
    all_read c.loop.invariant.way (omega arith)
