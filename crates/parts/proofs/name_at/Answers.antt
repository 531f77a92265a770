-- `parts::name_at` meets its contract. Assumes nothing.
use Rattle.parts.proofs.Tables.{table-few, table-name}
use native.Mathlib.Omega.{arith}
use Rattle.parts.proofs.name_at.Goals as goal

pub overflow_mul-result : goal.overflow_mul-result
overflow_mul-result c =
    omega (arith, c.requires.table_in.inside, c.requires.i_in_bounds, table-few c.args.names.now c.args.t c.requires.table_in)

pub overflow_add-result : goal.overflow_add-result
overflow_add-result c =
    omega (arith, c.requires.table_in.inside, c.requires.i_in_bounds, table-few c.args.names.now c.args.t c.requires.table_in)

pub overflow_add-result-2 : goal.overflow_add-result-2
overflow_add-result-2 c =
    omega (arith, c.requires.table_in.inside, c.requires.i_in_bounds, table-few c.args.names.now c.args.t c.requires.table_in)

pub offset_bounds-names-t : goal.offset_bounds-names-t
offset_bounds-names-t c =
    omega (arith, c.requires.table_in.inside, c.requires.i_in_bounds, table-few c.args.names.now c.args.t c.requires.table_in)

pub bounds-names-t : goal.bounds-names-t
bounds-names-t c =
    omega (arith, c.requires.table_in.inside, c.requires.i_in_bounds, table-few c.args.names.now c.args.t c.requires.table_in)

pub returns : goal.returns
returns c =
    table-name c.args.names.now c.args.t c.args.i c.requires.table_in c.requires.i_in_bounds
