-- `parts::resolve_wins` meets its contract: what the windows passed find is told. Assumes nothing.
use Prim.Native.Nat.{◌-◌}
use Rattle.cpl.specs.Accept.{each_passes}
use Rattle.cpl.specs.Exprs.{win_exprs}
use Rattle.lookup.specs.Fields.{fields_of}
use Rattle.parts.proofs.Strides.{Told}
use Rattle.tree.specs.Rows.{AllAt, WinOk, win_at, win_size}
use Rattle.parts.proofs.resolve_wins.Given as goal

abbrev pub invariant-loop : goal.invariant-loop
invariant-loop l = Told (λ w. each_passes (win_exprs w) (fields_of l.schema)) (win_at l.rows l.cells) (win_size l.rows) l.first l.count l.row l.counter l.all × AllAt (WinOk l.rows l.cells) (win_size l.rows) l.row (l.count - l.counter)
