-- `requests::with_windows` meets its contract. The invariant: what is left to be added are the picked windows from row `at` on. Assumes nothing.
use Prim.Native.Nat.{◌-◌}
use Rattle.cpl.specs.Exprs.{win_exprs}
use Rattle.cpl.specs.Tests.{concat_map}
use Rattle.rules.specs.Mask.{select}
use Rattle.required_indices.specs.Request.{request_mask, set_of}
use Rattle.tree.specs.Rows.{AllAt, WinOk, win_size, wins_at}
use Rattle.lookup.specs.Fields.{fields_of}
use Rattle.requests.proofs.Lists.{Picked}
use Rattle.requests.proofs.with_windows.Given as goal

abbrev pub invariant-loop-i : goal.invariant-loop-i
invariant-loop-i l =
    Picked (concat_map win_exprs (select (request_mask l.count l.kept) (wins_at l.rows l.cells l.first l.count))) win_exprs l.count (set_of l.kept) (fields_of l.schema) l.initial.out l.i (wins_at l.rows l.cells l.at (l.count - l.i)) l.out
    × AllAt (WinOk l.rows l.cells) (win_size l.rows) l.at (l.count - l.i)
