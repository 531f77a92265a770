-- `accept_show::place` meets its contract: its four fields do not clash. Assumes nothing.
use mathlib.Core.Path.{refl}
use mathlib.Core.Bool.{true}
use mathlib.Core.List.{[], ◌∷◌}
use native.Mathlib.Omega.{arith}
use Rattle.cpl.specs.Accept.{clash, conflict, half_named}
use Rattle.cpl.specs.Plan.{eq_p}
use Rattle.cpl.specs.Tests.{any_b}
use Rattle.lookup.specs.Fields.{RowClear}
use Rattle.tree.specs.Rows.{list_at}
use Rattle.accept_show.proofs.place.Goals as goal

four : RowClear (1 ∷ 1 ∷ 1 ∷ 2 ∷ 0 ∷ 3 ∷ 2 ∷ 1 ∷ []) 0 4 true
unfolding clash any_b conflict eq_p half_named list_at
four = record { inside = omega arith; clear = λ e. refl }

pub look_up-requires : goal.look_up-requires
look_up-requires g c = four
