-- `verdicts::table_sides` meets its contract: what is put is the table, name by name. Assumes nothing.
use Rattle.verdicts.proofs.References.{looked_none, looked_table, no_filters}
use mathlib.Core.Path.{refl}
use native.Mathlib.Omega.{arith}
use Rattle.verdicts.proofs.table_sides.Goals as goal

pub returns-then-s-eq0 : goal.returns-then-s-eq0
returns-then-s-eq0 c =
    λ C cells rows nm. looked_none c.requires.ready _ (no_filters rows cells _ _ _ _ _ c.if-s-eq0.true)

pub returns : goal.returns
returns c =
    λ C cells rows nm. looked_table c.args.names.now c.args.s.table c.args.s.qualifier _ _ nm c.columns-width.ensures (refl, refl, refl, refl, refl) (omega (arith, c.requires.ready.room, c.requires.inside.all_few)) c.scan_all.ensures
