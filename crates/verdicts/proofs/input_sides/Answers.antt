-- `verdicts::input_sides` meets its contract, kind by kind. Assumes nothing.
use Rattle.verdicts.proofs.References.{looked_at, looked_other}
use Rattle.verdicts.proofs.input_sides.Goals as goal

pub returns-in-Scan : goal.returns-in-Scan
returns-in-Scan c =
    λ C cells rows nm. looked_at cells rows c.in-Scan.is (c.table_sides.ensures C cells rows (rw c.in-Scan.is at nm))

pub returns-in_default : goal.returns-in_default
returns-in_default c =
    λ C cells rows nm. looked_other c.requires.ready cells rows c.args.node c.in_default.not-Scan
