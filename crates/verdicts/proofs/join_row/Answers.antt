-- `verdicts::join_row` meets its contract: a type that gives one side's fields. Assumes nothing.
use mathlib.Core.Logic.{inl, inr}
use Rattle.verdicts.proofs.Rowed.{row_same}
use Rattle.cpl.specs.Fields.{join_fields}
use Rattle.verdicts.proofs.join_row.Goals as goal

pub returns-in-LeftSemi : goal.returns-in-LeftSemi
unfolding join_fields
returns-in-LeftSemi c =
    let w = row_same c.same_row.ensures c.requires.before_left c.requires.clear_left in
    elim c.in-LeftSemi.is [ inl e ↦ rw e w | inr e ↦ rw e w ]

pub returns-in-RightSemi : goal.returns-in-RightSemi
unfolding join_fields
returns-in-RightSemi c =
    let w = row_same c.same_row-in-RightSemi.ensures c.requires.before_right c.requires.clear_right in
    elim c.in-RightSemi.is [ inl e ↦ rw e w | inr e ↦ rw e w ]
