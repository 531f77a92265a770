-- `result::push_record` meets its contract.
use native.Mathlib.Omega.{arith}
use mathlib.Core.Path.{refl, sym}
use Rattle.result.proofs.Forms.{appended}
use Rattle.result.proofs.push_record.Goals as goal

pub returns-in-Kept : goal.returns-in-Kept
returns-in-Kept c =
    (refl, omega arith, appended _ (sym c.in-Kept.is) c.put_record.ensures)

pub returns-in-Columns : goal.returns-in-Columns
returns-in-Columns c =
    (refl, omega arith, appended _ (sym c.in-Columns.is) c.put_record-in-Columns.ensures)

pub returns-in-Items : goal.returns-in-Items
returns-in-Items c =
    (refl, omega arith, appended _ (sym c.in-Items.is) c.put_record-in-Items.ensures)

pub returns-in-Nothing : goal.returns-in-Nothing
returns-in-Nothing c =
    (refl, omega arith, appended _ (sym c.in-Nothing.is) c.put_record-in-Nothing.ensures)
