-- `result::record_at` meets its contract.
use native.Mathlib.Omega.{arith}
use Rattle.result.proofs.Forms.{form_columns, form_items, form_kept, form_nothing}
use Rattle.result.proofs.record_at.Goals as goal

pub returns-in-0 : goal.returns-in-0
returns-in-0 c =
    form_kept c.args.records.now c.args.i c.in-0.is

pub returns-in-1 : goal.returns-in-1
returns-in-1 c =
    form_columns c.args.records.now c.args.i c.in-1.is

pub returns-in-2 : goal.returns-in-2
returns-in-2 c =
    form_items c.args.records.now c.args.i c.in-2.is

pub returns-in_default : goal.returns-in_default
returns-in_default c =
    form_nothing c.args.records.now c.args.i (λ h. omega arith) (λ h. omega arith) (λ h. omega arith)
