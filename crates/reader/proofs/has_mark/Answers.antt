-- `has_mark` meets its contract. Assumes nothing.
use native.Mathlib.Omega.{arith}
use Rattle.reader.proofs.Files.{mark_short, mark_0, mark_1, mark_2, mark_4, mark_yes}
use Rattle.reader.proofs.has_mark.Goals as goal

pub returns-in_default : goal.returns-in_default
returns-in_default c = mark_short _ _ c.in_default.len_below

pub returns-in_default-2 : goal.returns-in_default-2
returns-in_default-2 c = mark_4 _ _ c.in_default.len_at_least (omega arith) (omega arith) (omega arith) (λ z. omega (arith, z))

pub returns-in_default-3 : goal.returns-in_default-3
returns-in_default-3 c = mark_2 _ _ c.in_default.len_at_least (omega arith) (omega arith) (λ z. omega (arith, z))

pub returns-in_default-4 : goal.returns-in_default-4
returns-in_default-4 c = mark_1 _ _ c.in_default.len_at_least (omega arith) (λ z. omega (arith, z))

pub returns-in_default-5 : goal.returns-in_default-5
returns-in_default-5 c = mark_0 _ _ c.in_default.len_at_least (λ z. omega (arith, z))

pub returns-in-67 : goal.returns-in-67
returns-in-67 c = mark_yes _ _ c.in-67.len_at_least (omega arith) (omega arith) (omega arith) (omega arith) c.from.ensures
