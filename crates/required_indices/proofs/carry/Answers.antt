-- `required_indices::carry` meets its contract.
use native.Mathlib.Omega.{arith}
use Rattle.required_indices.proofs.Shifts.{shifted}
use Rattle.required_indices.proofs.carry.Goals as goal

pub returns-else-n-eq0 : goal.returns-else-n-eq0
returns-else-n-eq0 c = shifted c.args.w c.args.n (omega arith)
