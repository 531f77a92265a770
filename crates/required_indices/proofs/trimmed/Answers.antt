-- `required_indices::trimmed` meets its contract.
use native.Mathlib.Omega.{arith}
use Prim.Native.Nat.{◌-◌}
use Rattle.required_indices.proofs.Pads.{trim}
use Rattle.required_indices.proofs.trimmed.Goals as goal

pub returns-then-words-n-eq0 : goal.returns-then-words-n-eq0
returns-then-words-n-eq0 c =
    trim c.args.n (c.args.n - 1) c.args.words.now (omega arith) c.if-words-n-eq0.true
