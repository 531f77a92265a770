-- `calls::write_answer` meets its contract: the line, and then the bytes. Assumes nothing.
use Rattle.calls.proofs.Texts.{answer-wrote}
use Rattle.listing.proofs.Puts.{counts}
use Prim.Native.Nat.{ℕ}
use lib.ListN.{length}
use mathlib.Core.List.{[], ◌∷◌}
use mathlib.Core.Path.{ap}
use native.Mathlib.Omega.{arith}
use Rattle.calls.proofs.write_answer.Goals as goal

pub returns : goal.returns
returns c =
    let w = answer-wrote c.args.code c.args.place c.args.bytes.now (ap (λ (i : ℕ). i ∷ length c.args.bytes.now ∷ c.args.place ∷ []) c.from.ensures) c.write_numbers-at.ensures.wrote c.put_text.ensures in record { wrote = w; counts = counts w (omega (arith, c.put_text.auto, c.write_numbers-at.auto)) }
