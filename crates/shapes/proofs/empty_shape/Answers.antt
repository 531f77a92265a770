-- `shapes::empty_shape` meets its contract. Assumes nothing.
use Rattle.std.proofs.Common.{Bool, true, false, ◌≡◌, refl, ◌∙◌}
use Rattle.std.specs.Int.{from_bool}
use Rattle.cpl.specs.Codes.{bit}
use Rattle.shapes.proofs.empty_shape.Goals as goal

bit_is : (b : Bool) → from_bool b ≡ bit b
unfolding bit
bit_is true = refl
bit_is false = refl

pub returns : goal.returns
returns c =
    c.plain.ensures ∙ rw (c.from.ensures, c.all_of.ensures, bit_is c.args.one_row)
