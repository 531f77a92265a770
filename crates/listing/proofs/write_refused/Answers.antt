-- `listing::write_refused` meets its contract: five parts, one after the other. Assumes nothing.
use Rattle.listing.proofs.Digits.{short}
use Rattle.listing.proofs.Puts.{refused-wrote}
use mathlib.Core.Path.{refl}
use native.Mathlib.Omega.{arith}
use Rattle.listing.proofs.write_refused.Goals as goal

pub put_number-b-requires : goal.put_number-b-requires
put_number-b-requires c =
    omega (arith, c.requires, short c.from.result (omega (arith, c.from.ensures)), c.put_text-a.ensures.long, c.put_text-a.auto)

pub put_text-c-requires : goal.put_text-c-requires
put_text-c-requires c =
    omega (
      arith,
      c.requires,
      short c.from.result (omega (arith, c.from.ensures)),
      c.put_text-a.ensures.long,
      c.put_text-a.auto,
      c.put_number-b.ensures.long,
      c.put_number-b.auto,
    )

pub put_number-d-requires : goal.put_number-d-requires
put_number-d-requires c =
    omega (
      arith,
      c.requires,
      short c.from.result (omega (arith, c.from.ensures)),
      short c.args.place (omega arith),
      c.put_text-a.ensures.long,
      c.put_text-a.auto,
      c.put_number-b.ensures.long,
      c.put_number-b.auto,
      c.put_text-c.ensures.long,
      c.put_text-c.auto,
    )

pub put_text-requires : goal.put_text-requires
put_text-requires c =
    omega (
      arith,
      c.requires,
      short c.from.result (omega (arith, c.from.ensures)),
      short c.args.place (omega arith),
      c.put_text-a.ensures.long,
      c.put_text-a.auto,
      c.put_number-b.ensures.long,
      c.put_number-b.auto,
      c.put_text-c.ensures.long,
      c.put_text-c.auto,
      c.put_number-d.ensures.long,
      c.put_number-d.auto,
    )

pub returns : goal.returns
returns c =
    refused-wrote c.from.ensures refl c.put_text-a.ensures c.put_number-b.ensures c.put_text-c.ensures c.put_number-d.ensures
    c.put_text.ensures
