-- `listing::write_line` meets its contract: six parts, one after the other. Assumes nothing.
use Rattle.listing.proofs.Digits.{short}
use Rattle.listing.proofs.Puts.{kind_short, line_wrote}
use Rattle.tree.proofs.Plans.{node}
use mathlib.Core.Path.{refl}
use native.Mathlib.Omega.{arith}
use Rattle.listing.proofs.write_line.Goals as goal

pub put_number-a-requires : goal.put_number-a-requires
put_number-a-requires c =
    omega (arith, c.requires, short c.args.k (omega arith))

pub put_text-b-requires : goal.put_text-b-requires
put_text-b-requires c =
    omega (arith, c.requires, short c.args.k (omega arith), c.put_number-a.ensures.long, c.put_number-a.auto)

pub put_kind-c-requires : goal.put_kind-c-requires
put_kind-c-requires c =
    omega (
      arith,
      c.requires,
      short c.args.k (omega arith),
      c.put_number-a.ensures.long,
      c.put_number-a.auto,
      c.put_text-b.ensures.long,
      c.put_text-b.auto,
    )

pub put_text-d-requires : goal.put_text-d-requires
put_text-d-requires c =
    omega (
      arith,
      c.requires,
      short c.args.k (omega arith),
      kind_short c.args.node,
      c.put_number-a.ensures.long,
      c.put_number-a.auto,
      c.put_text-b.ensures.long,
      c.put_text-b.auto,
      c.put_kind-c.ensures.long,
      c.put_kind-c.auto,
    )

pub put_number-e-requires : goal.put_number-e-requires
put_number-e-requires c =
    omega (
      arith,
      c.requires,
      short c.args.k (omega arith),
      short c.args.width (omega (arith, c.well_formed.1.1.1.0)),
      kind_short c.args.node,
      c.put_number-a.ensures.long,
      c.put_number-a.auto,
      c.put_text-b.ensures.long,
      c.put_text-b.auto,
      c.put_kind-c.ensures.long,
      c.put_kind-c.auto,
      c.put_text-d.ensures.long,
      c.put_text-d.auto,
    )

pub put_text-requires : goal.put_text-requires
put_text-requires c =
    omega (
      arith,
      c.requires,
      short c.args.k (omega arith),
      short c.args.width (omega (arith, c.well_formed.1.1.1.0)),
      kind_short c.args.node,
      c.put_number-a.ensures.long,
      c.put_number-a.auto,
      c.put_text-b.ensures.long,
      c.put_text-b.auto,
      c.put_kind-c.ensures.long,
      c.put_kind-c.auto,
      c.put_text-d.ensures.long,
      c.put_text-d.auto,
      c.put_number-e.ensures.long,
      c.put_number-e.auto,
    )

pub returns : goal.returns
returns c =
    line_wrote _ refl c.put_number-a.ensures c.put_text-b.ensures c.put_kind-c.ensures c.put_text-d.ensures c.put_number-e.ensures
    c.put_text.ensures
