-- `listing::write_listing` meets its contract: the first line, and then the others. Assumes nothing.
use Rattle.listing.proofs.Digits.{short}
use Rattle.listing.proofs.Nodes.{lines_short}
use Rattle.listing.proofs.Puts.{listing-wrote}
use Rattle.catalogue.proofs.Names.{widths}
use mathlib.Core.Path.{refl}
use native.Mathlib.Omega.{arith}
use Rattle.listing.proofs.write_listing.Goals as goal

pub put_number-b-requires : goal.put_number-b-requires
put_number-b-requires c =
    omega (arith, c.requires.1, short c.args.count (omega arith), c.put_text-a.ensures.long, c.put_text-a.auto)

pub put_text-c-requires : goal.put_text-c-requires
put_text-c-requires c =
    omega (
      arith,
      c.requires.1,
      short c.args.count (omega arith),
      c.put_text-a.ensures.long,
      c.put_text-a.auto,
      c.put_number-b.ensures.long,
      c.put_number-b.auto,
    )

pub slice_bounds-write_lines-count : goal.slice_bounds-write_lines-count
slice_bounds-write_lines-count c =
    omega (
      arith,
      c.requires.1,
      short c.args.count (omega arith),
      c.put_text-a.ensures.long,
      c.put_text-a.auto,
      c.put_number-b.ensures.long,
      c.put_number-b.auto,
      c.put_text-c.ensures.long,
      c.put_text-c.auto,
    )

pub slice_bounds-write_lines-start : goal.slice_bounds-write_lines-start
slice_bounds-write_lines-start c =
    omega (
      arith,
      c.requires.1,
      short c.args.count (omega arith),
      c.put_text-a.ensures.long,
      c.put_text-a.auto,
      c.put_number-b.ensures.long,
      c.put_number-b.auto,
      c.put_text-c.ensures.long,
      c.put_text-c.auto,
    )

pub write_lines-n-requires : goal.write_lines-n-requires
write_lines-n-requires c = (
  c.requires.0,
  omega (
    arith,
    c.requires.1,
    short c.args.count (omega arith),
    c.put_text-a.ensures.long,
    c.put_text-a.auto,
    c.put_number-b.ensures.long,
    c.put_number-b.auto,
    c.put_text-c.ensures.long,
    c.put_text-c.auto,
  ),
)

pub overflow_add-result : goal.overflow_add-result
overflow_add-result c =
    omega (
      arith,
      c.requires.1,
      short c.args.count (omega arith),
      c.put_text-a.ensures.long,
      c.put_text-a.auto,
      c.put_number-b.ensures.long,
      c.put_number-b.auto,
      c.put_text-c.ensures.long,
      c.put_text-c.auto,
      c.write_lines-n.ensures.long,
      c.well_formed.0.0,
      lines_short c.args.nodes.now c.args.widths.now
          c.args.count (omega (arith, c.well_formed.1.1.1.0)) (λ j. omega (arith, c.shared_slice_known-2-1.given j)),
    )

pub returns : goal.returns
returns c =
    listing-wrote refl c.put_text-a.ensures c.put_number-b.ensures c.put_text-c.ensures c.write_lines-n.ensures
