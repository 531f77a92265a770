-- `predicate_writer::write_keys` meets its contract: the pairs are written as the rows of a join's list. Assumes nothing.
use Rattle.predicate_writer.proofs.Ends.{narrow, no_room, rows-bytes, rows_countable, written_out}
use Rattle.writer_parts.proofs.Over.{so}
use Rattle.writer_parts.specs.Lists.{which}
use lib.ListN.{length}
use mathlib.Core.Bool.{true}
use mathlib.Core.Path.{◌∙◌, ap, refl, sym}
use native.Mathlib.Omega.{arith}
use Rattle.predicate_writer.proofs.write_keys.Goals as goal

pub rows_of-requires : goal.rows_of-requires
rows_of-requires c =
    (omega (arith, c.requires.n_bound), narrow c.requires.n_bound.2 c.requires.keys_ok)

pub counted_size-size-requires-clause-countable : goal.counted_size-size-requires-clause-countable
counted_size-size-requires-clause-countable c =
    rows_countable _ (which true 0) refl c.rows_of.ensures c.requires.countable

pub returns-then-size-out : goal.returns-then-size-out
returns-then-size-out c =
    no_room _ _ (c.counted_size-size.ensures.bytes_are ∙ sym (ap length (rows-bytes _ (which true 0) refl c.rows_of.ensures))) c.if-size-out.true c.new.ensures

pub returns : goal.returns
returns c =
    written_out _ _ (omega (arith, c.write_counted.ensures.long, c.counted_size-size.ensures.bytes_are, c.if-size-out.false)) (so c.write_counted.ensures (sym (rows-bytes _ (which true 0) refl c.rows_of.ensures)) refl)
