-- `read_keys` meets its contract. Assumes nothing.
use native.Mathlib.Omega.{arith}
use mathlib.Core.Path.{refl, ◌∙◌}
use Rattle.std.proofs.lemmas.Result.{err_from_is_err_and}
use Rattle.key_sets.specs.Slots.{SlotIn}
use Rattle.versions.specs.Versions.{version_of}
use Rattle.catalogue.proofs.Keys.{all_keys, one_key, key_refused, no_key}
use Rattle.catalogue.proofs.read_keys.Goals as goal

pub loop-init : goal.loop-init
loop-init c = record { long = refl; each = λ C wide. all_keys (version_of c.args.version) C.tables _ _ _ _ _ (omega arith) c.new-taken.ensures }

pub read_key-requires : goal.read_key-requires
read_key-requires c =
    let w = c.loop.invariant.each c.requires.widths.0 c.requires.widths.1 in
    record { tables_bound = omega (arith, c.requires.tables_bound, c.loop.invariant.long); by_index = c.requires.by_index; widths = (c.requires.widths.0, w.before, c.requires.widths.1, w.stands) }

pub insert-requires : goal.insert-requires
insert-requires c =
    let w = c.loop.invariant.each c.requires.widths.0 c.requires.widths.1 in
    let h = rw c.in_ok-key.was at (c.read_key.ensures c.requires.widths.0 w.before c.requires.widths.1 w.stands) in
    omega (arith, h.2, c.requires.tables_bound)

pub returns-in_err-key : goal.returns-in_err-key
returns-in_err-key c =
    let p = err_from_is_err_and c.from_residual.result c.from_residual.ensures.1 in
    λ C wide. let w = c.loop.invariant.each C wide in
    rw (p.1, p.2) (key_refused w (omega arith) c.read_key.new.keys _ (rw c.in_err-key.was at (c.read_key.ensures C w.before wide w.stands)))

pub loop-preserved : goal.loop-preserved
loop-preserved c =
    let room : SlotIn c.loop.keys 15 = omega (arith, c.requires.tables_bound, c.loop.invariant.long) in
    record {
      long = c.read_key.auto.keys ∙ c.loop.invariant.long;
      each = λ C wide. let w = c.loop.invariant.each C wide in
          one_key w (omega arith) room _ c.read_key.new.keys c.in_ok-key.key (rw c.in_ok-key.was at (c.read_key.ensures C w.before wide w.stands)) c.insert.ensures.holds (omega arith);
    }

pub returns : goal.returns
returns c = λ C wide. no_key (c.loop.invariant.each C wide) (omega arith)
