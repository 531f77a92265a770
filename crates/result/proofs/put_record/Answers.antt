-- `result::put_record` meets its contract.
use borrow.Author.Rules.{rules}
use Prim.Native.Nat.{◌*◌}
use mathlib.Core.Path.{refl}
use Rattle.result.specs.Result.{record_n}
use Rattle.result.proofs.Forms.{record_stored}
use Rattle.result.proofs.put_record.Goals as goal

pub returns : goal.returns
returns c =
    record_stored c.args.records.now (c.args.i * record_n) c.args.form c.args.old c.args.first c.args.second c.args.set.now c.requires.lent (search rules) c.args.i refl _ c.store.ensures
