-- `key_sets::put_key` meets its contract: by `key_put`. Assumes nothing.
use borrow.Author.Rules.{rules}
use native.Mathlib.Omega.{arith}
use Prim.Native.Nat.{◌*◌, ◌≤◌}
use mathlib.Core.Path.{◌≡◌, refl}
use lib.ListN.{length, length-take}
use Rattle.required_indices.specs.Request.{stored_n, words_n, words_of}
use Rattle.key_sets.proofs.Pasted.{key_put}
use Rattle.key_sets.proofs.put_key.Goals as goal

pub returns : goal.returns
returns c =
    let long : length c.args.key.indices ≡ words_n = search rules in
    let few : length (words_of c.args.key) ≤ words_n = omega (arith, length-take c.args.key.used c.args.key.indices) in
    key_put c.args.keys.now (c.args.slot * stored_n) c.args.key (search rules) few c.args.slot refl _ c.store.ensures
