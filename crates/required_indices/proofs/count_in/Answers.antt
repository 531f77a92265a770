-- `required_indices::count_in` meets its contract.
use native.Mathlib.Omega.{arith}
use mathlib.Core.Path.{◌≡◌, ap}
use lib.Count.{ones}
use lib.ListN.{length, take, length-take, drop_of_length-le}
use lib.Seq.{get_or-take}
use Rattle.required_indices.specs.Request.{words_n}
use Rattle.required_indices.proofs.Pads.{words_take}
use Rattle.required_indices.proofs.Places.{words}
use Rattle.required_indices.proofs.Words.{ones_w, number-ones}
use Rattle.required_indices.proofs.Loops.{ones_turn, ones-most}
use Rattle.required_indices.proofs.count_in.Goals as goal

pub overflow_add-n : goal.overflow_add-n
overflow_add-n c =
    let ws = c.args.words.now in
    let few = length-take c.args.used ws in
    let long : length ws ≡ words_n = c.requires in
    let get = ap ones (get_or-take c.args.used ws c.loop-k.k 0 (omega arith)) in
    omega (arith, ones_turn (take c.args.used ws) c.loop-k.k (omega arith), ones-most (words_take c.args.used (words ws c.type_inv.words)), get)

pub loop-k-preserved : goal.loop-k-preserved
loop-k-preserved c =
    let ws = c.args.words.now in
    let few = length-take c.args.used ws in
    let long : length ws ≡ words_n = c.requires in
    let get = ap ones (get_or-take c.args.used ws c.loop-k.k 0 (omega arith)) in
    omega (arith, ones_turn (take c.args.used ws) c.loop-k.k (omega arith), ones-most (words_take c.args.used (words ws c.type_inv.words)), get)

pub returns : goal.returns
unfolding ones_w
returns c =
    let ws = c.args.words.now in
    let few = length-take c.args.used ws in
    let long : length ws ≡ words_n = c.requires in
    omega (arith, number-ones (words_take c.args.used (words ws c.type_inv.words)), ap ones_w (drop_of_length-le (take c.args.used ws) {i = c.loop-k.k} (omega arith)))
