-- `required_indices::next_in` meets its contract.
use native.Mathlib.Omega.{arith}
use Prim.Native.Nat.{ℕ, ◌*◌, ◌+◌, ◌/◌, ◌^◌}
use mathlib.Core.Path.{◌≡◌, sym, ap, ◌∙◌, subst}
use lib.ListN.{length, get_or, take, length-take}
use lib.Seq.{get_or-take}
use mir.Val.{Fits}
use mir.Syntax.{w64}
use lib.Count.{count_trailing_zeros}
use Rattle.required_indices.specs.Request.{words_n, set_in, IsNext}
use Rattle.std.specs.Prelude.{Some}
use Rattle.required_indices.proofs.Pads.{words_take}
use Rattle.required_indices.proofs.Places.{words}
use Rattle.required_indices.proofs.Search.{search_turn, search_found, search_end}
use Rattle.required_indices.proofs.next_in.Goals as goal

pub returns-then-w-ne0 : goal.returns-then-w-ne0
returns-then-w-ne0 c =
    let ws = c.args.words.now in
    let k = c.loop-k.k in
    let at = c.loop-k.at in
    let hs = words_take c.args.used (words ws c.type_inv.words) in
    let get : get_or (take c.args.used ws) k 0 ≡ get_or ws k 0 = get_or-take c.args.used ws k 0 (omega arith) in
    let fits : Fits w64 (get_or ws k 0) = c.type_inv.words k in
    subst (λ (x : ℕ). IsNext (set_in ws c.args.used) c.args.from (Some (k * 64 + at + count_trailing_zeros 64 (x / 2 ^ at)))) get
    (search_found hs c.args.from k at c.loop-k.invariant (λ z. c.if-w-ne0.true (ap (λ (x : ℕ). x / 2 ^ at) (sym get) ∙ z)) (omega (arith, get, fits.fits)))

pub loop-k-preserved : goal.loop-k-preserved
loop-k-preserved c =
    let ws = c.args.words.now in
    let k = c.loop-k.k in
    let hs = words_take c.args.used (words ws c.type_inv.words) in
    let get : get_or (take c.args.used ws) k 0 ≡ get_or ws k 0 = get_or-take c.args.used ws k 0 (omega arith) in
    search_turn hs c.args.from k c.loop-k.at c.loop-k.invariant (ap (λ (x : ℕ). x / 2 ^ c.loop-k.at) get ∙ c.if-w-ne0.false)

pub returns : goal.returns
returns c =
    let ws = c.args.words.now in
    let hs = words_take c.args.used (words ws c.type_inv.words) in
    let long : length ws ≡ words_n = c.requires in
    let few = length-take c.args.used ws in
    search_end hs c.args.from c.loop-k.k c.loop-k.at c.loop-k.invariant (omega arith)
