-- `sets_show::behind` meets its contract: what was split off a set goes back into it.
use borrow.Author.Rules.{rules}
use Prim.Native.Nat.{ℕ, ◌*◌, ◌^◌, ◌<◌}
use native.Mathlib.Nat.{lt_of_le_of_lt, div-mul-le_self}
use mathlib.Core.Path.{sym, subst}
use Rattle.required_indices.specs.Request.{words_n, set_of}
use Rattle.required_indices.proofs.Places.{words, set_lt}
use Rattle.sets_show.proofs.behind.Goals as goal

pub followed_by-requires : goal.followed_by-requires
followed_by-requires c =
    let r = c.args.r in
    let n = c.args.n in
    subst (λ (x : ℕ). x * 2 ^ n < 2 ^ (words_n * 64)) (sym c.split_off-s.ensures.holds_2.set)
    (lt_of_le_of_lt (div-mul-le_self (set_of r) (2 ^ n)) (set_lt r (search rules) (words r.indices (λ i. search rules))))
