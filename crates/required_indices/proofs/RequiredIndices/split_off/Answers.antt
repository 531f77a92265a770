-- `required_indices::RequiredIndices::split_off` meets its contract.
use borrow.Author.Rules.{rules}
use native.Mathlib.Omega.{arith}
use Prim.Native.Nat.{ℕ, ◌*◌, ◌^◌, ◌<◌}
use native.Mathlib.Nat.{lt_of_le_of_lt}
use mathlib.Core.Path.{sym, subst}
use lib.Pow.{shr_le}
use Rattle.required_indices.specs.Request.{words_n, set_of}
use Rattle.required_indices.proofs.Places.{words, set_lt}
use Rattle.required_indices.proofs.Slides.{slide_rest}
use Rattle.required_indices.proofs.RequiredIndices.split_off.Goals as goal

pub slide-rest-requires : goal.slide-rest-requires
slide-rest-requires c =
    let r = c.args.self in
    let n = c.args.n in record { up_bound = omega arith; n_bound = subst (λ (x : ℕ). x < 2 ^ (words_n * 64)) (sym (slide_rest (set_of r) n)) (lt_of_le_of_lt (shr_le (set_of r) n) (set_lt r (search rules) (words r.indices (λ i. search rules)))) }
