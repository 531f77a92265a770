-- `required_indices::RequiredIndices::followed_by` meets its contract.
use native.Mathlib.Omega.{arith}
use Prim.Native.Nat.{ℕ, ◌*◌, ◌^◌, ◌<◌}
use mathlib.Core.Path.{sym, ap, subst, ◌∙◌}
use lib.Bits.{bit_or}
use Rattle.required_indices.specs.Request.{words_n, set_of}
use Rattle.required_indices.proofs.Slides.{slide_up}
use Rattle.required_indices.proofs.RequiredIndices.followed_by.Goals as goal

pub slide-moved-requires : goal.slide-moved-requires
slide-moved-requires c = record { up_bound = omega arith; n_bound = subst (λ (x : ℕ). x < 2 ^ (words_n * 64)) (sym (slide_up (set_of c.args.rest) c.args.n)) c.requires }

pub returns : goal.returns
returns c =
    record {
      set = c.append.ensures.set ∙ ap (bit_or (set_of c.args.self)) (c.slide-moved.ensures.set ∙ slide_up (set_of c.args.rest) c.args.n);
      flag = c.append.ensures.flag;
    }
