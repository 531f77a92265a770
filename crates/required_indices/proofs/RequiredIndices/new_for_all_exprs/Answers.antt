-- `required_indices::RequiredIndices::new_for_all_exprs` meets its contract.
use borrow.Author.Rules.{rules}
use native.Mathlib.Omega.{arith}
use Prim.Native.Nat.{ℕ}
use mathlib.Core.Path.{◌≡◌, refl, ap, ◌∙◌}
use lib.ListN.{length, take}
use Rattle.required_indices.specs.Words.{number}
use Rattle.required_indices.specs.Request.{words_n}
use Rattle.required_indices.proofs.Parts.{all_start, all_turn, all_end}
use Rattle.required_indices.proofs.RequiredIndices.new_for_all_exprs.Goals as goal

pub loop-k-init : goal.loop-k-init
loop-k-init c =
    let long : length c.new-out.result.indices ≡ words_n = search rules in
    (all_start c.words_for-n.result c.args.width c.new-out.result.indices (omega (arith, c.words_for-n.ensures)), refl, c.new-out.ensures.flag)

pub loop-k-preserved : goal.loop-k-preserved
loop-k-preserved c = (
  all_turn c.words_for-n.result c.args.width c.loop-k.out.indices c.loop-k.k c.loop-k.invariant.0 c.saturating_sub.result c.low_bits.result (omega arith) c.saturating_sub.ensures c.low_bits.ensures,
  c.loop-k.invariant.1,
  c.loop-k.invariant.2,
)

pub returns : goal.returns
returns c =
    let e = c.words_for-n.ensures in
    record {
      set =
          ap (λ (x : ℕ). number (take x c.loop-k.out.indices)) c.loop-k.invariant.1
          ∙ all_end c.words_for-n.result c.args.width c.loop-k.out.indices c.loop-k.k c.loop-k.invariant.0 (omega arith) (omega arith);
      flag = c.loop-k.invariant.2;
    }
