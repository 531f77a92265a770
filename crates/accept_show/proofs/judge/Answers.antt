-- `accept_show::judge` meets its contract: the tree is one that can be judged. Assumes nothing.
use Prim.Native.Nat.{ℕ}
use Rattle.accept_show.proofs.Node.{bare, bare-fits, judgeable}
use lib.ListN.{length-replicate}
use mathlib.Core.Path.{refl, sym}
use native.Mathlib.Omega.{arith}
use Rattle.accept_show.proofs.judge.Goals as goal

pub accept_node-verdict-requires : goal.accept_node-verdict-requires
accept_node-verdict-requires g c =
    (bare _, judgeable _ c.args.q c.args.n c.args.r c.args.m (bare _) (omega arith) c.requires (omega arith) _ _ _ _ refl (sym c.version1-version.ensures) (bare-fits _) refl (omega (arith, length-replicate {A = ℕ} 256 0)) (omega (arith, length-replicate {A = ℕ} 512 0)))
