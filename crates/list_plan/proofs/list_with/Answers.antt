-- `list_plan::list_with` meets its contract: the arrays are long enough for the file. Assumes nothing.
use Rattle.acceptance.proofs.Rooms.{fitted_room}
use Prim.Native.Nat.{ℕ}
use lib.ListN.{length-replicate}
use Rattle.list_plan.proofs.list_with.Goals as goal

pub list_over-requires : goal.list_over-requires
list_over-requires g c =
    fitted_room _ (length-replicate {A = ℕ} 12288 0) (length-replicate {A = ℕ} 1792 0) (length-replicate {A = ℕ} 8208 0) (length-replicate {A = ℕ} 512 0) (length-replicate {A = ℕ} 2448 0) c.requires.fits
    (length-replicate {A = ℕ} _ 0) (length-replicate {A = ℕ} _ 0)
