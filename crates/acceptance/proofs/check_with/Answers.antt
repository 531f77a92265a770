-- `acceptance::check_with` meets its contract: the arrays are long enough for the file. Assumes nothing.
use Rattle.acceptance.proofs.Rooms.{fitted_room}
use Prim.Native.Nat.{ℕ}
use lib.ListN.{length-replicate}
use Rattle.acceptance.proofs.check_with.Goals as goal

pub read_and_check-requires : goal.read_and_check-requires
read_and_check-requires g c =
    fitted_room _ (length-replicate {A = ℕ} 12288 0) (length-replicate {A = ℕ} 1792 0) (length-replicate {A = ℕ} 8208 0) (length-replicate {A = ℕ} 512 0) (length-replicate {A = ℕ} 2448 0) c.requires.fits
    (length-replicate {A = ℕ} _ 0) (length-replicate {A = ℕ} _ 0)

pub returns : goal.returns
returns g c = rw c.from.ensures c.read_and_check.ensures.says
