-- Requests: "Strictly increasing indices."
use Rattle.std.specs.Prelude.{List, [], ◌∷◌, map, true, false, ◌&&◌, ℕ, suc, eqb, ltb, leb}
use Rattle.std.proofs.Math.Option.{Option, none, some}
use Rattle.cpl.specs.Tests.{any_b, iota}
use Rattle.cpl.specs.Read.{pick}
use Rattle.rules.specs.Mask.{Mask}

-- the first position, counted on from `position`, whose index is below `least` or not below `width`
unfoldable pub fault_from : (position least width : ℕ) → List ℕ → Option ℕ
fault_from position least width [] = none
fault_from position least width (i ∷ is) =
    let rest = fault_from (suc position) (suc i) width is in
    pick (leb least i && ltb i width) rest (some position)

-- "REQUEST: not strictly increasing or not below the root's field count; first such position"
unfoldable pub request_fault : (width : ℕ) → List ℕ → Option ℕ
request_fault width is = fault_from 0 0 width is

-- the request as a mask over that many fields
unfoldable pub mask_of : (width : ℕ) → List ℕ → Mask
mask_of width is = map (λ i. any_b (eqb i) is) (iota 0 width)

-- the indices of a mask whose first field has the number `from`, in order: the request that it is
unfoldable pub indices_from : (from : ℕ) → Mask → List ℕ
indices_from from [] = []
indices_from from (true ∷ ks) = from ∷ indices_from (suc from) ks
indices_from from (false ∷ ks) = indices_from (suc from) ks
