-- A request of all fields is a right request; and the ways that `ask` can end.
use mathlib.Core.Path.{◌≡◌, refl, ◌∙◌, ap, subst⁻¹}
use mathlib.Core.List.{List}
use mathlib.Core.Bool.{Bool, true, false, ◌&&◌}
use mathlib.Core.Option.{none, some}
use Prim.Native.Nat.{ℕ, zero, suc, ◌+◌, ◌≤◌}
use native.Mathlib.Omega.{arith}
use lib.Dec.{leb, ltb, le→leb, lt→ltb}
use Rattle.std.specs.Prelude.{Result, Ok}
use Rattle.cpl.specs.Tests.{iota}
use Rattle.cpl.specs.Read.{pick}
use Rattle.cpl.proofs.Bools.{is_true}
use Rattle.rules.specs.Request.{fault_from, mask_of, request_fault}
use Rattle.required_indices.specs.Request.{Asks, flag_of}
use Rattle.request.specs.Requests.{RequestIs}
use Rattle.required_indices.specs.declared.RequiredIndices.{RequiredIndices}
use Rattle.refusals.specs.declared.Refusal.{Refusal}
use Rattle.intake.specs.Intake.{wanted}

from_all : (position from n width : ℕ) → from + n ≤ width → fault_from position from width (iota from n) ≡ none
unfolding fault_from iota
from_all position from zero width l = refl
from_all position from (suc n) width l =
    ap (λ b. pick (b && ltb from width) (fault_from (suc position) (suc from) width (iota (suc from) n)) (some position)) (is_true (leb from from) (le→leb from from (omega arith)))
    ∙ (ap (λ b. pick b (fault_from (suc position) (suc from) width (iota (suc from) n)) (some position)) (is_true (ltb from width) (lt→ltb from width (omega arith)))
    ∙ from_all (suc position) (suc from) n width (omega arith))

pub all_right : (width : ℕ) → request_fault width (iota 0 width) ≡ none
unfolding request_fault
all_right width = from_all 0 0 width width (omega arith)

-- ── the ways of `ask` ───────────────────────────────────────────────────────────────────────

pub ask-all : (all : Bool) (request : List ℕ) (width : ℕ) (set : RequiredIndices) → all ≡ true → Asks set (mask_of width (iota 0 width)) × (flag_of set ≡ false)
    → RequestIs width (wanted all request width) (Ok set) (request_fault width (wanted all request width))
unfolding wanted
ask-all all request width set e k = subst⁻¹ (λ b. RequestIs width (wanted b request width) (Ok set) (request_fault width (wanted b request width))) e
    (subst⁻¹ (RequestIs width (iota 0 width) (Ok set)) (all_right width) k)

pub ask_list : (all : Bool) (request : List ℕ) (width : ℕ) (r : Result RequiredIndices Refusal) → all ≡ false → RequestIs width request r (request_fault width request)
    → RequestIs width (wanted all request width) r (request_fault width (wanted all request width))
unfolding wanted
ask_list all request width r e k = subst⁻¹ (λ b. RequestIs width (wanted b request width) r (request_fault width (wanted b request width))) e k
