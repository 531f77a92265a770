-- What an answer on a request stands for. "REQUEST: not strictly increasing or not below the root's field count; first such position"
use Rattle.std.specs.Prelude.{◌≡◌, false, List, ℕ, Result, Ok, Err}
use Rattle.std.proofs.Math.Option.{Option, none, some}
use Rattle.rules.specs.Request.{mask_of}
use Rattle.refusals.specs.declared.Reason.TheVariants as reason
use Rattle.refusals.specs.declared.Refusal.{Refusal}
use Rattle.required_indices.specs.Request.{Asks, flag_of}
use Rattle.required_indices.specs.declared.RequiredIndices.{RequiredIndices}

-- the set of the indices asked for; or refused at a position
abbrev pub RequestIs : (width : ℕ) (request : List ℕ) → Result RequiredIndices Refusal → (fault : Option ℕ) → Type 0
RequestIs width is (Ok set) none = Asks set (mask_of width is) × (flag_of set ≡ false)
RequestIs width is (Ok set) (some p) = ⊥
RequestIs width is (Err e) none = ⊥
RequestIs width is (Err e) (some p) = (e.reason ≡ reason.Request) × (e.place ≡ p)
