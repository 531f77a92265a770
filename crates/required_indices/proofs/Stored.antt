-- A set whose words stand in an array: what the array holds where it was stored, and around it.
use mathlib.Core.Path.{◌≡◌, ◌∙◌, ap}
use mathlib.Core.List.{List, ◌++◌, append_assoc}
use Prim.Native.Nat.{ℕ, ◌+◌, ◌≤◌, ◌<◌}
use native.Mathlib.Omega.{arith}
use lib.ListN.{length, get_or, take, drop}
use lib.ListN.{get_or-append}
use lib.Seq.{paste, length-paste, take_at, drop_at, take_all, get_or-take, length-take-le}

-- an array with the n words s pasted at `at`
module _ (d : List ℕ) (at : ℕ) (s : List ℕ) (n : ℕ) (room : at + n ≤ length d) (long : length s ≡ n) where
  split : paste d at s n ≡ take at d ++ (s ++ drop (at + n) d)
  split = append_assoc (take at d) (take n s) (drop (at + n) d) ∙ ap (λ (x : List ℕ). take at d ++ (x ++ drop (at + n) d)) (take_all n s (omega arith))

  pub paste-part : take n (drop at (paste d at s n)) ≡ s
  paste-part = ap (λ (x : List ℕ). take n (drop at x)) split ∙ ap (take n) (drop_at (take at d) _ at (length-take-le at d (omega arith))) ∙ take_at s _ n long

  pub paste-below : (k : ℕ) → k < at → get_or (paste d at s n) k 0 ≡ get_or d k 0
  paste-below k h =
      let l : k < length (take at d) = omega (arith, length-take-le at d (omega arith)) in
      ap (λ (x : List ℕ). get_or x k 0) split ∙ get_or-append (take at d) _ 0 k l ∙ get_or-take at d k 0 h

  pub paste-long : length (paste d at s n) ≡ length d
  paste-long = length-paste d at s n room (omega arith)
