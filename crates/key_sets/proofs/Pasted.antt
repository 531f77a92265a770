-- A set that is stored in a slot is found there, and what other slots have stays. Assumes nothing.
use mathlib.Core.Path.{◌≡◌, refl, sym, ap, ap₂, ◌∙◌}
use mathlib.Core.Logic.{⊎_elim}
use mathlib.Core.List.{List, [], ◌∷◌}
use Prim.Native.Nat.{ℕ, suc, ◌+◌, ◌*◌, ◌-◌, ◌<◌, ◌≤◌, min}
use native.Mathlib.Omega.{arith}
use lib.ListN.{length, get_or, take, drop, length-drop}
use lib.Seq.{paste, drop-drop, drop-paste, ext_get_or, get_or-drop, get_or-take, length-take-le}
use Rattle.required_indices.specs.Request.{set_of, stored, stored_at, stored_n, words_n, words_of}
use Rattle.required_indices.specs.Words.{number}
use Rattle.required_indices.specs.declared.RequiredIndices.{RequiredIndices}
use Rattle.required_indices.proofs.Members.{side}
use Rattle.required_indices.proofs.Stored.{paste-below, paste-long, paste-part}
use Rattle.key_sets.specs.Slots.{PutKey, slot_at}

-- a list that starts with x and then has the n numbers ws
starts : (xs : List ℕ) (x n : ℕ) (ws : List ℕ) → take (suc n) xs ≡ x ∷ ws → (get_or xs 0 0 ≡ x) × (take n (drop 1 xs) ≡ ws)
starts [] x n ws e = absurd (let z : 0 ≡ suc (length ws) = ap length e in omega arith)
starts (y ∷ ys) x n ws e = (ap (λ (z : List ℕ). get_or z 0 0) e, ap (drop 1) e)

-- where nine numbers are the same, the set is
same_set : (s s' : List ℕ) (at : ℕ) → length s' ≡ length s → at + stored_n ≤ length s → ((k : ℕ) → at ≤ k → k < at + stored_n → get_or s' k 0 ≡ get_or s k 0) → stored_at s' at ≡ stored_at s at
same_set s s' at long room h =
    let n : ℕ = min (get_or s at 0) words_n in
    let e : min (get_or s' at 0) words_n ≡ n = ap (λ (x : ℕ). min x words_n) (h at (omega arith) (omega arith)) in
    let l = length-take-le n (drop (at + 1) s) (omega (arith, length-drop (at + 1) s)) in
    let l' = length-take-le n (drop (at + 1) s') (omega (arith, length-drop (at + 1) s')) in
    ap (λ (x : ℕ). number (take x (drop (at + 1) s'))) e
    ∙ ap number
    (ext_get_or 0 (take n (drop (at + 1) s')) (take n (drop (at + 1) s)) (l' ∙ sym l)
    (λ i b. get_or-take n (drop (at + 1) s') i 0 (omega arith) ∙ get_or-drop (at + 1) s' i 0 ∙ h (at + 1 + i) (omega arith) (omega arith) ∙ sym (get_or-take n (drop (at + 1) s) i 0 (omega arith) ∙ get_or-drop (at + 1) s i 0)))

module _ (s : List ℕ) (at : ℕ) (r : RequiredIndices) (room : at + stored_n ≤ length s) (few : length (words_of r) ≤ words_n) where
  after : List ℕ
  after = paste s at (stored r) (length (stored r))

  set_here : stored_at after at ≡ set_of r
  unfolding after
  set_here =
      let p = starts (drop at after) (length (words_of r)) (length (words_of r)) (words_of r) (paste-part s at (stored r) (length (stored r)) (omega arith) refl) in
      let c : get_or after at 0 ≡ length (words_of r) = ap (λ (y : ℕ). get_or after y 0) (let z : at ≡ at + 0 = omega arith in z) ∙ sym (get_or-drop at after 0 0) ∙ p.0 in
      let m : min (get_or after at 0) words_n ≡ length (words_of r) = omega (arith, c) in
      ap₂ (λ (y : ℕ) (z : List ℕ). number (take y z)) m (sym (drop-drop 1 at after)) ∙ ap number p.1

  above : (k : ℕ) → at + stored_n ≤ k → get_or after k 0 ≡ get_or s k 0
  unfolding after
  above k h =
      let n : ℕ = at + length (stored r) in
      let e : k ≡ n + (k - n) = omega arith in
      ap (λ (x : ℕ). get_or after x 0) e ∙ sym (get_or-drop n after (k - n) 0) ∙ ap (λ (x : List ℕ). get_or x (k - n) 0) (drop-paste s at (stored r) (length (stored r)) (omega arith) (omega arith))
      ∙ get_or-drop n s (k - n) 0 ∙ ap (λ (x : ℕ). get_or s x 0) (sym e)

  long : length after ≡ length s
  unfolding after
  long = paste-long s at (stored r) (length (stored r)) (omega arith) refl

  pub key_put : (slot : ℕ) → at ≡ slot * stored_n → (s' : List ℕ) → s' ≡ paste s at (stored r) (length (stored r)) → PutKey s s' slot (set_of r)
  unfolding after
  key_put slot e s' f = record {
    long = ap length f ∙ long;
    here = ap₂ stored_at f (sym e) ∙ set_here;
    others = λ x l d. ap (λ (z : List ℕ). slot_at z x) f ∙ same_set s after (x * stored_n) long l (λ k a b.
        ⊎_elim (λ (h : slot ≤ x). above k (let g : slot < x = omega arith in omega arith)) (λ (h : x < slot). paste-below s at (stored r) (length (stored r)) (omega arith) refl k (omega arith)) (side slot x));
  }
