-- What a loop that asks a request for the next index reads of a list in an array. Assumes nothing.
use mathlib.Core.Path.{◌≡◌, refl, sym, ap, ap₂, ◌∙◌}
use mathlib.Core.Bool.{true, false}
use mathlib.Core.List.{List, [], ◌∷◌, map}
use Prim.Native.Nat.{ℕ, suc, ◌+◌, ◌^◌, ◌<◌, ◌≤◌}
use native.Mathlib.Omega.{arith}
use lib.ListN.{length}
use Rattle.rules.specs.Mask.{Mask, select}
use Rattle.required_indices.specs.Request.{Asks, IsNext, flag_of, request_mask, set_of}
use Rattle.required_indices.specs.declared.RequiredIndices.{RequiredIndices}
use Rattle.std.proofs.Common.{Option, Some, None}
use Rattle.required_indices.proofs.Masks.{mask-length}
use Rattle.required_indices.proofs.Methods.{asks}
use Rattle.required_indices.proofs.Walk.{indices_at, indices_from, next-below, next-end, next_ge, next-step}
use Rattle.arena.specs.Rows.{item_at}
use Rattle.tree.specs.Rows.{list_at, one}
use Rattle.requests.proofs.Lists.{items-list}
use Rattle.projections.specs.Lists.{kept_items}

-- a request within n asks for its own mask over n
pub own-asks : (n : ℕ) (r : RequiredIndices) → set_of r < 2 ^ n → Asks r (request_mask n r)
own-asks n r h = asks n {b = flag_of r} (record { set = refl; flag = refl }) refl h

module _ {A : Type 0} (read : ℕ → A) (f : ℕ) where
  -- what the indices from `from` on choose
  abbrev pub chosen : ℕ → Mask → List A
  chosen from R = map (λ i. read (f + i)) (indices_at from R)

  from_there : (k : ℕ) (ks : Mask) → select ks (list_at read one (f + k) (length ks)) ≡ map (λ i. read (f + i)) (indices_from k ks)
  unfolding select list_at indices_from
  from_there k [] = refl
  from_there k (true ∷ ks) =
      let e : f + k + 1 ≡ f + suc k = omega arith in
      ap (read (f + k) ∷◌) (ap (λ (x : ℕ). select ks (list_at read one x (length ks))) e ∙ from_there (suc k) ks)
  from_there k (false ∷ ks) =
      let e : f + k + 1 ≡ f + suc k = omega arith in
      ap (λ (x : ℕ). select ks (list_at read one x (length ks))) e ∙ from_there (suc k) ks

  pub chosen-all : (n : ℕ) (R : Mask) → length R ≡ n → chosen 0 R ≡ select R (list_at read one f n)
  unfolding indices_at
  chosen-all n R e =
      let g : f ≡ f + 0 = omega arith in
      sym (ap₂ (λ (x y : ℕ). select R (list_at read one x y)) g (sym e) ∙ from_there 0 R)

  module _ (n : ℕ) (r : RequiredIndices) (h : set_of r < 2 ^ n) where
    pub chosen_none : chosen 0 (request_mask n r) ≡ select (request_mask n r) (list_at read one f n)
    chosen_none = chosen-all n (request_mask n r) (mask-length n (set_of r))

    module _ (from : ℕ) (out : Option ℕ) (g : IsNext (set_of r) from out) where
      pub chosen-next : (i : ℕ) → out ≡ Some i → chosen from (request_mask n r) ≡ read (f + i) ∷ chosen (i + 1) (request_mask n r)
      chosen-next i e = ap (map (λ j. read (f + j))) (next-step (own-asks n r h) from out g i e)

      pub chosen-end : out ≡ None → chosen from (request_mask n r) ≡ []
      chosen-end e = ap (map (λ j. read (f + j))) (next-end (own-asks n r h) from out g e)

-- an index that was found is among the n, at or above `from`
pub found : (n s : ℕ) → s < 2 ^ n → (from : ℕ) (out : Option ℕ) → IsNext s from out → (i : ℕ) → out ≡ Some i → (from ≤ i) × (i < n)
found n s h from out g i e = (next_ge s from out g i e, next-below s from out g i e n h)

-- the items that a request keeps
pub chosen-items : (items cells : List ℕ) (first n : ℕ) (r : RequiredIndices) → set_of r < 2 ^ n → chosen (item_at items cells) first 0 (request_mask n r) ≡ kept_items items cells first n r
chosen-items items cells first n r h = chosen_none (item_at items cells) first n r h ∙ ap (select (request_mask n r)) (sym (items-list items cells first n))
