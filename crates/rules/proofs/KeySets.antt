-- Only the members of a key count, neither their order nor how often they stand there: what is carried on and which groups stay are the same for two
-- keys with the same members. So a key may be held as a set of places.
use mathlib.Core.Path.{◌≡◌, refl, sym, ◌∙◌, ap, ap₂, subst, subst⁻¹}
use mathlib.Core.List.{List, [], ◌∷◌, map}
use mathlib.Core.Bool.{Bool, true, false, cond, not, ◌&&◌, ◌||◌, true≢false}
use mathlib.Core.Option.{Option, none, some}
use Prim.Native.Nat.{ℕ, zero, suc}
use lib.Dec.{T, eqb, eqb→eq, eqb_refl}
use lib.ListN.{take, get_or}
use Rattle.cpl.specs.Tests.{any_b, all_b}
use Rattle.cpl.proofs.Bools.{halves, both-T, left-T, right-T, nor, is_true, is_false, bool_eq}
use Rattle.cpl.proofs.Lists.{map_cong}
use Rattle.rules.specs.Mask.{Mask, or_m, ones}
use Rattle.rules.specs.Keys.{is_place, has_all, first_at, carried, is_key_place, kept_groups, member, fresh_place, fresh_at}

abbrev pub SameMembers : List ℕ → List ℕ → Type 0
SameMembers ks ls = (k : ℕ) → member k ks ≡ member k ls

-- ── tests over members ──────────────────────────────────────────────────────────────────────

module _ (p : ℕ → Bool) where
  -- all pass where every member does
  all-members : (ks : List ℕ) → ((k : ℕ) → T (member k ks) → T (p k)) → T (all_b p ks)
  unfolding any_b all_b
  all-members [] h = tt
  all-members (k ∷ ks) h = both-T (p k) (all_b p ks) (h k (left-T (eqb k k) (member k ks) (eqb_refl k))) (all-members ks (λ j t. h j (right-T (eqb j k) (member j ks) t)))

  each_member : (ks : List ℕ) → T (all_b p ks) → (k : ℕ) → T (member k ks) → T (p k)
  unfolding any_b all_b
  each_member [] t k m = absurd m
  each_member (j ∷ ks) t k m = let h = halves (p j) (all_b p ks) t in go (eqb k j) (λ e. e) m h.0 (each_member ks h.1 k)
    where
      go : (b : Bool) → (T b → T (eqb k j)) → T (b || member k ks) → T (p j) → (T (member k ks) → T (p k)) → T (p k)
      go true e m h f = subst⁻¹ (λ i. T (p i)) (eqb→eq k j (e tt)) h
      go false e m h f = f m

  -- some passes where a member does
  some-member : (ks : List ℕ) → T (any_b p ks) → (k : ℕ) × T (member k ks) × T (p k)
  unfolding any_b
  some-member [] t = absurd t
  some-member (j ∷ ks) t = go (p j) (λ e. e) t (some-member ks)
    where
      go : (b : Bool) → (T b → T (p j)) → T (b || any_b p ks) → (T (any_b p ks) → (k : ℕ) × T (member k ks) × T (p k)) → (k : ℕ) × T (member k (j ∷ ks)) × T (p k)
      go true e t f = (j, left-T (eqb j j) (member j ks) (eqb_refl j), e tt)
      go false e t f = let h = f t in (h.0, right-T (eqb h.0 j) (member h.0 ks) h.1, h.2)

  member-some : (ks : List ℕ) (k : ℕ) → T (member k ks) → T (p k) → T (any_b p ks)
  unfolding any_b
  member-some [] k m t = absurd m
  member-some (j ∷ ks) k m t = go (eqb k j) (λ e. e) m (λ m. member-some ks k m t)
    where
      go : (b : Bool) → (T b → T (eqb k j)) → T (b || member k ks) → (T (member k ks) → T (any_b p ks)) → T (p j || any_b p ks)
      go true e m f = left-T (p j) (any_b p ks) (subst (λ i. T (p i)) (eqb→eq k j (e tt)) t)
      go false e m f = right-T (p j) (any_b p ks) (f m)

  all_same : (ks ls : List ℕ) → SameMembers ks ls → all_b p ks ≡ all_b p ls
  all_same ks ls s =
      bool_eq (all_b p ks) (all_b p ls) (λ t. all-members ls (λ k m. each_member ks t k (subst⁻¹ T (s k) m))) (λ t. all-members ks (λ k m. each_member ls t k (subst T (s k) m)))

  any_same : (ks ls : List ℕ) → SameMembers ks ls → any_b p ks ≡ any_b p ls
  any_same ks ls s =
      bool_eq (any_b p ks) (any_b p ls) (λ t. let h = some-member ks t in member-some ls h.0 (subst T (s h.0) h.1) h.2) (λ t. let h = some-member ls t in member-some ks h.0 (subst⁻¹ T (s h.0) h.1) h.2)

any-map : (p : ℕ → Bool) (f : ℕ → ℕ) (ks : List ℕ) → any_b p (map f ks) ≡ any_b (λ k. p (f k)) ks
unfolding any_b
any-map p f [] = refl
any-map p f (k ∷ ks) = ap (p (f k) ||◌) (any-map p f ks)

-- ── keys ────────────────────────────────────────────────────────────────────────────────────

module _ (ks ls : List ℕ) (s : SameMembers ks ls) where
  has_same : (ps : List (Option ℕ)) → has_all ks ps ≡ has_all ls ps
  unfolding has_all
  has_same ps = all_same (λ k. any_b (is_place k) ps) ks ls s

  pub carried_same : (ps : List (Option ℕ)) → SameMembers (carried ks ps) (carried ls ps)
  unfolding carried
  carried_same ps k = ap (λ b. member k (cond b (map (λ j. first_at j ps) ks) [])) (has_same ps) ∙ go (has_all ls ps)
    where
      go : (b : Bool) → member k (cond b (map (λ j. first_at j ps) ks) []) ≡ member k (cond b (map (λ j. first_at j ps) ls) [])
      go true = any-map (eqb k) (λ j. first_at j ps) ks ∙ (any_same (λ j. eqb k (first_at j ps)) ks ls s ∙ sym (any-map (eqb k) (λ j. first_at j ps) ls))
      go false = refl

  key-place-same : (p : Option ℕ) → is_key_place ks p ≡ is_key_place ls p
  unfolding is_key_place
  key-place-same p = any_same (λ k. is_place k p) ks ls s

-- a key that has a member is no empty list
never_empty : {X : Type 0} (k : ℕ) (ks : List ℕ) → member k (k ∷ ks) ≡ false → X
unfolding any_b
never_empty k ks e = absurd (subst T e (left-T (eqb k k) (member k ks) (eqb_refl k)))

pub groups_same : (ks ls : List ℕ) → SameMembers ks ls → (ps : List (Option ℕ)) (R : Mask) → kept_groups ks ps R ≡ kept_groups ls ps R
unfolding kept_groups
groups_same [] [] s ps R = refl
groups_same [] (l ∷ ls) s ps R = never_empty l ls (unfold any_b in sym (s l))
groups_same (k ∷ ks) [] s ps R = never_empty k ks (unfold any_b in s k)
groups_same (k ∷ ks) (l ∷ ls) s ps R = ap₂ (λ b M. cond b (or_m R M) (ones ps)) (has_same (k ∷ ks) (l ∷ ls) s ps) (map_cong (key-place-same (k ∷ ks) (l ∷ ls) s) ps)

-- a key held as a place's test: a group is the key's column where its place is a member
pub key-place : (key : List ℕ) (i : ℕ) → is_key_place key (some i) ≡ member i key
unfolding is_key_place is_place
key-place key i = bool_eq _ _ (λ t. let h = some-member (λ k. eqb k i) key t in subst (λ j. T (member j key)) (eqb→eq h.0 i h.2) h.1) (λ t. member-some (λ k. eqb k i) key i t (eqb_refl i))

-- ── a carried key, place by place: what a loop over the items finds ─────────────────────────

place_is : (k : ℕ) (p : Option ℕ) → T (is_place k p) → p ≡ some k
unfolding is_place
place_is k none t = absurd t
place_is k (some i) t = ap some (sym (eqb→eq k i t))

-- a column's first place: it stands there, and not before
first_stands : (k : ℕ) (ps : List (Option ℕ)) → T (any_b (is_place k) ps) → (get_or ps (first_at k ps) none ≡ some k) × T (not (any_b (is_place k) (take (first_at k ps) ps)))
unfolding any_b first_at
first_stands k [] t = absurd t
first_stands k (p ∷ ps) t = go (is_place k p) refl t (first_stands k ps)
  where
    go : (b : Bool) → is_place k p ≡ b → T (b || any_b (is_place k) ps) → (T (any_b (is_place k) ps) → (get_or ps (first_at k ps) none ≡ some k) × T (not (any_b (is_place k) (take (first_at k ps) ps))))
        → let m = cond b 0 (suc (first_at k ps)) in (get_or (p ∷ ps) m none ≡ some k) × T (not (any_b (is_place k) (take m (p ∷ ps))))
    go true e t f = (place_is k p (subst⁻¹ T e tt), tt)
    go false e t f = let h = f t in (h.0, rw e h.1)

-- where it stands and did not stand before, it stands first
stands_first : (k : ℕ) (ps : List (Option ℕ)) (m : ℕ) → get_or ps m none ≡ some k → T (not (any_b (is_place k) (take m ps))) → first_at k ps ≡ m
unfolding any_b first_at
stands_first k [] m e t = absurd (let z : true ≡ false = cc in true≢false z)
stands_first k (p ∷ ps) zero e t = rw (here p e)
  where
    here : (p : Option ℕ) → p ≡ some k → is_place k p ≡ true
    here p e = subst⁻¹ (λ q. is_place k q ≡ true) e (unfold is_place in is_true (eqb k k) (eqb_refl k))
stands_first k (p ∷ ps) (suc m) e t = let h = nor (is_place k p) (any_b (is_place k) (take m ps)) t in rw (is_false (is_place k p) h.0) (ap suc (stands_first k ps m e h.1))

-- place m of the new key: all of the key is there, and m is fresh
pub carried_at : (key : List ℕ) (ps : List (Option ℕ)) (m : ℕ) → member m (carried key ps) ≡ (has_all key ps && fresh_at key ps m)
unfolding carried
carried_at key ps m = go (has_all key ps) (λ t. t)
  where
    each : T (has_all key ps) → (k : ℕ) → T (member k key) → T (any_b (is_place k) ps)
    each t = unfold has_all in each_member (λ k. any_b (is_place k) ps) key t

    there : T (has_all key ps) → T (any_b (λ k. eqb m (first_at k ps)) key) → T (fresh_at key ps m)
    there t a =
        let h = some-member (λ k. eqb m (first_at k ps)) key a in
        let k = h.0 in
        let f = first_stands k ps (each t k h.1) in
        subst⁻¹ (λ i. T (fresh_at key ps i)) (eqb→eq m (first_at k ps) h.2)
        (subst⁻¹ (λ p. T (fresh_place key (take (first_at k ps) ps) p)) f.0 (both-T (member k key) (not (any_b (is_place k) (take (first_at k ps) ps))) h.1 f.1))

    back : (p : Option ℕ) → get_or ps m none ≡ p → T (fresh_place key (take m ps) p) → T (any_b (λ k. eqb m (first_at k ps)) key)
    back none e t = absurd t
    back (some j) e t =
        let h = halves (member j key) (not (any_b (is_place j) (take m ps))) t in
        member-some (λ k. eqb m (first_at k ps)) key j h.0 (subst⁻¹ (λ i. T (eqb m i)) (stands_first j ps m e h.1) (eqb_refl m))

    go : (b : Bool) → (T b → T (has_all key ps)) → member m (cond b (map (λ k. first_at k ps) key) []) ≡ (b && fresh_at key ps m)
    go true t = any-map (eqb m) (λ k. first_at k ps) key ∙ bool_eq _ _ (there (t tt)) (back (get_or ps m none) refl)
    go false t = unfold any_b in refl
