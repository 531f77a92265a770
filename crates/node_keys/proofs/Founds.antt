-- What is found of a key among items, item by item, and what follows at the end. Assumes nothing.
use mathlib.Core.Path.{◌≡◌, refl, sym, ap, ap₂, subst, ◌∙◌}
use mathlib.Core.Logic.{⊎_elim}
use mathlib.Core.Bool.{Bool, true, false, cond, not, ◌&&◌, ◌||◌, true≢false}
use mathlib.Core.List.{List, [], ◌∷◌, ◌++◌, map}
use mathlib.Core.Option.{Option, none, some}
use Prim.Native.Nat.{ℕ, suc, ◌+◌, ◌-◌, ◌^◌, ◌≤◌, ◌<◌}
use native.Mathlib.Omega.{arith}
use borrow.Author.Tests.{eq-eqb, eqb-true, ne_eqb}
use lib.Bits.{bit_or}
use lib.Dec.{eqb}
use lib.ListN.{length, get_or, take, length-map, get_or-append, get_or-eq_default, get_or-map}
use lib.Seq.{ext_get_or, get_or-append-add, get_or-append_seam, take-append-le, take-append_seam}
use Rattle.cpl.specs.Tests.{all_b, any_b}
use Rattle.cpl.proofs.Bools.{and_left, and_right}
use Rattle.rules.specs.Keys.{carried, has_all, is_key_place, is_place, kept_groups, fresh_at, fresh_place, member}
use Rattle.rules.specs.Mask.{Mask, ones, or_m}
use Rattle.rules.proofs.KeySets.{carried_at, key-place}
use Rattle.required_indices.specs.Request.{Asks, Holds, flag_of, set_of}
use Rattle.required_indices.specs.Set.{has, set_mask}
use Rattle.required_indices.specs.declared.RequiredIndices.{RequiredIndices}
use Rattle.required_indices.proofs.Members.{has-none, has_or, has_single, side}
use Rattle.required_indices.proofs.Masks.{mask_at, mask-length}
use Rattle.required_indices.proofs.Methods.{all-asks, append_asks, asks}
use Rattle.key_sets.specs.Slots.{KeySet}
use Rattle.node_keys.specs.Found.{FoundIs}
use Rattle.node_keys.specs.declared.Found.{Found}
use Rattle.node_keys.proofs.Sets.{over-places, same-places}

-- ── yes and no ──────────────────────────────────────────────────────────────────────────────

or_false : (a : Bool) → (a || false) ≡ a
or_false true = refl
or_false false = refl

or_true : (a : Bool) → (a || true) ≡ true
or_true true = refl
or_true false = refl

and-false : (a : Bool) → (a && false) ≡ false
and-false true = refl
and-false false = refl

-- a test that is no at i stays as it is there with a no, and is yes there with a yes
bit_off : (P : ℕ → Bool) (i m : ℕ) → P i ≡ false → P m ≡ cond (eqb m i) false (P m)
bit_off P i m h = go (eqb m i) refl
  where
    go : (b : Bool) → eqb m i ≡ b → P m ≡ cond b false (P m)
    go true e = ap P (eqb-true m i e) ∙ h
    go false e = refl

bit-on : (P : ℕ → Bool) (i m : ℕ) → (P m || eqb i m) ≡ cond (eqb m i) true (P m)
bit-on P i m = go (eqb m i) refl
  where
    go : (b : Bool) → eqb m i ≡ b → (P m || eqb i m) ≡ cond b true (P m)
    go true e = ap (P m ||◌) (eq-eqb i m (sym (eqb-true m i e))) ∙ or_true (P m)
    go false e = ap (P m ||◌) (ne_eqb i m (λ z. true≢false (sym (eq-eqb m i (sym z)) ∙ e))) ∙ or_false (P m)

-- a set with one index more
with_one : (s : ℕ) {t : ℕ} (P : ℕ → Bool) (i : ℕ) → t ≡ bit_or s (2 ^ i) → ((m : ℕ) → has s m ≡ P m) → (m : ℕ) → has t m ≡ (P m || eqb i m)
with_one s P i e h m = ap (λ x. has x m) e ∙ has_or s (2 ^ i) m ∙ ap₂ ◌||◌ (h m) (has_single i m)

any_snoc : {A : Type 0} (p : A → Bool) (xs : List A) (x : A) → any_b p (xs ++ (x ∷ [])) ≡ (any_b p xs || p x)
unfolding any_b
any_snoc p [] x = or_false (p x)
any_snoc p (y ∷ xs) x = go (p y) (any_snoc p xs x)
  where
    go : (b : Bool) → any_b p (xs ++ (x ∷ [])) ≡ (any_b p xs || p x) → (b || any_b p (xs ++ (x ∷ []))) ≡ ((b || any_b p xs) || p x)
    go true e = refl
    go false e = e

-- ── places ──────────────────────────────────────────────────────────────────────────────────

key-none : (key : List ℕ) → is_key_place key none ≡ false
unfolding is_key_place is_place any_b
key-none [] = refl
key-none (k ∷ key) = key-none key

module _ (ps : List (Option ℕ)) where
  past : (m : ℕ) → length ps ≤ m → get_or ps m none ≡ none
  past m h = get_or-eq_default ps none h

  module _ (p : Option ℕ) where
    snoc_past : (m : ℕ) → length ps < m → get_or (ps ++ (p ∷ [])) m none ≡ none
    snoc_past m h =
        let e : m ≡ length ps + suc (m - length ps - 1) = omega arith in
        ap (λ x. get_or (ps ++ (p ∷ [])) x none) e ∙ get_or-append-add ps (p ∷ []) (suc (m - length ps - 1)) none

    snoc_here : get_or (ps ++ (p ∷ [])) (length ps) none ≡ p
    snoc_here = get_or-append_seam ps p [] none

    -- what depends on the item at m and those before it
    module _ (Q : List (Option ℕ) → Option ℕ → Bool) (no : (xs : List (Option ℕ)) → Q xs none ≡ false) where
      abbrev at : List (Option ℕ) → ℕ → Bool
      at xs m = Q (take m xs) (get_or xs m none)

      at_end : at ps (length ps) ≡ false
      at_end = ap (Q (take (length ps) ps)) (past (length ps) (omega arith)) ∙ no (take (length ps) ps)

      at_snoc : (m : ℕ) → at (ps ++ (p ∷ [])) m ≡ cond (eqb m (length ps)) (Q ps p) (at ps m)
      at_snoc m = ⊎_elim (λ (h : length ps ≤ m). ⊎_elim (λ (l : m ≤ length ps). here m (omega arith)) (λ (l : length ps < m). after m l) (side m (length ps))) (λ (h : m < length ps). before m h) (side (length ps) m)
        where
          here : (m : ℕ) → m ≡ length ps → at (ps ++ (p ∷ [])) m ≡ cond (eqb m (length ps)) (Q ps p) (at ps m)
          here m e = subst (λ x. at (ps ++ (p ∷ [])) x ≡ cond (eqb x (length ps)) (Q ps p) (at ps x)) (sym e)
              (ap₂ Q (take-append_seam ps (p ∷ [])) snoc_here ∙ sym (ap (λ b. cond b (Q ps p) (at ps (length ps))) (eq-eqb (length ps) (length ps) refl)))

          after : (m : ℕ) → length ps < m → at (ps ++ (p ∷ [])) m ≡ cond (eqb m (length ps)) (Q ps p) (at ps m)
          after m l =
              ap (Q (take m (ps ++ (p ∷ [])))) (snoc_past m l) ∙ no (take m (ps ++ (p ∷ [])))
              ∙ sym (ap (λ b. cond b (Q ps p) (at ps m)) (ne_eqb m (length ps) (λ e. omega arith)) ∙ ap (Q (take m ps)) (past m (omega arith)) ∙ no (take m ps))

          before : (m : ℕ) → m < length ps → at (ps ++ (p ∷ [])) m ≡ cond (eqb m (length ps)) (Q ps p) (at ps m)
          before m l =
              ap₂ Q (take-append-le m ps (p ∷ []) (omega arith)) (get_or-append ps (p ∷ []) none m l)
              ∙ sym (ap (λ b. cond b (Q ps p) (at ps m)) (ne_eqb m (length ps) (λ e. omega arith)))

-- ── one item more ───────────────────────────────────────────────────────────────────────────

fresh-none : (key : List ℕ) (xs : List (Option ℕ)) → fresh_place key xs none ≡ false
fresh-none key xs = refl

-- of no item
pub found_none : {f : Found} (key : List ℕ) → set_of f.seen ≡ 0 → set_of f.firsts ≡ 0 → set_of f.all ≡ 0 → FoundIs key [] f
unfolding any_b
found_none key a b c = record {
  seen_are = λ j. ap (λ x. has x j) a ∙ has-none j ∙ sym (and-false (member j key));
  firsts_are = λ m. ap (λ x. has x m) b ∙ has-none m;
  all_are = λ m. ap (λ x. has x m) c ∙ has-none m ∙ sym (key-none key);
}

module _ {key : List ℕ} {ps : List (Option ℕ)} {f : Found} (h : FoundIs key ps f) where
  abbrev key_at : List (Option ℕ) → Option ℕ → Bool
  key_at xs p = is_key_place key p

  -- the first items and all items, once an item's own answers are known
  firsts_off : (p : Option ℕ) → fresh_place key ps p ≡ false → (m : ℕ) → has (set_of f.firsts) m ≡ fresh_at key (ps ++ (p ∷ [])) m
  firsts_off p e m = h.firsts_are m ∙ bit_off (fresh_at key ps) (length ps) m (at_end ps p (fresh_place key) (fresh-none key)) ∙ sym (at_snoc ps p (fresh_place key) (fresh-none key) m ∙ ap (λ b. cond (eqb m (length ps)) b (fresh_at key ps m)) e)

  firsts-on : (p : Option ℕ) → fresh_place key ps p ≡ true → (t : ℕ) → t ≡ bit_or (set_of f.firsts) (2 ^ length ps) → (m : ℕ) → has t m ≡ fresh_at key (ps ++ (p ∷ [])) m
  firsts-on p e t d m = with_one (set_of f.firsts) (fresh_at key ps) (length ps) d h.firsts_are m ∙ bit-on (fresh_at key ps) (length ps) m ∙ sym (at_snoc ps p (fresh_place key) (fresh-none key) m ∙ ap (λ b. cond (eqb m (length ps)) b (fresh_at key ps m)) e)

  all_off : (p : Option ℕ) → is_key_place key p ≡ false → (m : ℕ) → has (set_of f.all) m ≡ is_key_place key (get_or (ps ++ (p ∷ [])) m none)
  all_off p e m = h.all_are m ∙ bit_off (λ x. is_key_place key (get_or ps x none)) (length ps) m (at_end ps p key_at (λ xs. key-none key)) ∙ sym (at_snoc ps p key_at (λ xs. key-none key) m ∙ ap (λ b. cond (eqb m (length ps)) b (is_key_place key (get_or ps m none))) e)

  all-on : (p : Option ℕ) → is_key_place key p ≡ true → (t : ℕ) → t ≡ bit_or (set_of f.all) (2 ^ length ps) → (m : ℕ) → has t m ≡ is_key_place key (get_or (ps ++ (p ∷ [])) m none)
  all-on p e t d m = with_one (set_of f.all) (λ x. is_key_place key (get_or ps x none)) (length ps) d h.all_are m ∙ bit-on (λ x. is_key_place key (get_or ps x none)) (length ps) m ∙ sym (at_snoc ps p key_at (λ xs. key-none key) m ∙ ap (λ b. cond (eqb m (length ps)) b (is_key_place key (get_or ps m none))) e)

  -- the columns, where the item brings none that was not there
  seen_off : (p : Option ℕ) → ((j : ℕ) → member j key ≡ true → is_place j p ≡ true → any_b (is_place j) ps ≡ true) → (j : ℕ) → has (set_of f.seen) j ≡ (member j key && any_b (is_place j) (ps ++ (p ∷ [])))
  seen_off p e j = h.seen_are j ∙ (go (member j key) refl (is_place j p) refl ∙ sym (ap (member j key &&◌) (any_snoc (is_place j) ps p)))
    where
      go : (a : Bool) → member j key ≡ a → (b : Bool) → is_place j p ≡ b → (a && any_b (is_place j) ps) ≡ (a && (any_b (is_place j) ps || b))
      go false x b y = refl
      go true x true y = e j x y ∙ sym (or_true (any_b (is_place j) ps))
      go true x false y = sym (or_false (any_b (is_place j) ps))

  -- and where it brings one
  seen_on : (i : ℕ) → member i key ≡ true → (t : ℕ) → t ≡ bit_or (set_of f.seen) (2 ^ i) → (j : ℕ) → has t j ≡ (member j key && any_b (is_place j) (ps ++ (some i ∷ [])))
  unfolding is_place
  seen_on i e t d j =
      with_one (set_of f.seen) (λ x. member x key && any_b (is_place x) ps) i d h.seen_are j
      ∙ (go (eqb j i) refl ∙ sym (ap (member j key &&◌) (any_snoc (is_place j) ps (some i))))
    where
      go : (b : Bool) → eqb j i ≡ b → ((member j key && any_b (is_place j) ps) || eqb i j) ≡ (member j key && (any_b (is_place j) ps || b))
      go true x =
          let z = eqb-true j i x in
          ap ((member j key && any_b (is_place j) ps) ||◌) (eq-eqb i j (sym z)) ∙ or_true (member j key && any_b (is_place j) ps)
          ∙ sym (ap₂ ◌&&◌ (ap (λ y. member y key) z ∙ e) (or_true (any_b (is_place j) ps)))
      go false x =
          ap ((member j key && any_b (is_place j) ps) ||◌) (ne_eqb i j (λ z. true≢false (sym (eq-eqb j i (sym z)) ∙ x))) ∙ or_false (member j key && any_b (is_place j) ps)
          ∙ sym (ap (member j key &&◌) (or_false (any_b (is_place j) ps)))

  -- a computed item
  pub found_computed : FoundIs key (ps ++ (none ∷ [])) f
  unfolding is_place
  found_computed = record {
    seen_are = seen_off none (λ j x y. absurd (true≢false (sym y)));
    firsts_are = firsts_off none refl;
    all_are = all_off none (key-none key);
  }

  module _ (i : ℕ) where
    -- a column that is none of the key
    pub found-other : member i key ≡ false → FoundIs key (ps ++ (some i ∷ [])) f
    unfolding is_place
    found-other e = record {
      seen_are = seen_off (some i) (λ j x y. absurd (true≢false (sym x ∙ ap (λ z. member z key) (eqb-true j i y) ∙ e)));
      firsts_are = firsts_off (some i) (ap (◌&& not (any_b (is_place i) ps)) e);
      all_are = all_off (some i) (key-place key i ∙ e);
    }

    module _ (e : member i key ≡ true) {f' : Found} (all-is : set_of f'.all ≡ bit_or (set_of f.all) (2 ^ length ps)) where
      -- one that was found before
      pub found-again : any_b (is_place i) ps ≡ true → set_of f'.seen ≡ set_of f.seen → set_of f'.firsts ≡ set_of f.firsts → FoundIs key (ps ++ (some i ∷ [])) f'
      unfolding is_place
      found-again d a b = record {
        seen_are = λ j. ap (λ x. has x j) a ∙ seen_off (some i) (λ j x y. ap (λ z. any_b (is_place z) ps) (eqb-true j i y) ∙ d) j;
        firsts_are = λ m. ap (λ x. has x m) b ∙ firsts_off (some i) (ap (λ x. member i key && not x) d ∙ and-false (member i key)) m;
        all_are = all-on (some i) (key-place key i ∙ e) (set_of f'.all) all-is;
      }

      -- one that was not
      pub found_first : any_b (is_place i) ps ≡ false → set_of f'.seen ≡ bit_or (set_of f.seen) (2 ^ i) → set_of f'.firsts ≡ bit_or (set_of f.firsts) (2 ^ length ps) → FoundIs key (ps ++ (some i ∷ [])) f'
      found_first d a b = record {
        seen_are = seen_on i e (set_of f'.seen) a;
        firsts_are = firsts-on (some i) (ap₂ (λ x y. x && not y) e d) (set_of f'.firsts) b;
        all_are = all-on (some i) (key-place key i ∙ e) (set_of f'.all) all-is;
      }

-- ── at the end ──────────────────────────────────────────────────────────────────────────────

module _ (p : ℕ → Bool) where
  pub all_true : (ks : List ℕ) → ((k : ℕ) → member k ks ≡ true → p k ≡ true) → all_b p ks ≡ true
  unfolding any_b all_b
  all_true [] h = refl
  all_true (k ∷ ks) h = ap₂ ◌&&◌ (h k (ap (◌|| member k ks) (eq-eqb k k refl))) (all_true ks (λ j m. h j (ap (eqb j k ||◌) m ∙ or_true (eqb j k))))

  all-each : (ks : List ℕ) → all_b p ks ≡ true → (k : ℕ) → member k ks ≡ true → p k ≡ true
  unfolding any_b all_b
  all-each [] e k m = absurd (true≢false (sym m))
  all-each (j ∷ ks) e k m = go (eqb k j) refl m (all-each ks (and_right (p j) (all_b p ks) e) k)
    where
      go : (b : Bool) → eqb k j ≡ b → (b || member k ks) ≡ true → (member k ks ≡ true → p k ≡ true) → p k ≡ true
      go true x m r = ap p (eqb-true k j x) ∙ and_left (p j) (all_b p ks) e
      go false x m r = r m

module _ {s : ℕ} {ks : List ℕ} {ps : List (Option ℕ)} {f : Found} (k : KeySet s ks) (h : FoundIs ks ps f) where
  -- all of the key was seen
  pub seen_all : eqb (set_of f.seen) s ≡ has_all ks ps
  unfolding has_all
  seen_all = go (has_all ks ps) refl
    where
      whole : has_all ks ps ≡ true → (j : ℕ) → (a : Bool) → member j ks ≡ a → (a && any_b (is_place j) ps) ≡ a
      whole e j true x = all-each (λ i. any_b (is_place i) ps) ks e j x
      whole e j false x = refl

      each : set_of f.seen ≡ s → (j : ℕ) → member j ks ≡ true → any_b (is_place j) ps ≡ true
      each z j m = sym (ap (◌&& any_b (is_place j) ps) m) ∙ (sym (h.seen_are j) ∙ (ap (λ x. has x j) z ∙ (k.members j ∙ m)))

      go : (b : Bool) → has_all ks ps ≡ b → eqb (set_of f.seen) s ≡ b
      go true e = eq-eqb (set_of f.seen) s (same-places (set_of f.seen) s (λ j. h.seen_are j ∙ (whole e j (member j ks) refl ∙ sym (k.members j))))
      go false e = ne_eqb (set_of f.seen) s (λ z. true≢false (sym (all_true (λ i. any_b (is_place i) ps) ks (each z)) ∙ e))

  pub carried_yes : eqb (set_of f.seen) s ≡ true → KeySet (set_of f.firsts) (carried ks ps)
  carried_yes e = record { members = λ m. h.firsts_are m ∙ sym (carried_at ks ps m ∙ ap (◌&& fresh_at ks ps m) (sym seen_all ∙ e)) }

  pub carried_no : {t : ℕ} → eqb (set_of f.seen) s ≡ false → t ≡ 0 → KeySet t (carried ks ps)
  carried_no e z = record { members = λ m. ap (λ x. has x m) z ∙ (has-none m ∙ sym (carried_at ks ps m ∙ ap (◌&& fresh_at ks ps m) (sym seen_all ∙ e))) }

  -- the groups that are key columns, as a mask
  all-mask : set_mask (length ps) (set_of f.all) ≡ map (is_key_place ks) ps
  all-mask =
      ext_get_or false (set_mask (length ps) (set_of f.all)) (map (is_key_place ks) ps) (mask-length (length ps) (set_of f.all) ∙ sym (length-map ps (is_key_place ks)))
      (λ i l. mask_at (length ps) (set_of f.all) i (omega (arith, mask-length (length ps) (set_of f.all))) ∙ (h.all_are i
      ∙ sym (ap (get_or (map (is_key_place ks) ps) i) (sym (key-none ks)) ∙ get_or-map (is_key_place ks) ps i none)))

  all-over : set_of f.all < 2 ^ length ps
  all-over = over-places (length ps) (set_of f.all) (λ i l. h.all_are i ∙ (ap (is_key_place ks) (past ps i l) ∙ key-none ks))

  pub groups_all : Asks f.all (map (is_key_place ks) ps)
  groups_all = asks (length ps) {b = flag_of f.all} (record { set = refl; flag = refl }) all-mask all-over

-- the empty set is no key
pub empty-key : {s : ℕ} {ks : List ℕ} → KeySet s ks → s ≡ 0 → ks ≡ []
unfolding any_b
empty-key {ks = []} k e = refl
empty-key {ks = j ∷ ks} k e = absurd (true≢false (sym (ap (◌|| member j ks) (eq-eqb j j refl)) ∙ (sym (k.members j) ∙ (ap (λ x. has x j) e ∙ has-none j))))

-- and a set that has something is one
some_key : {s : ℕ} (ks : List ℕ) (ps : List (Option ℕ)) (R : Mask) → KeySet s ks → eqb s 0 ≡ false → kept_groups ks ps R ≡ cond (has_all ks ps) (or_m R (map (is_key_place ks) ps)) (ones ps)
unfolding any_b kept_groups
some_key {s} [] ps R k e = absurd (true≢false (sym (eq-eqb s 0 (same-places s 0 (λ i. k.members i ∙ sym (has-none i)))) ∙ e))
some_key (j ∷ ks) ps R k e = refl

pub empty-carried : {s : ℕ} {ks : List ℕ} (ps : List (Option ℕ)) → KeySet s ks → eqb s 0 ≡ true → KeySet s (carried ks ps)
unfolding carried has_all all_b
empty-carried {s} {ks} ps k e = let z = empty-key k (eqb-true s 0 e) in subst (λ x. KeySet s (carried x ps)) (sym z) (subst (KeySet s) z k)

-- ── the groups that stay ────────────────────────────────────────────────────────────────────

module _ {s : ℕ} {ks : List ℕ} (ps : List (Option ℕ)) (R : Mask) (k : KeySet s ks) where
  pub kept_no_key : {out : RequiredIndices} {b : Bool} → eqb s 0 ≡ true → Holds out (2 ^ length ps - 1) b → Asks out (kept_groups ks ps R)
  unfolding kept_groups
  kept_no_key {out} e h = subst (λ x. Asks out (kept_groups x ps R)) (sym (empty-key k (eqb-true s 0 e))) (all-asks ps (length ps) refl h)

  module _ {f : Found} (found : FoundIs ks ps f) (some : eqb s 0 ≡ false) where
    kept_is : (a : Bool) → eqb (set_of f.seen) s ≡ a → kept_groups ks ps R ≡ cond a (or_m R (map (is_key_place ks) ps)) (ones ps)
    kept_is a e = some_key ks ps R k some ∙ ap (λ x. cond x (or_m R (map (is_key_place ks) ps)) (ones ps)) (sym (seen_all k found) ∙ e)

    pub kept-lacking : {out : RequiredIndices} {b : Bool} → eqb (set_of f.seen) s ≡ false → Holds out (2 ^ length ps - 1) b → Asks out (kept_groups ks ps R)
    kept-lacking {out} e h = subst (Asks out) (sym (kept_is false e)) (all-asks ps (length ps) refl h)

    pub kept-asked : {r out : RequiredIndices} {b : Bool} → eqb (set_of f.seen) s ≡ true → Asks r R → length R ≡ length ps → Holds out (bit_or (set_of r) (set_of f.all)) b → Asks out (kept_groups ks ps R)
    kept-asked {out = out} e a l h = subst (Asks out) (sym (kept_is true e)) (append_asks a (groups_all k found) (l ∙ sym (length-map ps (is_key_place ks))) h)
