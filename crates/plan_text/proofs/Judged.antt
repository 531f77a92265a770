-- Demands come in the order in which a file is read: laws of readers that refuse exactly where a demand is not met, with its code. Assumes nothing.
use mathlib.Core.Path.{◌≡◌, refl, sym, ◌∙◌}
use mathlib.Core.List.{List, [], ◌∷◌, ◌++◌, append-nil}
use mathlib.Core.Bool.{Bool, true, false}
use Prim.Native.Nat.{ℕ, suc, ◌+◌, ◌^◌, ◌<◌, ◌≤◌}
use native.Mathlib.Omega.{arith}
use borrow.Author.Tests.{le-leb}
use lib.Dec.{ltb, leb}
use lib.ListN.{length, length-append}
use Rattle.cpl.specs.Lists.{All, a[], ◌a∷◌}
use Rattle.cpl.specs.Tests.{concat_map}
use Rattle.cpl.specs.Limits.{max_nodes, max_tags}
use Rattle.cpl.specs.Codes.{VALUE, MANY}
use Rattle.cpl.specs.Bytes.{bytes, counted_bytes}
use Rattle.cpl.specs.Read.{Res, ok, bad, Reader, and_then, ◌>>=◌, give, refuse, pick, here, value, count, any, tag, times, counted}
use Rattle.cpl.proofs.Stands.{Stands, stands_first, stands_rest}
use Rattle.cpl.proofs.Codec.{same_ok, Reads}
use Rattle.cpl.proofs.FieldTrip.{field_codec}
use Rattle.plan_text.specs.Sizes.{Demand, allowed, few, tagged, Weighed, fine, unmet, weigh, list_asks}
use Rattle.plan_text.proofs.SizesTrip.{tags_in, fine_met}

-- ── what a reader owes its demands ──────────────────────────────────────────────────────────

-- the outcome of reading a, where the demands were weighed so
abbrev pub Agrees : {A : Type 0} → A → (at n : ℕ) → Weighed → Res A → Type 0
Agrees a at n (fine t) r = r ≡ ok a at t n
Agrees a at n (unmet code) r = (place : ℕ) × (r ≡ bad code place)

-- where the bytes bs stand, with at least `low` tags before, p reads a, or refuses with the code of the first demand that is not met
pub record Judged {A : Type 0} (low : ℕ) (p : Reader A) (a : A) (bs : List ℕ) (ds : List Demand) : Type 0 where
  pub judges : (file : List ℕ) (at t n : ℕ) → Stands file at bs → low ≤ t → t ≤ max_tags → n ≤ max_nodes → Agrees a (at + length bs) n (weigh t ds) (p file at t n)

agrees_at : {A : Type 0} (a : A) {at at' : ℕ} (n : ℕ) (w : Weighed) (r : Res A) → at ≡ at' → Agrees a at n w r → Agrees a at' n w r
agrees_at a n w r e h = rw (← e) h

agrees_as : {A : Type 0} (a : A) (at n : ℕ) {w w' : Weighed} (r : Res A) → w ≡ w' → Agrees a at n w r → Agrees a at n w' r
agrees_as a at n r e h = rw (← e) h

pub judged_up : {A : Type 0} {low low' : ℕ} {p : Reader A} {a : A} {bs : List ℕ} {ds : List Demand} → low ≤ low' → Judged low p a bs ds → Judged low' p a bs ds
judged_up l j = record { judges = λ file at t n s k m o. j.judges file at t n s (omega arith) m o }

pub judged_as : {A : Type 0} {low : ℕ} {p : Reader A} {a a' : A} {bs bs' : List ℕ} {ds ds' : List Demand} → a ≡ a' → bs ≡ bs' → ds ≡ ds' → Judged low p a bs ds → Judged low p a' bs' ds'
judged_as e f g j = rw (← e, ← f, ← g) j

-- demands in a row
weigh-on : (ds es : List Demand) (t t' : ℕ) → weigh t ds ≡ fine t' → weigh t (ds ++ es) ≡ weigh t' es
unfolding weigh
weigh-on [] es t t' e = let same : t ≡ t' = cc in rw same
weigh-on (allowed true ∷ ds) es t t' e = weigh-on ds es t t' e
weigh-on (allowed false ∷ ds) es t t' e = cc
weigh-on (few true ∷ ds) es t t' e = weigh-on ds es t t' e
weigh-on (few false ∷ ds) es t t' e = cc
weigh-on (tagged ∷ ds) es t t' e = go (weigh-on ds es (suc t) t') (ltb t max_tags) e
  where
    go : (weigh (suc t) ds ≡ fine t' → weigh (suc t) (ds ++ es) ≡ weigh t' es) → (b : Bool) → pick b (weigh (suc t) ds) (unmet MANY) ≡ fine t' →
        pick b (weigh (suc t) (ds ++ es)) (unmet MANY) ≡ weigh t' es
    go self true e = self e
    go self false e = cc

weigh_off : (ds es : List Demand) (t code : ℕ) → weigh t ds ≡ unmet code → weigh t (ds ++ es) ≡ unmet code
unfolding weigh
weigh_off [] es t code e = cc
weigh_off (allowed true ∷ ds) es t code e = weigh_off ds es t code e
weigh_off (allowed false ∷ ds) es t code e = e
weigh_off (few true ∷ ds) es t code e = weigh_off ds es t code e
weigh_off (few false ∷ ds) es t code e = e
weigh_off (tagged ∷ ds) es t code e = go (weigh_off ds es (suc t) code) (ltb t max_tags) e
  where
    go : (weigh (suc t) ds ≡ unmet code → weigh (suc t) (ds ++ es) ≡ unmet code) → (b : Bool) → pick b (weigh (suc t) ds) (unmet MANY) ≡ unmet code →
        pick b (weigh (suc t) (ds ++ es)) (unmet MANY) ≡ unmet code
    go self true e = self e
    go self false e = e

-- ── how they are put together ───────────────────────────────────────────────────────────────

pub judged-give : {A : Type 0} {low : ℕ} {a : A} → Judged low (give a) a [] []
unfolding weigh
judged-give {a = a} = record { judges = λ file at t n s l m o. same_ok a (omega arith) refl refl }

pub judged_then : {A B : Type 0} {low : ℕ} {p : Reader A} (k : A → Reader B) {a : A} {b : B} {xs ys : List ℕ} {ds es : List Demand} →
    Judged low p a xs ds → Judged (low + tags_in ds) (k a) b ys es → Judged low (p >>= k) b (xs ++ ys) (ds ++ es)
judged_then {low = low} {p} k {a} {b} {xs} {ys} {ds} {es} j q =
    record {
      judges =
          λ file at t n s l m o.
          agrees_at b n (weigh t (ds ++ es)) ((p >>= k) file at t n) (omega (arith, length-append xs ys))
          (go file at t n l m o (weigh t ds) refl (p file at t n) (j.judges file at t n (stands_first file xs ys at s) l m o)
          λ t' l' m'. q.judges file (at + length xs) t' n (stands_rest file xs ys at s) l' m' o);
    }
  where
    go : (file : List ℕ) (at t n : ℕ) → low ≤ t → t ≤ max_tags → n ≤ max_nodes → (w : Weighed) → weigh t ds ≡ w → (r : Res _) → Agrees a (at + length xs) n w r →
        ((t' : ℕ) → low + tags_in ds ≤ t' → t' ≤ max_tags → Agrees b (at + length xs + length ys) n (weigh t' es) (k a file (at + length xs) t' n)) →
        Agrees b (at + length xs + length ys) n (weigh t (ds ++ es)) (and_then r (λ a at' tags' nodes'. k a file at' tags' nodes'))
    go file at t n l m o (fine t') e r h f =
        let z = fine_met ds t t' m e in
        agrees_as b _ n _ (sym (weigh-on ds es t t' e)) (rw h (f t' (omega (arith, z.tags)) z.within))
    go file at t n l m o (unmet code) e r h f = agrees_as b _ n _ (sym (weigh_off ds es t code e)) (h.0, rw h.1)

-- p, and what was read put into f
pub judged-map : {A B : Type 0} {low : ℕ} {p : Reader A} (f : A → B) {a : A} {bs : List ℕ} {ds : List Demand} → Judged low p a bs ds → Judged low (p >>= λ x. give (f x)) (f a) bs ds
judged-map f {bs = bs} {ds = ds} j =
    judged_as refl (append-nil bs) (append-nil ds) (judged_then (λ x. give (f x)) j judged-give)

pub judged-here : {A : Type 0} {low : ℕ} (k : ℕ → Reader A) {a : A} {bs : List ℕ} {ds : List Demand} → ((at : ℕ) → Judged low (k at) a bs ds) → Judged low (here >>= k) a bs ds
judged-here k j = record { judges = λ file at t n s l m o. (j at).judges file at t n s l m o }

pub judged_yes : {A : Type 0} {low : ℕ} (b : Bool) {p : Reader A} (q : Reader A) {a : A} {bs : List ℕ} {ds : List Demand} → b ≡ true → Judged low p a bs ds → Judged low (pick b p q) a bs ds
judged_yes b q e j = rw e j

pub judged_no : {A : Type 0} {low : ℕ} (b : Bool) (p : Reader A) {q : Reader A} {a : A} {bs : List ℕ} {ds : List Demand} → b ≡ false → Judged low q a bs ds → Judged low (pick b p q) a bs ds
judged_no b p e j = rw e j

-- a demand that is met
pub judged_met : {A : Type 0} {low : ℕ} {p : Reader A} {a : A} {bs : List ℕ} {ds : List Demand} (b : Bool) → b ≡ true → Judged low p a bs ds → Judged low p a bs (allowed b ∷ ds)
unfolding weigh
judged_met b e j = rw e (record { judges = λ file at t n s l m o. j.judges file at t n s l m o })

pub judged_unasked : {A : Type 0} {low : ℕ} {p : Reader A} {a : A} {bs : List ℕ} {ds : List Demand} → Judged low p a bs (allowed true ∷ ds) → Judged low p a bs ds
unfolding weigh
judged_unasked j = record { judges = λ file at t n s l m o. j.judges file at t n s l m o }

-- what is always read has no demands
pub judged-reads : {A : Type 0} {low : ℕ} {p : Reader A} {a : A} {bs : List ℕ} → Reads p a bs 0 0 → Judged low p a bs []
unfolding weigh
judged-reads {a = a} r = record { judges = λ file at t n s l m o. r.read file at t n s (omega arith) (omega arith) ∙ same_ok a refl (omega arith) (omega arith) }

-- ── fields ──────────────────────────────────────────────────────────────────────────────────

chosen : {low : ℕ} (b : Bool) (x place : ℕ) → Judged low (pick b (give x) (refuse VALUE place)) x [] (allowed b ∷ [])
unfolding weigh
chosen true x place = record { judges = λ file at t n s l m o. same_ok x (omega arith) refl refl }
chosen false x place = record { judges = λ file at t n s l m o. (place, refl) }

-- a field of which only some numbers are allowed
pub judged-value : {low : ℕ} (k : ℕ) (f : ℕ → Bool) (x : ℕ) → x < 256 ^ k → Judged low (value k f) x (bytes k x) (allowed (f x) ∷ [])
unfolding value
judged-value k f x h =
    judged-here _ λ at. judged_as refl (append-nil (bytes k x)) refl (judged_then _ (judged-reads ((field_codec k).reads x h)) (chosen (f x) x at))

pub judged-tag : {low : ℕ} (x : ℕ) → Judged low tag x (x ∷ []) (tagged ∷ [])
unfolding weigh tag
judged-tag x =
    record { judges = λ file at t n s l m o. rw (le-leb (at + 1) (length file) s.2, s.1) (go (ltb t max_tags) at t n) }
  where
    go : (b : Bool) (at t n : ℕ) → Agrees x (at + 1) n (pick b (fine (suc t)) (unmet MANY)) (pick b (ok x (at + 1) (t + 1) n) (bad MANY at))
    go true at t n = same_ok x refl (omega arith) refl
    go false at t n = (at, refl)

limited : {low : ℕ} (b : Bool) (x place : ℕ) → Judged low (pick b (give x) (refuse MANY place)) x [] (few b ∷ [])
unfolding weigh
limited true x place = record { judges = λ file at t n s l m o. same_ok x (omega arith) refl refl }
limited false x place = record { judges = λ file at t n s l m o. (place, refl) }

-- "at one field 3, 4, 5"
pub judged-count : {low : ℕ} (k : ℕ) (f : ℕ → Bool) (limit x : ℕ) → x < 256 ^ k → Judged low (count k f limit) x (bytes k x) (allowed (f x) ∷ few (leb x limit) ∷ [])
unfolding count
judged-count k f limit x h =
    judged-here _ λ at. judged_as refl (append-nil (bytes k x)) refl (judged_then _ (judged-value k f x h) (limited (leb x limit) x at))

-- ── lists ───────────────────────────────────────────────────────────────────────────────────

-- what k bytes can count, each one spelt
pub SpeltList : {A : Type 0} → ℕ → (A → Type 0) → List A → Type 0
SpeltList k P xs = (length xs < 256 ^ k) × All P xs

module _ {A : Type 0} {Spelt : A → Type 0} {w : A → List ℕ} {asks : A → List Demand} {p : Reader A} (j : (x : A) → Spelt x → Judged 0 p x (w x) (asks x)) where
  judged-times : (low : ℕ) (xs : List A) → All Spelt xs → Judged low (times (length xs) p) xs (concat_map w xs) (concat_map asks xs)
  unfolding times concat_map
  judged-times low [] a[] = judged-give
  judged-times low (x ∷ xs) (h a∷ hs) =
      judged_then _ (judged_up (omega arith) (j x h)) (judged-map (λ (ys : List A). x ∷ ys) (judged-times (low + tags_in (asks x)) xs hs))

  pub judged-counted : (k : ℕ) (f : ℕ → Bool) (limit : ℕ) (xs : List A) → SpeltList k Spelt xs →
      Judged 0 (counted k f limit p) xs (counted_bytes k w xs) (allowed (f (length xs)) ∷ list_asks asks limit xs)
  unfolding counted counted_bytes list_asks SpeltList
  judged-counted k f limit xs h = judged_then _ (judged-count k f limit (length xs) h.0) (judged-times _ xs h.1)

  pub judged-list : (k limit : ℕ) (xs : List A) → SpeltList k Spelt xs → Judged 0 (counted k any limit p) xs (counted_bytes k w xs) (list_asks asks limit xs)
  unfolding any
  judged-list k limit xs h = judged_unasked (judged-counted k any limit xs h)
