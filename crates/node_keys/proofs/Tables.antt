-- The keys of scans: a key's columns are columns of its table, so a scan of all columns has its table's key. Assumes nothing.
use mathlib.Core.Path.{◌≡◌, refl, sym, ap, ap₂, subst, subst⁻¹, ◌∙◌}
use mathlib.Core.Bool.{Bool, true, false, cond, not, ◌||◌, true≢false}
use mathlib.Core.List.{List, [], ◌∷◌, map}
use mathlib.Core.Option.{none, some}
use Prim.Native.Nat.{ℕ, zero, suc, ◌+◌, ◌-◌, ◌≤◌, ◌<◌}
use native.Mathlib.Omega.{arith}
use borrow.Author.Tests.{eq-eqb, eqb-true, ltb-true}
use lib.Dec.{eqb, ltb}
use lib.ListN.{length, get_or}
use Rattle.cpl.specs.Fields.{columns_of}
use Rattle.cpl.specs.Limits.{Version}
use Rattle.cpl.specs.Lists.{AllAfter, b[], ◌b∷◌}
use Rattle.cpl.specs.Plan.{Catalogue, Expr, TableKey, names_of, scan}
use Rattle.cpl.specs.Read.{fresh}
use Rattle.cpl.specs.Tests.{any_b, iota}
use Rattle.cpl.specs.Writable.{FitAfter, FitCatalogue, FitTableKey}
use Rattle.cpl.proofs.Bools.{and_left}
use Rattle.rules.specs.Keys.{carried, declared, first_at, has_all, is_place, leaf_key, member}
use Rattle.node_keys.proofs.Founds.{all_true}

-- ── a key's columns are columns of its table ────────────────────────────────────────────────

abbrev Below : ℕ → List ℕ → Type 0
Below n is = (i : ℕ) → member i is ≡ true → i < n

columns-below : (n : ℕ) {before is : List ℕ} → AllAfter (λ taken i. fresh n taken i ≡ true) before is → Below n is
unfolding any_b
columns-below n b[] i m = absurd (true≢false (sym m))
columns-below n (◌b∷◌ {before} {x} {xs} h hs) i m = go (eqb i x) refl m (columns-below n hs i)
  where
    go : (b : Bool) → eqb i x ≡ b → (b || member i xs) ≡ true → (member i xs ≡ true → i < n) → i < n
    go true e m r = subst⁻¹ (λ y. y < n) (eqb-true i x e) (ltb-true x n (and_left (ltb x n) (not (any_b (eqb x) before)) (unfold fresh in h)))
    go false e m r = r m

declared-below : (v : Version) (ts : List (List ℕ)) {before ks : List TableKey} → AllAfter (FitTableKey v ts) before ks → (t : ℕ) → Below (length (get_or ts t [])) (declared ks t)
unfolding any_b declared
declared-below v ts b[] t i m = absurd (true≢false (sym m))
declared-below v ts (◌b∷◌ {before} {x = k} {xs = ks} h hs) t i m = go (eqb k.table t) refl m (declared-below v ts hs t i)
  where
    go : (b : Bool) → eqb k.table t ≡ b → member i (cond b k.columns (declared ks t)) ≡ true → (member i (declared ks t) ≡ true → i < length (get_or ts t [])) → i < length (get_or ts t [])
    go true e m r = subst (λ y. i < length (get_or ts y [])) (eqb-true k.table t e) (columns-below (length (get_or ts k.table [])) (let w : AllAfter (λ taken j. fresh (length (get_or ts k.table [])) taken j ≡ true) [] k.columns = unfold FitAfter in h.columns_fresh.1 in w) i m)
    go false e m r = r m

-- ── all columns ─────────────────────────────────────────────────────────────────────────────

stands : (k a n : ℕ) → a ≤ k → k < a + n → any_b (is_place k) (map some (iota a n)) ≡ true
unfolding any_b is_place iota
stands k a zero h l = absurd (omega arith)
stands k a (suc n) h l = go (eqb k a) refl (λ e. stands k (suc a) n (omega (arith, e)) (omega arith))
  where
    go : (b : Bool) → eqb k a ≡ b → ((k ≡ a → ⊥) → any_b (is_place k) (map some (iota (suc a) n)) ≡ true) → (b || any_b (is_place k) (map some (iota (suc a) n))) ≡ true
    go true e r = refl
    go false e r = r (λ z. true≢false (sym (eq-eqb k a z) ∙ e))

first_is : (k a n : ℕ) → a ≤ k → k < a + n → first_at k (map some (iota a n)) ≡ k - a
unfolding first_at is_place iota
first_is k a zero h l = absurd (omega arith)
first_is k a (suc n) h l = go (eqb k a) refl (λ e. first_is k (suc a) n (omega (arith, e)) (omega arith))
  where
    go : (b : Bool) → eqb k a ≡ b → ((k ≡ a → ⊥) → first_at k (map some (iota (suc a) n)) ≡ k - suc a) → cond b 0 (suc (first_at k (map some (iota (suc a) n)))) ≡ k - a
    go true e r = omega (arith, eqb-true k a e)
    go false e r = let d : k ≡ a → ⊥ = λ z. true≢false (sym (eq-eqb k a z) ∙ e) in ap suc (r d) ∙ (let z : suc (k - suc a) ≡ k - a = omega (arith, d) in z)

map_same : (f : ℕ → ℕ) (ks : List ℕ) → ((k : ℕ) → member k ks ≡ true → f k ≡ k) → map f ks ≡ ks
unfolding any_b
map_same f [] h = refl
map_same f (k ∷ ks) h = ap₂ ◌∷◌ (h k (ap (◌|| member k ks) (eq-eqb k k refl))) (map_same f ks (λ j m. h j (ap (eqb j k ||◌) m ∙ or_true (eqb j k))))
  where
    or_true : (a : Bool) → (a || true) ≡ true
    or_true true = refl
    or_true false = refl

all-carried : (key : List ℕ) (n : ℕ) → Below n key → carried key (map some (iota 0 n)) ≡ key
unfolding carried has_all
all-carried key n h =
    ap (λ b. cond b (map (λ k. first_at k (map some (iota 0 n))) key) []) (all_true (λ k. any_b (is_place k) (map some (iota 0 n))) key (λ k m. stands k 0 n (omega arith) (omega (arith, h k m))))
    ∙ map_same (λ k. first_at k (map some (iota 0 n))) key (λ k m. first_is k 0 n (omega arith) (omega (arith, h k m)) ∙ (let z : k - 0 ≡ k = omega arith in z))

-- ── scans ───────────────────────────────────────────────────────────────────────────────────

module _ (C : Catalogue) (t q : ℕ) (es : List Expr) where
  pub scan-all : FitCatalogue C → leaf_key C (scan t q none es) ≡ declared C.keys t
  unfolding leaf_key columns_of FitAfter
  scan-all fit = all-carried (declared C.keys t) (length (names_of C t)) (declared-below C.version C.tables fit.keys_fit.1 t)

  pub scan-given : (is : List ℕ) → leaf_key C (scan t q (some is) es) ≡ carried (declared C.keys t) (map some is)
  unfolding leaf_key columns_of
  scan-given is = refl
