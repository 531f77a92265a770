-- The catalogue: what its readers answer is right. Assumes nothing.
use Prim.Native.Nat.{ℕ, zero, suc, ◌+◌, ◌*◌, ◌-◌, ◌≤◌, ◌<◌}
use mathlib.Core.Path.{◌≡◌, refl, ap, ◌∙◌}
use mathlib.Core.List.{List, [], ◌∷◌}
use native.Mathlib.Omega.{arith}
use native.Mathlib.Numerals.{sub-one}
use lib.ListN.{length, get_or, set, length-set}
use lib.Seq.{get_or-set_same, get_or-set_other}
use Rattle.std.specs.Prelude.{Result, Ok, Err}
use Rattle.cpl.specs.Limits.{Version}
use Rattle.cpl.specs.Plan.{TableKey, Catalogue}
use Rattle.cpl.proofs.Codec.{Holds, holds_then, holds-ok}
use Rattle.cpl.specs.Read.{Res, ok, bad, Reader, nonzero, any, count, times, counted}
use Rattle.reader_heads.specs.Heads.{Widths}
use Rattle.reader_parts.proofs.Compose.{times_more, times-bad}
use Rattle.reader_parts.proofs.Counts.{counted-few}
use Rattle.catalogue.specs.Tables.{names_at, table_at, tables_at, Kept, read_table, NextIs}
use Rattle.refusals.specs.Codes.{code_of}
use Rattle.refusals.specs.declared.Refusal.{Refusal}

-- ── lists ───────────────────────────────────────────────────────────────────────────────────

module _ {A : Type 0} (p : Reader A) (file : List ℕ) (at tags n k : ℕ) (some : k ≡ 0 → ⊥) {x : A} {next used : ℕ} (e : p file at tags n ≡ ok x next used n) where
  times_cons : {xs : List A} {end used' : ℕ} → times (k - 1) p file next used n ≡ ok xs end used' n → times k p file at tags n ≡ ok (x ∷ xs) end used' n
  times_cons f = rw (times_more p file at tags n k some, e, f)

  times-rest-bad : {code place : ℕ} → times (k - 1) p file next used n ≡ bad code place → times k p file at tags n ≡ bad code place
  times-rest-bad f = rw (times_more p file at tags n k some, e, f)

-- ── names ───────────────────────────────────────────────────────────────────────────────────

names_more : (names : List ℕ) (at k : ℕ) → (k ≡ 0 → ⊥) → names_at names at k ≡ get_or names at 0 ∷ names_at names (at + 1) (k - 1)
unfolding names_at
names_more names at zero h = absurd (h refl)
names_more names at (suc k) h = rw (sub-one (suc k))

names_kept : (names names' : List ℕ) (to at k : ℕ) → Kept to names names' → at + k ≤ to → names_at names' at k ≡ names_at names at k
unfolding names_at
names_kept names names' to at zero h l = refl
names_kept names names' to at (suc k) h l = rw (h at (omega arith), names_kept names names' to (at + 1) k h (omega arith))

names_length : (names : List ℕ) (at k : ℕ) → length (names_at names at k) ≡ k
unfolding names_at
names_length names at zero = refl
names_length names at (suc k) = ap suc (names_length names (at + 1) k)

pub names_none : (file : List ℕ) (at n slot : ℕ) (names : List ℕ) → n ≡ 0 → NextIs (times n (nonzero 2)) file at (names_at names slot n) slot names names (Ok at)
unfolding times names_at
names_none file at n slot names e = rw e (λ tags m. refl, λ i h. refl)

module _ (file : List ℕ) (at n slot : ℕ) (names : List ℕ) (some : n ≡ 0 → ⊥) where
  pub names_bad : {code place : ℕ} → ((tags m : ℕ) → nonzero 2 file at tags m ≡ bad code place) → (tags m : ℕ) → times n (nonzero 2) file at tags m ≡ bad code place
  names_bad e tags m = times-bad (nonzero 2) file at tags m n some (e tags m)

  pub names_right : {x next : ℕ} → ((tags m : ℕ) → nonzero 2 file at tags m ≡ ok x next tags m) → slot < length names → (names' : List ℕ) (r : Result ℕ Refusal) →
      NextIs (times (n - 1) (nonzero 2)) file next (names_at names' (slot + 1) (n - 1)) (slot + 1) (set names slot x) names' r → NextIs (times n (nonzero 2)) file at (names_at names' slot n) slot names names' r
  names_right {x} {next} e l names' (Ok end) h =
      let first : get_or names' slot 0 ≡ x = h.1 slot (omega arith) ∙ get_or-set_same names slot x 0 l in (
        λ tags m. rw (names_more names' slot n some, first) (times_cons (nonzero 2) file at tags m n some (e tags m) (h.0 tags m)),
        λ i g. h.1 i (omega arith) ∙ get_or-set_other names slot i x 0 (λ z. omega arith),
      )
  names_right {x} {next} e l names' (Err e₁) h = λ tags m. times-rest-bad (nonzero 2) file at tags m n some (e tags m) (h tags m)

-- some names were read, and so many are left, from the slot `here` on
pub record NamesLeft (file : List ℕ) (n slot at : ℕ) (names : List ℕ) (left here next : ℕ) (names' : List ℕ) : Type 0 where
  pub long : length names' ≡ length names
  pub ends : (names'' : List ℕ) (r : Result ℕ Refusal) → NextIs (times left (nonzero 2)) file next (names_at names'' here left) here names' names'' r
      → NextIs (times n (nonzero 2)) file at (names_at names'' slot n) slot names names'' r

pub all_names : (file : List ℕ) (n slot at : ℕ) (names : List ℕ) {left here : ℕ} → left ≡ n → here ≡ slot → NamesLeft file n slot at names left here at names
all_names file n slot at names e f = record { long = refl; ends = λ names'' r h. rw (e, f) at h }

module _ {file : List ℕ} {n slot at : ℕ} {names : List ℕ} {left here next : ℕ} {names' : List ℕ} (w : NamesLeft file n slot at names left here next names') where
  pub one_name : (left ≡ 0 → ⊥) → {x after left' here' : ℕ} → ((tags m : ℕ) → nonzero 2 file next tags m ≡ ok x after tags m) → here < length names' → left' ≡ left - 1 → here' ≡ here + 1
      → NamesLeft file n slot at names left' here' after (set names' here x)
  one_name some {x} e l f g = record {
    long = length-set names' here x ∙ w.long;
    ends = λ names'' r h. w.ends names'' r (names_right file next left here names' some e l names'' r (rw (f, g) at h));
  }

  pub name_refused : (left ≡ 0 → ⊥) → (e : Refusal) → ((tags m : ℕ) → nonzero 2 file next tags m ≡ bad (code_of e.reason) e.place) → NextIs (times n (nonzero 2)) file at (names_at names' slot n) slot names names' (Err e)
  name_refused some e h = w.ends names' (Err e) (names_bad file next left here names' some h)

  pub no_name : left ≡ 0 → NextIs (times n (nonzero 2)) file at (names_at names' slot n) slot names names' (Ok next)
  no_name e = w.ends names' (Ok next) (names_none file next left here names' e)

-- ── tables ──────────────────────────────────────────────────────────────────────────────────

pub table-right : (v : Version) (file : List ℕ) (at t : ℕ) (names : List ℕ) {n next : ℕ} → ((tags m : ℕ) → count v.wide any v.max_columns file at tags m ≡ ok n next tags m) → 513 * t < length names → (names' : List ℕ) (r : Result ℕ Refusal) →
    NextIs (times n (nonzero 2)) file next (names_at names' (513 * t + 1) n) (513 * t + 1) (set names (513 * t) n) names' r → NextIs (read_table v) file at (table_at names' t) (513 * t) names names' r
unfolding counted table_at
table-right v file at t names {n} {next} e l names' (Ok end) h =
    let first : get_or names' (513 * t) 0 ≡ n = h.1 (513 * t) (omega arith) ∙ get_or-set_same names (513 * t) n 0 l in
    (λ tags m. rw (first, e tags m) (h.0 tags m), λ i g. h.1 i (omega arith) ∙ get_or-set_other names (513 * t) i n 0 (λ z. omega arith))
table-right v file at t names {n} {next} e l names' (Err e₁) h = λ tags m. rw (e tags m) (h tags m)

tables_more : (names : List ℕ) (t k : ℕ) → (k ≡ 0 → ⊥) → tables_at names t k ≡ table_at names t ∷ tables_at names (t + 1) (k - 1)
unfolding tables_at
tables_more names t zero h = absurd (h refl)
tables_more names t (suc k) h = rw (sub-one (suc k))

pub tables-none : (v : Version) (file : List ℕ) (at n t : ℕ) (names : List ℕ) → n ≡ 0 → NextIs (times n (read_table v)) file at (tables_at names t n) (513 * t) names names (Ok at)
unfolding times tables_at
tables-none v file at n t names e = rw e (λ tags m. refl, λ i h. refl)

table_kept : (names names' : List ℕ) (t : ℕ) → get_or names (513 * t) 0 ≤ 512 → Kept (513 * (t + 1)) names names' → table_at names' t ≡ table_at names t
unfolding table_at
table_kept names names' t l h = rw (h (513 * t) (omega arith)) (names_kept names names' (513 * (t + 1)) (513 * t + 1) (get_or names (513 * t) 0) h (omega arith))

table-few : (v : Version) → v.max_columns ≤ 512 → (file : List ℕ) (at next t : ℕ) (names : List ℕ) → ((tags m : ℕ) → read_table v file at tags m ≡ ok (table_at names t) next tags m) → get_or names (513 * t) 0 ≤ 512
unfolding table_at
table-few v l file at next t names e = omega (arith, counted-few v.wide any v.max_columns file (nonzero 2) at 0 0 (e 0 0), names_length names (513 * t + 1) (get_or names (513 * t) 0))

module _ (v : Version) (file : List ℕ) (at n t : ℕ) (some : n ≡ 0 → ⊥) where
  pub tables-bad : {code place : ℕ} → ((tags m : ℕ) → read_table v file at tags m ≡ bad code place) → (tags m : ℕ) → times n (read_table v) file at tags m ≡ bad code place
  tables-bad e tags m = times-bad (read_table v) file at tags m n some (e tags m)

  pub tables-right : v.max_columns ≤ 512 → (names names' names'' : List ℕ) (next : ℕ) → NextIs (read_table v) file at (table_at names' t) (513 * t) names names' (Ok next) → (r : Result ℕ Refusal) →
      NextIs (times (n - 1) (read_table v)) file next (tables_at names'' (t + 1) (n - 1)) (513 * (t + 1)) names' names'' r → NextIs (times n (read_table v)) file at (tables_at names'' t n) (513 * t) names names'' r
  tables-right l names names' names'' next e (Ok end) h =
      let first : table_at names'' t ≡ table_at names' t = table_kept names' names'' t (table-few v l file at next t names' e.0) h.1 in
      (λ tags m. rw (tables_more names'' t n some, first) (times_cons (read_table v) file at tags m n some (e.0 tags m) (h.0 tags m)), λ i g. h.1 i (omega arith) ∙ e.1 i g)
  tables-right l names names' names'' next e (Err e₁) h = λ tags m. times-rest-bad (read_table v) file at tags m n some (e.0 tags m) (h tags m)

-- some tables were read, and so many are left, from table `here` on
pub record TablesLeft (v : Version) (file : List ℕ) (n t at : ℕ) (names : List ℕ) (left here next : ℕ) (names' : List ℕ) : Type 0 where
  pub long : length names' ≡ length names
  pub ends : (names'' : List ℕ) (r : Result ℕ Refusal) → NextIs (times left (read_table v)) file next (tables_at names'' here left) (513 * here) names' names'' r
      → NextIs (times n (read_table v)) file at (tables_at names'' t n) (513 * t) names names'' r

pub all_tables : (v : Version) (file : List ℕ) (n t at : ℕ) (names : List ℕ) {left here : ℕ} → left ≡ n → here ≡ t → TablesLeft v file n t at names left here at names
all_tables v file n t at names e f = record { long = refl; ends = λ names'' r h. rw (e, f) at h }

module _ {v : Version} {file : List ℕ} {n t at : ℕ} {names : List ℕ} {left here next : ℕ} {names' : List ℕ} (w : TablesLeft v file n t at names left here next names') where
  pub one_table : (left ≡ 0 → ⊥) → v.max_columns ≤ 512 → {after left' here' : ℕ} (names₁ : List ℕ) → length names₁ ≡ length names' → NextIs (read_table v) file next (table_at names₁ here) (513 * here) names' names₁ (Ok after)
      → left' ≡ left - 1 → here' ≡ here + 1 → TablesLeft v file n t at names left' here' after names₁
  one_table some l {after} names₁ k e f g = record {
    long = k ∙ w.long;
    ends = λ names'' r h. w.ends names'' r (tables-right v file next left here some l names' names₁ names'' after e r (rw (f, g) at h));
  }

  pub table_refused : (left ≡ 0 → ⊥) → (names₁ : List ℕ) (e : Refusal) → NextIs (read_table v) file next (table_at names₁ here) (513 * here) names' names₁ (Err e) → NextIs (times n (read_table v)) file at (tables_at names₁ t n) (513 * t) names names₁ (Err e)
  table_refused some names₁ e h = w.ends names₁ (Err e) (tables-bad v file next left here some h)

  pub no_table : left ≡ 0 → NextIs (times n (read_table v)) file at (tables_at names' t n) (513 * t) names names' (Ok next)
  no_table e = w.ends names' (Ok next) (tables-none v file next left here names' e)

-- the catalogue is as wide as its names say
tables-length : (names : List ℕ) (t k : ℕ) → length (tables_at names t k) ≡ k
unfolding tables_at
tables-length names t zero = refl
tables-length names t (suc k) = ap suc (tables-length names (t + 1) k)

tables_get : (names : List ℕ) (t k i : ℕ) → i < k → get_or (tables_at names t k) i [] ≡ table_at names (t + i)
unfolding tables_at
tables_get names t zero i h = absurd (omega arith)
tables_get names t (suc k) zero h = ap (table_at names) (omega arith)
tables_get names t (suc k) (suc i) h = tables_get names (t + 1) k i (omega arith) ∙ ap (table_at names) (omega arith)

-- the catalogue of so many tables, in a version and with keys
abbrev pub catalogue_at : Version → (names : List ℕ) → (tables : ℕ) → List TableKey → Catalogue
catalogue_at v names tables ks = record { version = v; tables = tables_at names 0 tables; keys = ks }

pub widths : (v : Version) (names : List ℕ) (tables : ℕ) (ks : List TableKey) → Widths names tables (catalogue_at v names tables ks)
unfolding table_at
widths v names tables ks =
    record {
      count = tables-length names 0 tables;
      columns = λ t h. ap length (tables_get names 0 tables t h ∙ ap (table_at names) (zero_more t)) ∙ names_length names (513 * t + 1) (get_or names (513 * t) 0);
    }
  where
    zero_more : (t : ℕ) → 0 + t ≡ t
    zero_more t = omega arith

-- no table has more columns than the version allows
few-holds : (v : Version) (file : List ℕ) (at tags n : ℕ) → Holds (λ xs a t m. length xs ≤ v.max_columns) (read_table v file at tags n)
few-holds v file at tags n = go (read_table v file at tags n) refl
  where
    go : (r : Res (List ℕ)) → read_table v file at tags n ≡ r → Holds (λ (xs : List ℕ) a t m. length xs ≤ v.max_columns) r
    go (ok xs a t m) e = counted-few v.wide any v.max_columns file (nonzero 2) at tags n e
    go (bad code place) e = tt

-- the list at each place is not longer
Short : (most : ℕ) → List (List ℕ) → Type 0
Short most ts = (i : ℕ) → i < length ts → length (get_or ts i []) ≤ most

short_more : (most : ℕ) (xs : List ℕ) (ts : List (List ℕ)) → length xs ≤ most → Short most ts → Short most (xs ∷ ts)
unfolding Short
short_more most xs ts h g zero l = h
short_more most xs ts h g (suc i) l = g i (omega arith)

short_holds : (v : Version) (file : List ℕ) (k at tags n : ℕ) → Holds (λ ts a t m. Short v.max_columns ts) (times k (read_table v) file at tags n)
unfolding times Short
short_holds v file zero at tags n = λ i l. absurd (omega arith)
short_holds v file (suc k) at tags n =
    holds_then (λ (xs : List ℕ) a t m. length xs ≤ v.max_columns) (λ (ts : List (List ℕ)) a t m. Short v.max_columns ts) (read_table v file at tags n) _ (few-holds v file at tags n) λ xs a t m h.
    holds_then (λ (ts : List (List ℕ)) a t m. Short v.max_columns ts) (λ (ts : List (List ℕ)) a t m. Short v.max_columns ts) (times k (read_table v) file a t m) _ (short_holds v file k a t m) λ ts a' t' m' g. short_more v.max_columns xs ts h g

pub few-columns : (v : Version) → v.max_columns ≤ 512 → (file : List ℕ) (at n : ℕ) (names : List ℕ) {next : ℕ} → ((tags m : ℕ) → times n (read_table v) file at tags m ≡ ok (tables_at names 0 n) next tags m) →
    (t : ℕ) → t < n → get_or names (513 * t) 0 ≤ 512
unfolding Short
few-columns v l file at n names e t h =
    let w = widths v names n [] in
    omega (arith, w.columns t h, holds-ok (λ (ts : List (List ℕ)) a t m. Short v.max_columns ts) (e 0 0) (short_holds v file n at 0 0) t (omega (arith, w.count)))
