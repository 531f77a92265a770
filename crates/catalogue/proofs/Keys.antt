-- The keys of tables: what their readers answer is right. Assumes nothing.
use Prim.Native.Nat.{ℕ, zero, suc, ◌+◌, ◌-◌, ◌^◌, ◌≤◌, ◌<◌}
use mathlib.Core.Path.{◌≡◌, refl, sym, ap, ap₂, ◌∙◌}
use mathlib.Core.Bool.{Bool, true, false, cond, ◌||◌, true≢false}
use mathlib.Core.List.{List, [], ◌∷◌}
use native.Mathlib.Omega.{arith}
use native.Mathlib.Decide.{ℕ_discrete}
use native.Mathlib.Numerals.{sub-one}
use lib.Bits.{bit_or}
use lib.Dec.{eqb}
use lib.ListN.{length, get_or}
use borrow.Author.Tests.{lt-ltb, le-ltb, eq-eqb, eqb-true, ne_eqb}
use Rattle.std.specs.Prelude.{Result, Ok, Err}
use Rattle.cpl.specs.Limits.{Version}
use Rattle.cpl.specs.Tests.{any_b}
use Rattle.cpl.specs.Plan.{TableKey, keyed_tables}
use Rattle.cpl.specs.Read.{ok, bad, Reader, and_then, value, fresh, is_not, count, times_after, counted_after}
use Rattle.cpl.specs.ReadPlan.{read_table_key}
use Rattle.required_indices.specs.Set.{has}
use Rattle.required_indices.specs.Request.{set_of, Holds}
use Rattle.required_indices.specs.declared.RequiredIndices.{RequiredIndices}
use Rattle.required_indices.proofs.Members.{has-none, has_or, has_single}
use Rattle.rules.specs.Keys.{declared}
use Rattle.key_sets.specs.Slots.{KeySet, PutKey, SlotIn, slot_at}
use Rattle.catalogue.specs.Keys.{Stands, Found, KeyIs, KeyPut, KeysPut, TablesPut}
use Rattle.refusals.specs.Codes.{code_of}
use Rattle.refusals.specs.declared.Refusal.{Refusal}
use Rattle.reader_fields.specs.declared.Field.{Field}

-- ── sets of what is taken ───────────────────────────────────────────────────────────────────

pub stands_none : (set : RequiredIndices) {b : Bool} → Holds set 0 b → Stands set []
unfolding any_b
stands_none set h x = ap (λ (s : ℕ). has s x) h.set ∙ has-none x

eqb-sym : (a b : ℕ) → eqb a b ≡ eqb b a
eqb-sym a b = elim (ℕ_discrete a b) [ yes e ↦ eq-eqb a b e ∙ sym (eq-eqb b a (sym e)) | no n ↦ ne_eqb a b n ∙ sym (ne_eqb b a (λ e. n (sym e))) ]

or_comm : (a b : Bool) → (a || b) ≡ (b || a)
or_comm true true = refl
or_comm true false = refl
or_comm false true = refl
or_comm false false = refl

pub stands_more : (set set' : RequiredIndices) (i : ℕ) (xs : List ℕ) {b : Bool} → Stands set xs → Holds set' (bit_or (set_of set) (2 ^ i)) b → Stands set' (i ∷ xs)
unfolding any_b
stands_more set set' i xs st h x =
    ap (λ (s : ℕ). has s x) h.set ∙ has_or (set_of set) (2 ^ i) x ∙ ap₂ ◌||◌ (st x) (has_single i x ∙ eqb-sym i x) ∙ or_comm (any_b (eqb x) xs) (eqb x i)

pub stands_key : (set set' : RequiredIndices) (t : ℕ) (key : TableKey) (before : List TableKey) {b : Bool} → key.table ≡ t → Stands set (keyed_tables before) →
    Holds set' (bit_or (set_of set) (2 ^ t)) b → Stands set' (keyed_tables (key ∷ before))
stands_key set set' t key before e st h = rw e (stands_more set set' t (keyed_tables before) st h)

module _ (n : ℕ) (xs : List ℕ) (x : ℕ) where
  pub fresh-past : n ≤ x → fresh n xs x ≡ false
  unfolding fresh
  fresh-past h = rw (le-ltb x n h)

  pub fresh-taken : x < n → {b : Bool} → b ≡ true → b ≡ any_b (eqb x) xs → fresh n xs x ≡ false
  unfolding fresh
  fresh-taken h e f = rw (lt-ltb x n h, ← f, e)

  pub fresh_yes : x < n → {b : Bool} → b ≡ false → b ≡ any_b (eqb x) xs → fresh n xs x ≡ true
  unfolding fresh
  fresh_yes h e f = rw (lt-ltb x n h, ← f, e)

-- ── lists whose elements are refused for those before them ──────────────────────────────────

module _ {A : Type 0} (p : List A → Reader A) (xs : List A) (file : List ℕ) (at k : ℕ) where
  pub after_none : (Q : List A → Type 0) → k ≡ 0 → Q [] → Found (times_after k p xs file at) Q (Ok at)
  unfolding times_after
  after_none Q e q = ([], λ tags n. rw e, q)

  after_more : (k ≡ 0 → ⊥) → (tags n : ℕ) →
      times_after k p xs file at tags n ≡ and_then (p xs file at tags n) (λ x a t m. and_then (times_after (k - 1) p (x ∷ xs) file a t m) (λ ys a' t' m'. ok (x ∷ ys) a' t' m'))
  unfolding times_after
  after_more h tags n = go k h
    where
      go : (k : ℕ) → (k ≡ 0 → ⊥) →
          times_after k p xs file at tags n ≡ and_then (p xs file at tags n) (λ x a t m. and_then (times_after (k - 1) p (x ∷ xs) file a t m) (λ ys a' t' m'. ok (x ∷ ys) a' t' m'))
      go zero h = absurd (h refl)
      go (suc k) h = rw (sub-one (suc k))

  module _ (some : k ≡ 0 → ⊥) where
    pub after-bad : {code place : ℕ} → ((tags n : ℕ) → p xs file at tags n ≡ bad code place) → (tags n : ℕ) → times_after k p xs file at tags n ≡ bad code place
    after-bad e tags n = rw (after_more some tags n, e tags n)

    pub after-right : (Q Q' : List A → Type 0) {x : A} {next : ℕ} → ((tags n : ℕ) → p xs file at tags n ≡ ok x next tags n) → ((ys : List A) → Q' ys → Q (x ∷ ys)) → (r : Result ℕ Refusal) →
        Found (times_after (k - 1) p (x ∷ xs) file next) Q' r → Found (times_after k p xs file at) Q r
    after-right Q Q' {x} e q (Ok end) h = (x ∷ h.0, λ tags n. rw (after_more some tags n, e tags n, h.1 tags n), q h.0 h.2)
    after-right Q Q' e q (Err e₁) h = λ tags n. rw (after_more some tags n, e tags n, h tags n)

module _ {A : Type 0} (wide : ℕ) (allowed : ℕ → Bool) (limit : ℕ) (p : List A → Reader A) (file : List ℕ) (at : ℕ) where
  pub counted-after-bad : {code place : ℕ} → ((tags n : ℕ) → count wide allowed limit file at tags n ≡ bad code place) → (tags n : ℕ) → counted_after wide allowed limit p file at tags n ≡ bad code place
  unfolding counted_after
  counted-after-bad e tags n = rw (e tags n)

  pub counted-after-right : (Q Q' : List A → Type 0) {k next : ℕ} → ((tags n : ℕ) → count wide allowed limit file at tags n ≡ ok k next tags n) → ((xs : List A) → Q' xs → Q xs) → (r : Result ℕ Refusal) →
      Found (times_after k p [] file next) Q' r → Found (counted_after wide allowed limit p file at) Q r
  unfolding counted_after
  counted-after-right Q Q' e q (Ok end) h = (h.0, λ tags n. rw (e tags n) (h.1 tags n), q h.0 h.2)
  counted-after-right Q Q' e q (Err e₁) h = λ tags n. rw (e tags n) (h tags n)

-- ── a key ───────────────────────────────────────────────────────────────────────────────────

module _ (v : Version) (ts : List (List ℕ)) (before : List TableKey) (file : List ℕ) (at : ℕ) {tables : ℕ} (count_is : length ts ≡ tables) where
  pub key-bad : {code place : ℕ} → ((tags n : ℕ) → value 1 (fresh tables (keyed_tables before)) file at tags n ≡ bad code place) → (tags n : ℕ) → read_table_key v ts before file at tags n ≡ bad code place
  unfolding read_table_key
  key-bad e tags n = rw (count_is, e tags n)

  module _ {t after : ℕ} (e : (tags n : ℕ) → value 1 (fresh tables (keyed_tables before)) file at tags n ≡ ok t after tags n) where
    pub key-count-bad : {code place : ℕ} → ((tags n : ℕ) → count v.wide (is_not 0) v.max_columns file after tags n ≡ bad code place) → (tags n : ℕ) → read_table_key v ts before file at tags n ≡ bad code place
    unfolding read_table_key counted_after
    key-count-bad f tags n = rw (count_is, e tags n, f tags n)

    module _ {k next columns : ℕ} (f : (tags n : ℕ) → count v.wide (is_not 0) v.max_columns file after tags n ≡ ok k next tags n) (wide : length (get_or ts t []) ≡ columns) where
      pub key-columns-bad : {code place : ℕ} → ((tags n : ℕ) → times_after k (λ ys. value v.wide (fresh columns ys)) [] file next tags n ≡ bad code place) → (tags n : ℕ) →
          read_table_key v ts before file at tags n ≡ bad code place
      unfolding read_table_key counted_after
      key-columns-bad h tags n = rw (count_is, e tags n, f tags n, wide, h tags n)

      pub key_right : {keys keys' : List ℕ} {end : ℕ} {is : List ℕ} → t < tables → any_b (eqb t) (keyed_tables before) ≡ false → KeyPut keys keys' t [] is → ((tags n : ℕ) → times_after k (λ ys. value v.wide (fresh columns ys)) [] file next tags n ≡ ok is end tags n) →
          (key : TableKey) × (key.table ≡ t) × (t < tables) × ((tags n : ℕ) → read_table_key v ts before file at tags n ≡ ok key end tags n) × (any_b (eqb key.table) (keyed_tables before) ≡ false) × KeyPut keys keys' key.table [] key.columns
      unfolding read_table_key counted_after
      key_right {is = is} l fresh put h = (record { table = t; columns = is }, refl, l, λ tags n. rw (count_is, e tags n, f tags n, wide, h tags n), fresh, put)

-- ── slots ───────────────────────────────────────────────────────────────────────────────────

or_shift : (a b c : Bool) → (a || (b || c)) ≡ ((b || a) || c)
or_shift true true c = refl
or_shift true false c = refl
or_shift false true c = refl
or_shift false false c = refl

-- the columns are all read
pub columns_put : {keys keys' : List ℕ} {table : ℕ} (set : RequiredIndices) (xs : List ℕ) → Stands set xs → PutKey keys keys' table (set_of set) → KeyPut keys keys' table xs []
unfolding any_b
columns_put set xs st p = record { columns_are = λ i. ap (λ s. has s i) p.here ∙ st i; others = p.others }

-- one column more
pub columns-more : {keys keys' : List ℕ} {table : ℕ} (x : ℕ) (xs is : List ℕ) → KeyPut keys keys' table (x ∷ xs) is → KeyPut keys keys' table xs (x ∷ is)
unfolding any_b
columns-more x xs is h = record { columns_are = λ i. h.columns_are i ∙ or_shift (any_b (eqb i) is) (eqb i x) (any_b (eqb i) xs); others = h.others }

-- some columns were read, of which the set is, and so many are left
pub record ColumnsLeft (k columns : ℕ) (file : List ℕ) (n at table : ℕ) (keys : List ℕ) (left next : ℕ) (set : RequiredIndices) : Type 0 where
  pub read : List ℕ
  pub stands : Stands set read
  pub ends : (keys' : List ℕ) (r : Result ℕ Refusal) → Found (times_after left (λ ys. value k (fresh columns ys)) read file next) (KeyPut keys keys' table read) r
      → Found (times_after n (λ ys. value k (fresh columns ys)) [] file at) (KeyPut keys keys' table []) r

pub all_columns : (k columns : ℕ) (file : List ℕ) (n at table : ℕ) (keys : List ℕ) (set : RequiredIndices) {left : ℕ} {b : Bool} → left ≡ n → Holds set 0 b → ColumnsLeft k columns file n at table keys left at set
all_columns k columns file n at table keys set e h = record { read = []; stands = stands_none set h; ends = λ keys' r f. rw e at f }

module _ {k columns : ℕ} {file : List ℕ} {n at table : ℕ} {keys : List ℕ} {left next : ℕ} {set : RequiredIndices} (w : ColumnsLeft k columns file n at table keys left next set) where
  pub one_column : (left ≡ 0 → ⊥) → (set' : RequiredIndices) {x after left' : ℕ} {b : Bool} → ((tags m : ℕ) → value k (fresh columns w.read) file next tags m ≡ ok x after tags m) → Holds set' (bit_or (set_of set) (2 ^ x)) b
      → left' ≡ left - 1 → ColumnsLeft k columns file n at table keys left' after set'
  one_column some set' {x} e h f = record {
    read = x ∷ w.read;
    stands = stands_more set set' x w.read w.stands h;
    ends = λ keys' r g.
        w.ends keys' r (after-right (λ (ys : List ℕ). value k (fresh columns ys)) w.read _ _ _ some (KeyPut keys keys' table w.read) (KeyPut keys keys' table (x ∷ w.read)) e (columns-more x w.read) r (rw f at g));
  }

  pub column_refused : (left ≡ 0 → ⊥) → (e : Refusal) → ((tags m : ℕ) → value k (fresh columns w.read) file next tags m ≡ bad (code_of e.reason) e.place)
      → Found (times_after n (λ ys. value k (fresh columns ys)) [] file at) (KeyPut keys keys table []) (Err e)
  column_refused some e h = w.ends keys (Err e) (after-bad (λ (ys : List ℕ). value k (fresh columns ys)) w.read _ _ _ some h)

  pub no_column : left ≡ 0 → {keys' : List ℕ} → PutKey keys keys' table (set_of set) → Found (times_after n (λ ys. value k (fresh columns ys)) [] file at) (KeyPut keys keys' table []) (Ok next)
  no_column e {keys'} h = w.ends keys' (Ok next) (after_none (λ (ys : List ℕ). value k (fresh columns ys)) w.read _ _ _ _ e (columns_put set w.read w.stands h))

-- no key
pub keys_none : {keys : List ℕ} (before : List TableKey) → KeysPut keys keys before []
unfolding any_b declared
keys_none before = record { stays = λ t l e. refl; fresh_are = λ t l e z. record { members = λ i. ap (λ s. has s i) z ∙ has-none i } }

or_false : (a : Bool) → (a || false) ≡ a
or_false true = refl
or_false false = refl

or_true : (a : Bool) → (a || true) ≡ true
or_true true = refl
or_true false = refl

other : (t x : ℕ) → eqb t x ≡ false → t ≡ x → ⊥
other t x e z = true≢false (sym (eq-eqb t x z) ∙ e)

slot : (keys : List ℕ) (t : ℕ) → SlotIn keys 15 → t < 16 → SlotIn keys t
slot keys t room l = omega (arith, room)

-- one key more: its table is none of those before, and no later key touches it
module _ {keys keys₁ keys' : List ℕ} (room : SlotIn keys 15) (before : List TableKey) (k : TableKey) (free : any_b (eqb k.table) (keyed_tables before) ≡ false) (put : KeyPut keys keys₁ k.table [] k.columns) where
  pub keys-more : (ks : List TableKey) → KeysPut keys₁ keys' (k ∷ before) ks → KeysPut keys keys' before (k ∷ ks)
  unfolding any_b declared
  keys-more ks h = record {
    stays = λ t l e.
        let d : t ≡ k.table → ⊥ = λ z. true≢false (sym e ∙ (ap (λ x. any_b (eqb x) (keyed_tables before)) z ∙ free)) in
        h.stays t l (ap (eqb t k.table ||◌) e ∙ or_true (eqb t k.table)) ∙ put.others t (slot keys t room l) d;
    fresh_are = λ t l e z. go t l e z (eqb t k.table) refl;
  }
    where
      go : (t : ℕ) → t < 16 → any_b (eqb t) (keyed_tables before) ≡ false → slot_at keys t ≡ 0 → (b : Bool) → eqb t k.table ≡ b → KeySet (slot_at keys' t) (cond (eqb k.table t) k.columns (declared ks t))
      go t l e z true d =
          let w = eqb-true t k.table d in
          let s = h.stays t l (ap (◌|| any_b (eqb t) (keyed_tables before)) d) in
          record {
            members = λ i.
                ap (λ x. has x i) s ∙ (ap (λ x. has (slot_at keys₁ x) i) w ∙ (put.columns_are i ∙ (or_false (any_b (eqb i) k.columns) ∙ ap (λ b. any_b (eqb i) (cond b k.columns (declared ks t))) (sym (eq-eqb k.table t (sym w))))));
          }
      go t l e z false d =
          let f = h.fresh_are t l (ap (◌|| any_b (eqb t) (keyed_tables before)) d ∙ e) (put.others t (slot keys t room l) (other t k.table d) ∙ z) in
          record { members = λ i. f.members i ∙ ap (λ b. any_b (eqb i) (cond b k.columns (declared ks t))) (sym (ne_eqb k.table t (λ w. other t k.table d (sym w)))) }

-- some keys were read, of whose tables the set is, and so many are left
pub record KeysLeft (v : Version) (ts : List (List ℕ)) (file : List ℕ) (n at : ℕ) (keys : List ℕ) (left next : ℕ) (set : RequiredIndices) (keys' : List ℕ) : Type 0 where
  pub before : List TableKey
  pub stands : Stands set (keyed_tables before)
  pub ends : (keys'' : List ℕ) (r : Result ℕ Refusal) → Found (times_after left (read_table_key v ts) before file next) (KeysPut keys' keys'' before) r
      → Found (times_after n (read_table_key v ts) [] file at) (KeysPut keys keys'' []) r

pub all_keys : (v : Version) (ts : List (List ℕ)) (file : List ℕ) (n at : ℕ) (keys : List ℕ) (set : RequiredIndices) {left : ℕ} {b : Bool} → left ≡ n → Holds set 0 b → KeysLeft v ts file n at keys left at set keys
all_keys v ts file n at keys set e h = record { before = []; stands = stands_none set h; ends = λ keys'' r f. rw e at f }

module _ {v : Version} {ts : List (List ℕ)} {file : List ℕ} {n at : ℕ} {keys : List ℕ} {left next : ℕ} {set : RequiredIndices} {keys' : List ℕ} (w : KeysLeft v ts file n at keys left next set keys') where
  pub one_key : (left ≡ 0 → ⊥) → SlotIn keys' 15 → (set' : RequiredIndices) (keys₁ : List ℕ) {tables left' : ℕ} {b : Bool} (f : Field) → KeyIs tables (read_table_key v ts w.before file next) keys' keys₁ w.before (Ok f)
      → Holds set' (bit_or (set_of set) (2 ^ f.value)) b → left' ≡ left - 1 → KeysLeft v ts file n at keys left' f.next set' keys₁
  one_key some room set' keys₁ f h i e = record {
    before = h.0 ∷ w.before;
    stands = stands_key set set' f.value h.0 w.before h.1 w.stands i;
    ends = λ keys'' r g.
        w.ends keys'' r
        (after-right (read_table_key v ts) w.before _ _ _ some (KeysPut keys' keys'' w.before) (KeysPut keys₁ keys'' (h.0 ∷ w.before)) h.3 (keys-more room w.before h.0 h.4 h.5) r (rw e at g));
  }

  pub key_refused : (left ≡ 0 → ⊥) → (keys₁ : List ℕ) (e : Refusal) → ((tags m : ℕ) → read_table_key v ts w.before file next tags m ≡ bad (code_of e.reason) e.place)
      → Found (times_after n (read_table_key v ts) [] file at) (KeysPut keys keys₁ []) (Err e)
  key_refused some keys₁ e h = w.ends keys₁ (Err e) (after-bad (read_table_key v ts) w.before _ _ _ some h)

  pub no_key : left ≡ 0 → Found (times_after n (read_table_key v ts) [] file at) (KeysPut keys keys' []) (Ok next)
  no_key e = w.ends keys' (Ok next) (after_none (read_table_key v ts) w.before _ _ _ _ e (keys_none w.before))

-- all keys
pub tables_put : {keys keys' : List ℕ} (ks : List TableKey) → ((t : ℕ) → t < 16 → slot_at keys t ≡ 0) → KeysPut keys keys' [] ks → TablesPut keys' ks
unfolding any_b
tables_put ks z h = record { each = λ t l. h.fresh_are t l refl (z t l) }

-- the first t tables have no key
pub record Cleared (keys keys' : List ℕ) (t : ℕ) : Type 0 where
  pub long : length keys' ≡ length keys
  pub upto : t ≤ 16
  pub none : (x : ℕ) → x < t → slot_at keys' x ≡ 0

pub cleared_more : {keys keys' keys'' : List ℕ} {t : ℕ} {set : ℕ} → SlotIn keys 15 → t < 16 → set ≡ 0 → Cleared keys keys' t → PutKey keys' keys'' t set → Cleared keys keys'' (t + 1)
cleared_more {keys} {keys'} {keys''} {t} room l e h p = record {
  long = p.long ∙ h.long;
  upto = omega arith;
  none = λ x b. elim (ℕ_discrete x t) [
    | yes d ↦ ap (slot_at keys'') d ∙ (p.here ∙ e)
    | no d ↦ p.others x (omega (arith, h.long, room)) d ∙ h.none x (omega (arith, d))
  ];
}
