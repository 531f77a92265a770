-- Lists of which some things are taken: a turn of the loop that writes or counts them, and what they are of the definition's lists.
-- Assumes nothing.
use mathlib.Core.Path.{◌≡◌, refl, sym, ap, ap₂, ◌∙◌}
use mathlib.Core.Bool.{Bool, true, false, cond}
use mathlib.Core.List.{List, [], ◌∷◌, ◌++◌, append_assoc, append-nil}
use Prim.Native.Nat.{ℕ, zero, suc, ◌+◌, ◌-◌, ◌/◌, ◌%◌, ◌^◌, ◌<◌, ◌≤◌}
use native.Mathlib.Nat.{div-one, mod-lt}
use native.Mathlib.Omega.{arith}
use lib.Count.{ones}
use lib.ListN.{length, take, drop, length-append}
use lib.Pow.{pow_pos}
use Rattle.cpl.specs.Bytes.{bytes, counted_bytes}
use Rattle.cpl.specs.Tests.{concat_map, sum_of}
use Rattle.cpl.proofs.Lists.{length-Fit}
use Rattle.rules.specs.Mask.{Mask, select}
use Rattle.rules.proofs.Masks.{length-select}
use Rattle.required_indices.specs.Set.{has, odd, set_mask}
use Rattle.required_indices.proofs.Masks.{mask-count, mask_ext, mask-length}
use Rattle.required_indices.proofs.Members.{has-add, has_mod}
use Rattle.tree.specs.Rows.{EachOk, list_at, one}
use Rattle.writer_parts.specs.Wrote.{Counts, Laid, Wrote}
use Rattle.writer_parts.specs.Lists.{PartsOk, Which, chosen, chosen_sum, row_from, taken_count, takes}
use Rattle.writer_parts.specs.Parts.{PartOk}
use Rattle.writer_parts.specs.declared.Part.{Part}
use Rattle.writer_parts.specs.declared.Size.{Size}
use Rattle.writer_parts.proofs.Over.{length-bytes, part, so, start, then}

-- ── what is taken ───────────────────────────────────────────────────────────────────────────

module _ (f : ℕ → List ℕ) (t : ℕ → Bool) where
  pub chosen-split : (i n m : ℕ) → chosen f t i (n + m) ≡ chosen f t i n ++ chosen f t (i + n) m
  unfolding chosen
  chosen-split i zero m = let e : 0 + m ≡ m = omega arith in let d : i ≡ i + 0 = omega arith in ap₂ (chosen f t) d e
  chosen-split i (suc n) m =
      let e : suc n + m ≡ suc (n + m) = omega arith in
      let d : suc i + n ≡ i + suc n = omega arith in
      ap (chosen f t i) e
      ∙ ap (λ (x : List ℕ). cond (t i) (f i) [] ++ x) (chosen-split (suc i) n m ∙ ap (λ (x : ℕ). chosen f t (suc i) n ++ chosen f t x m) d)
      ∙ sym (append_assoc (cond (t i) (f i) []) (chosen f t (suc i) n) (chosen f t (i + suc n) m))

  -- one more
  pub chosen-next : (i : ℕ) → chosen f t 0 (i + 1) ≡ chosen f t 0 i ++ cond (t i) (f i) []
  unfolding chosen
  chosen-next i =
      let e : 0 + i ≡ i = omega arith in
      chosen-split 0 i 1 ∙ ap (λ (x : ℕ). chosen f t 0 i ++ chosen f t x 1) e ∙ ap (λ (x : List ℕ). chosen f t 0 i ++ x) (append-nil (cond (t i) (f i) []))

  pub next-length : (i : ℕ) → length (chosen f t 0 (i + 1)) ≡ length (chosen f t 0 i) + length (cond (t i) (f i) [])
  next-length i = ap length (chosen-next i) ∙ length-append (chosen f t 0 i) (cond (t i) (f i) [])

  pub upto-length : (i n : ℕ) → i ≤ n → length (chosen f t 0 i) ≤ length (chosen f t 0 n)
  upto-length i n h =
      let e : i + (n - i) ≡ n = omega arith in
      omega (arith, ap (λ (x : ℕ). length (chosen f t 0 x)) e, ap length (chosen-split 0 i (n - i)), length-append (chosen f t 0 i) (chosen f t (0 + i) (n - i)))

  -- there is room for the next
  pub turn_fits : (i n : ℕ) → t i ≡ true → i < n → length (chosen f t 0 i) + length (f i) ≤ length (chosen f t 0 n)
  turn_fits i n e h =
      let d : length (cond (t i) (f i) []) ≡ length (f i) = rw e in
      omega (arith, d, next-length i, upto-length (i + 1) n (omega arith))

  -- a turn of the loop that writes, where the thing is taken and where it is left
  pub turn : {xs ys out : List ℕ} {at m : ℕ} (i : ℕ) → t i ≡ true → Wrote (chosen f t 0 i) xs at out → Wrote (f i) (take (length out - at) (drop at out)) m ys →
      Wrote (chosen f t 0 (i + 1)) xs (at + m) (take at out ++ (ys ++ drop (length out - at) (drop at out)))
  turn i e w u = so (part w u) (ap (λ (b : Bool). chosen f t 0 i ++ cond b (f i) []) (sym e) ∙ sym (chosen-next i)) refl

  pub turn_left : {xs out : List ℕ} {at : ℕ} (i : ℕ) → t i ≡ false → Wrote (chosen f t 0 i) xs at out → Wrote (chosen f t 0 (i + 1)) xs at out
  turn_left i e w = so w (sym (append-nil (chosen f t 0 i)) ∙ ap (λ (b : Bool). chosen f t 0 i ++ cond b (f i) []) (sym e) ∙ sym (chosen-next i)) refl

  pub turn_none : {xs : List ℕ} → Wrote (chosen f t 0 0) xs 0 xs
  unfolding chosen
  turn_none = start

  pub turn_all : {xs out : List ℕ} {at : ℕ} (i n : ℕ) → i ≤ n → n ≤ i → Wrote (chosen f t 0 i) xs at out → Wrote (chosen f t 0 n) xs at out
  turn_all i n h l w = let e : i ≡ n = omega arith in so w (ap (chosen f t 0) e) refl

module _ (g : ℕ → ℕ) (t : ℕ → Bool) where
  sum_split : (i n m : ℕ) → chosen_sum g t i (n + m) ≡ chosen_sum g t i n + chosen_sum g t (i + n) m
  unfolding chosen_sum
  sum_split i zero m = let e : 0 + m ≡ m = omega arith in let d : i ≡ i + 0 = omega arith in ap₂ (chosen_sum g t) d e ∙ omega arith
  sum_split i (suc n) m =
      let e : suc n + m ≡ suc (n + m) = omega arith in
      let d : suc i + n ≡ i + suc n = omega arith in
      ap (chosen_sum g t i) e ∙ omega (arith, sum_split (suc i) n m, ap (λ (x : ℕ). chosen_sum g t x m) d)

  pub sum_next : (i : ℕ) → chosen_sum g t 0 (i + 1) ≡ chosen_sum g t 0 i + cond (t i) (g i) 0
  unfolding chosen_sum
  sum_next i = let e : 0 + i ≡ i = omega arith in sum_split 0 i 1 ∙ ap (λ (x : ℕ). chosen_sum g t 0 i + chosen_sum g t x 1) e ∙ omega arith

  pub sum_upto : (i n : ℕ) → i ≤ n → chosen_sum g t 0 i ≤ chosen_sum g t 0 n
  sum_upto i n h = let e : i + (n - i) ≡ n = omega arith in omega (arith, ap (chosen_sum g t 0) e, sum_split 0 i (n - i))

  pub sum_fits : (i n : ℕ) → t i ≡ true → i < n → chosen_sum g t 0 i + g i ≤ chosen_sum g t 0 n
  sum_fits i n e h =
      let d : cond (t i) (g i) 0 ≡ g i = rw e in
      omega (arith, d, sum_next i, sum_upto (i + 1) n (omega arith))

module _ (f : ℕ → List ℕ) (g : ℕ → ℕ) (t : ℕ → Bool) where
  -- a turn of the loop that counts, where the thing is taken and where it is left
  pub turn_counts : (i : ℕ) {s m r : Size} → t i ≡ true → Counts (length (chosen f t 0 i)) (chosen_sum g t 0 i) s → Counts (length (f i)) (g i) m →
      Counts (s.bytes + m.bytes) (s.tags + m.tags) r → Counts (length (chosen f t 0 (i + 1))) (chosen_sum g t 0 (i + 1)) r
  turn_counts i e p q o =
      let d : length (cond (t i) (f i) []) ≡ length (f i) = rw e in
      let k : cond (t i) (g i) 0 ≡ g i = rw e in
      record {
        bytes_are = omega (arith, d, p.bytes_are, q.bytes_are, o.bytes_are, next-length f t i);
        tags_are = omega (arith, k, p.tags_are, q.tags_are, o.tags_are, sum_next g t i);
      }

  pub left_counts : (i : ℕ) {s : Size} → t i ≡ false → Counts (length (chosen f t 0 i)) (chosen_sum g t 0 i) s → Counts (length (chosen f t 0 (i + 1))) (chosen_sum g t 0 (i + 1)) s
  left_counts i e p =
      let d : length (cond (t i) (f i) []) ≡ 0 = rw e in
      let k : cond (t i) (g i) 0 ≡ 0 = rw e in
      record {
        bytes_are = omega (arith, d, p.bytes_are, next-length f t i);
        tags_are = omega (arith, k, p.tags_are, sum_next g t i);
      }

  pub none-counts : {s : Size} → s.bytes ≡ 0 → s.tags ≡ 0 → Counts (length (chosen f t 0 0)) (chosen_sum g t 0 0) s
  unfolding chosen chosen_sum
  none-counts e d = record { bytes_are = e; tags_are = d }

  pub all-counts : (i n : ℕ) {s : Size} → i ≤ n → n ≤ i → Counts (length (chosen f t 0 i)) (chosen_sum g t 0 i) s → Counts (length (chosen f t 0 n)) (chosen_sum g t 0 n) s
  all-counts i n h l p =
      let e : i ≡ n = omega arith in
      record { bytes_are = p.bytes_are ∙ ap (λ (x : ℕ). length (chosen f t 0 x)) e; tags_are = p.tags_are ∙ ap (chosen_sum g t 0) e }

-- ── lists of the definition ─────────────────────────────────────────────────────────────────

chosen-same : {f g : ℕ → List ℕ} {t u : ℕ → Bool} → ((j : ℕ) → f j ≡ g j) → ((j : ℕ) → t j ≡ u j) → (i n : ℕ) → chosen f t i n ≡ chosen g u i n
unfolding chosen
chosen-same p q i zero = refl
chosen-same {f} {g} {t} {u} p q i (suc n) = ap₂ ◌++◌ (ap₂ (λ (b : Bool) (x : List ℕ). cond b x []) (q i) (p i)) (chosen-same p q (suc i) n)

sum_same : {f g : ℕ → ℕ} {t u : ℕ → Bool} → ((j : ℕ) → f j ≡ g j) → ((j : ℕ) → t j ≡ u j) → (i n : ℕ) → chosen_sum f t i n ≡ chosen_sum g u i n
unfolding chosen_sum
sum_same p q i zero = refl
sum_same {f} {g} {t} {u} p q i (suc n) = ap₂ ◌+◌ (ap₂ (λ (b : Bool) (x : ℕ). cond b x 0) (q i) (p i)) (sum_same p q (suc i) n)

chosen_shift : (f : ℕ → List ℕ) (t : ℕ → Bool) (i n : ℕ) → chosen f t (suc i) n ≡ chosen (λ j. f (suc j)) (λ j. t (suc j)) i n
unfolding chosen
chosen_shift f t i zero = refl
chosen_shift f t i (suc n) = ap (λ (x : List ℕ). cond (t (suc i)) (f (suc i)) [] ++ x) (chosen_shift f t (suc i) n)

sum_shift : (f : ℕ → ℕ) (t : ℕ → Bool) (i n : ℕ) → chosen_sum f t (suc i) n ≡ chosen_sum (λ j. f (suc j)) (λ j. t (suc j)) i n
unfolding chosen_sum
sum_shift f t i zero = refl
sum_shift f t i (suc n) = ap (λ (x : ℕ). cond (t (suc i)) (f (suc i)) 0 + x) (sum_shift f t (suc i) n)

has_0 : (s : ℕ) → has s 0 ≡ odd s
unfolding has
has_0 s = ap odd (div-one s)

has-suc : (s i : ℕ) → has s (suc i) ≡ has (s / 2) i
has-suc s i = ap (has s) {x = suc i} {y = 1 + i} (omega arith) ∙ has-add s 1 i

module _ {A : Type 0} (read : ℕ → A) (size : ℕ → ℕ) where
  pub list_length : (first n : ℕ) → length (list_at read size first n) ≡ n
  unfolding list_at
  list_length first zero = refl
  list_length first (suc n) = ap suc (list_length (first + size first) n)

  module _ (w : A → List ℕ) where
    pub all_listed : (first n : ℕ) → concat_map w (list_at read size first n) ≡ chosen (λ i. w (read (row_from size first i))) (λ i. true) 0 n
    unfolding concat_map list_at chosen row_from
    all_listed first zero = refl
    all_listed first (suc n) = ap (λ (x : List ℕ). w (read first) ++ x) (all_listed (first + size first) n ∙ sym (chosen_shift (λ i. w (read (row_from size first i))) (λ i. true) 0 n))

    pub set-listed : (first n s : ℕ) → concat_map w (select (set_mask n s) (list_at read size first n)) ≡ chosen (λ i. w (read (row_from size first i))) (has s) 0 n
    unfolding concat_map list_at chosen row_from set_mask select
    set-listed first zero s = refl
    set-listed first (suc n) s =
        by (odd s) refl
        (set-listed (first + size first) n (s / 2) ∙ sym (chosen_shift (λ i. w (read (row_from size first i))) (has s) 0 n ∙ chosen-same (λ j. refl) (has-suc s) 0 n))
      where
        by : (b : Bool) → odd s ≡ b → concat_map w (select (set_mask n (s / 2)) (list_at read size (first + size first) n)) ≡ chosen (λ i. w (read (row_from size first i))) (has s) 1 n →
            concat_map w (select (b ∷ set_mask n (s / 2)) (read first ∷ list_at read size (first + size first) n)) ≡ chosen (λ i. w (read (row_from size first i))) (has s) 0 (suc n)
        by true e rest = ap₂ (λ (b : Bool) (x : List ℕ). cond b (w (read first)) [] ++ x) (sym (has_0 s ∙ e)) rest
        by false e rest = ap₂ (λ (b : Bool) (x : List ℕ). cond b (w (read first)) [] ++ x) (sym (has_0 s ∙ e)) rest

  module _ (g : A → ℕ) where
    pub all_summed : (first n : ℕ) → sum_of g (list_at read size first n) ≡ chosen_sum (λ i. g (read (row_from size first i))) (λ i. true) 0 n
    unfolding sum_of list_at chosen_sum row_from
    all_summed first zero = refl
    all_summed first (suc n) = ap (λ (x : ℕ). g (read first) + x) (all_summed (first + size first) n ∙ sym (sum_shift (λ i. g (read (row_from size first i))) (λ i. true) 0 n))

    pub set_summed : (first n s : ℕ) → sum_of g (select (set_mask n s) (list_at read size first n)) ≡ chosen_sum (λ i. g (read (row_from size first i))) (has s) 0 n
    unfolding sum_of list_at chosen_sum row_from set_mask select
    set_summed first zero s = refl
    set_summed first (suc n) s =
        by (odd s) refl
        (set_summed (first + size first) n (s / 2) ∙ sym (sum_shift (λ i. g (read (row_from size first i))) (has s) 0 n ∙ sum_same (λ j. refl) (has-suc s) 0 n))
      where
        by : (b : Bool) → odd s ≡ b → sum_of g (select (set_mask n (s / 2)) (list_at read size (first + size first) n)) ≡ chosen_sum (λ i. g (read (row_from size first i))) (has s) 1 n →
            sum_of g (select (b ∷ set_mask n (s / 2)) (read first ∷ list_at read size (first + size first) n)) ≡ chosen_sum (λ i. g (read (row_from size first i))) (has s) 0 (suc n)
        by true e rest = ap₂ (λ (b : Bool) (x : ℕ). cond b (g (read first)) 0 + x) (sym (has_0 s ∙ e)) rest
        by false e rest = let d : (x : ℕ) → x ≡ 0 + x = λ x. omega arith in d _ ∙ ap₂ (λ (b : Bool) (x : ℕ). cond b (g (read first)) 0 + x) (sym (has_0 s ∙ e)) rest

-- things of one row
pub row_one : (first i : ℕ) → row_from one first i ≡ first + i
unfolding row_from
row_one first zero = omega arith
row_one first (suc i) = row_one (first + 1) i ∙ omega arith

-- the row after thing i
pub row_next : (size : ℕ → ℕ) (first i : ℕ) → row_from size first (i + 1) ≡ row_from size first i + size (row_from size first i)
unfolding row_from
row_next size first zero = ap (row_from size first) {x = 0 + 1} {y = 1} (omega arith)
row_next size first (suc i) = ap (row_from size first) {x = suc i + 1} {y = suc (i + 1)} (omega arith) ∙ row_next size (first + size first) i

-- ── by what is taken ────────────────────────────────────────────────────────────────────────

module _ (w : Which) where
  taken-all : w.all ≡ true → (i : ℕ) → true ≡ takes w i
  taken-all e i = rw e

  taken-set : w.all ≡ false → (i : ℕ) → has w.set i ≡ takes w i
  taken-set e i = rw e

  module _ {A : Type 0} (f : A → List ℕ) (g : A → ℕ) (read : ℕ → A) (size : ℕ → ℕ) (first n : ℕ) where
    -- all of them
    module _ (e : w.all ≡ true) where
      pub all-bytes : concat_map f (list_at read size first n) ≡ chosen (λ i. f (read (row_from size first i))) (takes w) 0 n
      all-bytes = all_listed read size f first n ∙ chosen-same (λ j. refl) (taken-all e) 0 n

      pub all-tags : sum_of g (list_at read size first n) ≡ chosen_sum (λ i. g (read (row_from size first i))) (takes w) 0 n
      all-tags = all_summed read size g first n ∙ sum_same (λ j. refl) (taken-all e) 0 n

    -- those of a set
    module _ (e : w.all ≡ false) where
      pub set-bytes : concat_map f (select (set_mask n w.set) (list_at read size first n)) ≡ chosen (λ i. f (read (row_from size first i))) (takes w) 0 n
      set-bytes = set-listed read size f first n w.set ∙ chosen-same (λ j. refl) (taken-set e) 0 n

      pub set-tags : sum_of g (select (set_mask n w.set) (list_at read size first n)) ≡ chosen_sum (λ i. g (read (row_from size first i))) (takes w) 0 n
      set-tags = set_summed read size g first n w.set ∙ sum_same (λ j. refl) (taken-set e) 0 n

  module _ {A : Type 0} (f : A → List ℕ) (g : A → ℕ) (read : ℕ → A) (first n : ℕ) where
    by_row : chosen (λ i. f (read (row_from one first i))) (takes w) 0 n ≡ chosen (λ i. f (read (first + i))) (takes w) 0 n
    by_row = chosen-same (λ j. ap (λ (x : ℕ). f (read x)) (row_one first j)) (λ j. refl) 0 n

    by_row_tags : chosen_sum (λ i. g (read (row_from one first i))) (takes w) 0 n ≡ chosen_sum (λ i. g (read (first + i))) (takes w) 0 n
    by_row_tags = sum_same (λ j. ap (λ (x : ℕ). g (read x)) (row_one first j)) (λ j. refl) 0 n

    pub all-rows : w.all ≡ true → concat_map f (list_at read one first n) ≡ chosen (λ i. f (read (first + i))) (takes w) 0 n
    all-rows e = all-bytes f g read one first n e ∙ by_row

    pub all-row-tags : w.all ≡ true → sum_of g (list_at read one first n) ≡ chosen_sum (λ i. g (read (first + i))) (takes w) 0 n
    all-row-tags e = all-tags f g read one first n e ∙ by_row_tags

    pub set-rows : w.all ≡ false → concat_map f (select (set_mask n w.set) (list_at read one first n)) ≡ chosen (λ i. f (read (first + i))) (takes w) 0 n
    set-rows e = set-bytes f g read one first n e ∙ by_row

    pub set-row-tags : w.all ≡ false → sum_of g (select (set_mask n w.set) (list_at read one first n)) ≡ chosen_sum (λ i. g (read (first + i))) (takes w) 0 n
    set-row-tags e = set-tags f g read one first n e ∙ by_row_tags

-- how many a set takes
pub set-count : {A : Type 0} (n s : ℕ) (xs : List A) → length xs ≡ n → s < 2 ^ n → length (select (set_mask n s) xs) ≡ ones s
set-count n s xs e h = length-select (length-Fit (set_mask n s) xs (mask-length n s ∙ sym e)) ∙ mask-count n s h

-- a list with its count in k bytes: all of it, and the things of a set
module _ (k : ℕ) (w : Which) {A : Type 0} (f : A → List ℕ) (g : A → ℕ) (read : ℕ → A) (size : ℕ → ℕ) (first n : ℕ) where
  pub counted-all : w.all ≡ true → counted_bytes k f (list_at read size first n) ≡ bytes k (taken_count w n) ++ chosen (λ i. f (read (row_from size first i))) (takes w) 0 n
  unfolding counted_bytes
  counted-all e = ap₂ (λ (x : ℕ) (y : List ℕ). bytes k x ++ y) (list_length read size first n ∙ rw e) (all-bytes w f g read size first n e)

  pub counted-set : w.all ≡ false → w.set < 2 ^ n →
      counted_bytes k f (select (set_mask n w.set) (list_at read size first n)) ≡ bytes k (taken_count w n) ++ chosen (λ i. f (read (row_from size first i))) (takes w) 0 n
  unfolding counted_bytes
  counted-set e h =
      ap₂ (λ (x : ℕ) (y : List ℕ). bytes k x ++ y)
      (set-count n w.set (list_at read size first n) (list_length read size first n) h ∙ rw e) (set-bytes w f g read size first n e)

module _ (k : ℕ) (w : Which) {A : Type 0} (f : A → List ℕ) (g : A → ℕ) (read : ℕ → A) (first n : ℕ) where
  pub counted-all-rows : w.all ≡ true → counted_bytes k f (list_at read one first n) ≡ bytes k (taken_count w n) ++ chosen (λ i. f (read (first + i))) (takes w) 0 n
  counted-all-rows e = counted-all k w f g read one first n e ∙ ap (λ (x : List ℕ). bytes k (taken_count w n) ++ x) (by_row w f g read first n)

  pub counted-set-rows : w.all ≡ false → w.set < 2 ^ n →
      counted_bytes k f (select (set_mask n w.set) (list_at read one first n)) ≡ bytes k (taken_count w n) ++ chosen (λ i. f (read (first + i))) (takes w) 0 n
  counted-set-rows e h = counted-set k w f g read one first n e h ∙ ap (λ (x : List ℕ). bytes k (taken_count w n) ++ x) (by_row w f g read first n)

-- the things that the first n indices of a set take: no bound on the set is needed
module _ {A : Type 0} (read : ℕ → A) (first n s : ℕ) where
  low_mask : set_mask n s ≡ set_mask n (s % 2 ^ n)
  low_mask = sym (mask_ext n (s % 2 ^ n) s (λ i l. has_mod s n i l))

  pub low-row-tags : (g : A → ℕ) → sum_of g (select (set_mask n s) (list_at read one first n)) ≡ chosen_sum (λ i. g (read (first + i))) (has (s % 2 ^ n)) 0 n
  low-row-tags g =
      ap (λ (M : Mask). sum_of g (select M (list_at read one first n))) low_mask ∙ set_summed read one g first n (s % 2 ^ n)
      ∙ sum_same (λ j. ap (λ (x : ℕ). g (read x)) (row_one first j)) (λ j. refl) 0 n

  pub counted-low-rows : (k : ℕ) (f : A → List ℕ) →
      counted_bytes k f (select (set_mask n s) (list_at read one first n)) ≡ bytes k (ones (s % 2 ^ n)) ++ chosen (λ i. f (read (first + i))) (has (s % 2 ^ n)) 0 n
  unfolding counted_bytes
  counted-low-rows k f =
      ap (λ (M : Mask). counted_bytes k f (select M (list_at read one first n))) low_mask
      ∙ ap₂ (λ (x : ℕ) (y : List ℕ). bytes k x ++ y) (set-count n (s % 2 ^ n) (list_at read one first n) (list_length read one first n) (mod-lt s (pow_pos n)))
      (set-listed read one f first n (s % 2 ^ n) ∙ chosen-same (λ j. ap (λ (x : ℕ). f (read x)) (row_one first j)) (λ j. refl) 0 n)

-- rows of which each is so
pub each-ok : {p : Part} {s cells : List ℕ} {first n : ℕ} → EachOk (PartOk p s cells) s first n → length s < 2 ^ 64 → PartsOk p s cells first n
each-ok o h = record { fits = omega (arith, o.room); each = λ k l. o.each _ (omega arith) (omega arith) }

-- a count, and what was written after it
pub after-count : {xs o v ys : List ℕ} {a m k x y : ℕ} → x ≡ y → Laid 0 (bytes k x) k xs a o → Wrote v (take (length o - a) (drop a o)) m ys →
    Wrote (bytes k y ++ v) xs (a + m) (take a o ++ (ys ++ drop (length o - a) (drop a o)))
after-count {v = v} {k = k} e l w = so (part (then start l) w) (ap (λ (z : ℕ). bytes k z ++ v) e) refl

pub counted-length : (k x : ℕ) (v : List ℕ) → length (bytes k x ++ v) ≡ k + length v
counted-length k x v = length-append (bytes k x) v ∙ omega (arith, length-bytes k x)
