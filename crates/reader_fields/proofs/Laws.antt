-- Laws of the readers of fields, one for each way that one can go. Assumes nothing.
use Prim.Native.Nat.{ℕ, suc, ◌+◌, ◌*◌, ◌-◌, ◌^◌, ◌≤◌, ◌<◌}
use mathlib.Core.Path.{◌≡◌, sym, ap, ◌∙◌}
use mathlib.Core.Bool.{Bool, true, false}
use mathlib.Core.List.{List, [], ◌∷◌, ◌++◌}
use native.Mathlib.Omega.{arith}
use native.Mathlib.Nat.{pow-succ', pow-le-pow_right}
use Rattle.std.proofs.lemmas.List.{length-take-le, length-drop, get_or-take, get_or-drop}
use lib.ListN.{length, get_or, take, drop, length-append, get_or-append}
use lib.Seq.{get_or-append_seam}
use borrow.Author.Tests.{lt-ltb, le-ltb, le-leb, lt-leb, eq-eqb, ne_eqb}
use Rattle.cpl.specs.Limits.{max_tags}
use Rattle.cpl.specs.Codes.{CUT, VALUE, MANY}
use Rattle.cpl.specs.Plan.{pair}
use Rattle.cpl.specs.Read.{ok, bad, little, field, value, is_not, nonzero, count, tag}
use Rattle.cpl.specs.ReadExpr.{read_pair}
use Rattle.reader_fields.specs.Answers.{From}

-- ── numbers ─────────────────────────────────────────────────────────────────────────────────

-- a byte before a number
one_more : (i : ℕ) (file : List ℕ) (at b n : ℕ) → n ≡ little i file (at + 1) → n < 256 ^ i → b ≡ get_or file at 0 → b < 256 → (256 * n + b ≡ little (suc i) file at) × (256 * n + b < 256 ^ suc i)
unfolding little
one_more i file at b n e l f m = (omega (arith, e, f), omega (arith, pow-succ' 256 i))

-- of the k bytes from `at`, the first are left in `rest`, and n is what the others spell
pub record Spelt (file : List ℕ) (at k : ℕ) (rest : List ℕ) (n : ℕ) : Type 0 where
  pub few : length rest ≤ k
  pub same : (j : ℕ) → j < length rest → get_or rest j 0 ≡ get_or file (at + j) 0
  pub value : n ≡ little (k - length rest) file (at + length rest)
  pub below : n < 256 ^ (k - length rest)

module _ (file : List ℕ) (at k : ℕ) where
  pub none_spelt : at + k ≤ length file → (rest : List ℕ) → rest ≡ take (at + k - at) (drop at file) → Spelt file at k rest 0
  unfolding little
  none_spelt h rest e =
      let s : rest ≡ take k (drop at file) = e ∙ ap (λ (i : ℕ). take i (drop at file)) (omega arith) in
      let long : length rest ≡ k = ap length s ∙ length-take-le k (drop at file) (omega (arith, length-drop at file)) in
      let none : k - length rest ≡ 0 = omega arith in
      record {
        few = omega arith;
        same = λ j l. rw s (get_or-take k (drop at file) j 0 (omega arith) ∙ get_or-drop at file j 0);
        value = rw none;
        below = rw none (omega arith);
      }

  module _ (rest rest' : List ℕ) (n b : ℕ) (s : Spelt file at k rest n) (e : rest ≡ rest' ++ b ∷ []) where
    longer : length rest ≡ length rest' + 1
    longer = ap length e ∙ length-append rest' (b ∷ [])

    pub one_spelt : ((j : ℕ) → get_or file j 0 < 256) → Spelt file at k rest' (256 * n + b)
    one_spelt fits =
        let first : b ≡ get_or file (at + length rest') 0 = sym (get_or-append_seam rest' b [] 0) ∙ ap (λ (r : List ℕ). get_or r (length rest') 0) (sym e) ∙ s.same (length rest') (omega (arith, longer)) in
        let value : n ≡ little (k - length rest) file (at + length rest' + 1) = s.value ∙ ap (little (k - length rest) file) (omega (arith, longer)) in
        let p = one_more (k - length rest) file (at + length rest') b n value s.below first (rw first (fits (at + length rest'))) in
        let step : k - length rest' ≡ suc (k - length rest) = omega (arith, longer, s.few) in
        record {
          few = omega (arith, longer, s.few);
          same = λ j l. sym (get_or-append rest' (b ∷ []) 0 j l) ∙ ap (λ (r : List ℕ). get_or r j 0) (sym e) ∙ s.same j (omega (arith, longer));
          value = rw step p.0;
          below = rw step p.1;
        }

    pub spelt_fits : k ≤ 8 → n < 256 ^ 7
    spelt_fits l = let g : 256 ^ (k - length rest) ≤ 256 ^ 7 = pow-le-pow_right {n = 256} (omega arith) {i = k - length rest} {j = 7} (omega (arith, longer)) in omega (arith, s.below)

  pub all_spelt : (rest : List ℕ) (n : ℕ) → Spelt file at k rest n → length rest ≡ 0 → (n ≡ little k file at) × (n < 256 ^ k)
  all_spelt rest n s e =
      let all : k - length rest ≡ k = omega arith in
      let from : at + length rest ≡ at = omega arith in
      (rw (all, from) at s.value, rw all at s.below)

-- a number of at most two bytes
pub narrow : (k x : ℕ) → k ≤ 2 → x < 256 ^ k → x < 65536
narrow k x h l = let g : 256 ^ k ≤ 256 ^ 2 = pow-le-pow_right {n = 256} (omega arith) {i = k} {j = 2} (omega arith) in omega arith

-- ── fields ──────────────────────────────────────────────────────────────────────────────────

module _ (k : ℕ) (file : List ℕ) (at : ℕ) where
  pub field_cut : length file < at + k → (tags n : ℕ) → field k file at tags n ≡ bad CUT at
  unfolding field
  field_cut h tags n = rw (lt-leb _ _ h)

  pub field-ok : at + k ≤ length file → {x : ℕ} → x ≡ little k file at → (tags n : ℕ) → field k file at tags n ≡ ok x (at + k) tags n
  unfolding field
  field-ok h e tags n = rw (le-leb _ _ h, e)

  module _ (allowed : ℕ → Bool) where
    pub value-bad : {code place : ℕ} → ((tags n : ℕ) → field k file at tags n ≡ bad code place) → (tags n : ℕ) → value k allowed file at tags n ≡ bad code place
    unfolding value
    value-bad e tags n = rw (e tags n)

    module _ {x next : ℕ} (e : (tags n : ℕ) → field k file at tags n ≡ ok x next tags n) where
      pub value_no : allowed x ≡ false → (tags n : ℕ) → value k allowed file at tags n ≡ bad VALUE at
      unfolding value
      value_no h tags n = rw (e tags n, h)

      pub value-ok : allowed x ≡ true → (tags n : ℕ) → value k allowed file at tags n ≡ ok x next tags n
      unfolding value
      value-ok h tags n = rw (e tags n, h)

pub is_zero : (x : ℕ) → x ≡ 0 → is_not 0 x ≡ false
unfolding is_not
is_zero x h = rw (eq-eqb x 0 h)

pub is-not : (x : ℕ) → (x ≡ 0 → ⊥) → is_not 0 x ≡ true
unfolding is_not
is-not x h = rw (ne_eqb x 0 h)

module _ (k : ℕ) (file : List ℕ) (at : ℕ) (allowed : ℕ → Bool) (least limit : ℕ) (from : From least allowed) where
  pub count-bad : {code place : ℕ} → ((tags n : ℕ) → field k file at tags n ≡ bad code place) → (tags n : ℕ) → count k allowed limit file at tags n ≡ bad code place
  unfolding count
  count-bad e tags n = rw (value-bad k file at allowed e tags n)

  module _ {x next : ℕ} (e : (tags n : ℕ) → field k file at tags n ≡ ok x next tags n) where
    pub count-few : x < least → (tags n : ℕ) → count k allowed limit file at tags n ≡ bad VALUE at
    unfolding count
    count-few h tags n = rw (value_no k file at allowed e (from x ∙ lt-leb _ _ h) tags n)

    pub count_many : least ≤ x → limit < x → (tags n : ℕ) → count k allowed limit file at tags n ≡ bad MANY at
    unfolding count
    count_many h l tags n = rw (value-ok k file at allowed e (from x ∙ le-leb _ _ h) tags n, lt-leb _ _ l)

    pub count-ok : least ≤ x → x ≤ limit → (tags n : ℕ) → count k allowed limit file at tags n ≡ ok x next tags n
    unfolding count
    count-ok h l tags n = rw (value-ok k file at allowed e (from x ∙ le-leb _ _ h) tags n, le-leb _ _ l)

-- ── tags and pairs ──────────────────────────────────────────────────────────────────────────

module _ (file : List ℕ) (at tags : ℕ) where
  pub tag_cut : length file ≤ at → (n : ℕ) → tag file at tags n ≡ bad CUT at
  unfolding tag
  tag_cut h n = rw (lt-leb (at + 1) (length file) (omega arith))

  pub tag_many : at < length file → max_tags ≤ tags → (n : ℕ) → tag file at tags n ≡ bad MANY at
  unfolding tag
  tag_many h l n = rw (le-leb (at + 1) (length file) (omega arith), le-ltb tags max_tags l)

  pub tag-ok : at < length file → tags < max_tags → {t : ℕ} → t ≡ get_or file at 0 → (n : ℕ) → tag file at tags n ≡ ok t (at + 1) (tags + 1) n
  unfolding tag
  tag-ok h l e n = rw (le-leb (at + 1) (length file) (omega arith), lt-ltb tags max_tags l, e)

module _ (file : List ℕ) (at : ℕ) where
  pub pair-bad : {code place : ℕ} → ((tags n : ℕ) → field 2 file at tags n ≡ bad code place) → (tags n : ℕ) → read_pair file at tags n ≡ bad code place
  unfolding read_pair
  pair-bad e tags n = rw (e tags n)

  module _ {q next : ℕ} (e : (tags n : ℕ) → field 2 file at tags n ≡ ok q next tags n) where
    pub pair-bad-name : {code place : ℕ} → ((tags n : ℕ) → nonzero 2 file next tags n ≡ bad code place) → (tags n : ℕ) → read_pair file at tags n ≡ bad code place
    unfolding read_pair
    pair-bad-name f tags n = rw (e tags n, f tags n)

    pub pair_ok : {m end : ℕ} → ((tags n : ℕ) → nonzero 2 file next tags n ≡ ok m end tags n) → (tags n : ℕ) → read_pair file at tags n ≡ ok (pair q m) end tags n
    unfolding read_pair
    pair_ok f tags n = rw (e tags n, f tags n)
