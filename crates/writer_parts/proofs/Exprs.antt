-- The bytes of an expression by the kinds of node that the code tells apart: what they are, their number and tags, and how they came about.
-- Assumes nothing.
use mathlib.Core.Path.{◌≡◌, refl, sym, ap, ◌∙◌}
use mathlib.Core.List.{List, [], ◌∷◌, ◌++◌}
use Prim.Native.Nat.{ℕ, ◌+◌, ◌*◌, ◌-◌, ◌/◌, ◌%◌, ◌^◌, ◌<◌}
use native.Mathlib.Omega.{arith}
use lib.ListN.{length, take, drop, length-append}
use Rattle.cpl.specs.Bytes.{bytes, expr_bytes, pair_bytes}
use Rattle.cpl.specs.Exprs.{expr_tags}
use Rattle.cpl.specs.Plan.{pair}
use Rattle.arena.specs.Cells.{expr_at}
use Rattle.arena.specs.View.{Shows}
use Rattle.arena.specs.declared.View.TheVariants.{Col, Lit, Miss, One, Two}
use Rattle.arena.proofs.Laws.{bits, op1-tag, op2-tag}
use Rattle.writer_parts.specs.Wrote.{Laid, Wrote}
use Rattle.writer_parts.proofs.Over.{part, so, start, then}

-- one byte, and two numbers of two bytes as one of four
pub byte : (t : ℕ) → t < 256 → bytes 1 t ≡ t ∷ []
unfolding bytes
byte t h = let e : t % 256 ≡ t = omega arith in rw e

pub pair-bytes : (q n : ℕ) → q < 65536 → bytes 4 (q + n * 65536) ≡ pair_bytes (pair q n)
unfolding bytes pair_bytes
pair-bytes q n h =
    let a : (q + n * 65536) % 256 ≡ q % 256 = omega arith in
    let b : (q + n * 65536) / 256 ≡ q / 256 + n * 256 = omega arith in
    let c : (q / 256 + n * 256) % 256 ≡ q / 256 % 256 = omega arith in
    let d : (q / 256 + n * 256) / 256 ≡ n = omega arith in
    rw (a, b, c, d)

pub pair_laid : {xs ys : List ℕ} {at r x : ℕ} (q n : ℕ) → x ≡ q + n * 65536 → q < 65536 → Laid at (bytes 4 x) 4 xs r ys → Laid at (pair_bytes (pair q n)) 4 xs r ys
pair_laid {x = x} q n e h l =
    let f : bytes 4 x ≡ pair_bytes (pair q n) = ap (bytes 4) e ∙ pair-bytes q n h in
    record { long = l.long; size = rw f at l.size; ends = rw f at l.ends }

abbrev pub B : List ℕ → ℕ → List ℕ
B s i = expr_bytes (expr_at s i)

abbrev pub T : List ℕ → ℕ → ℕ
T s i = expr_tags (expr_at s i)

module _ (s : List ℕ) (i : ℕ) where
  pub col-length : (q n : ℕ) → Shows s i (Col q n) → length (B s i) ≡ 5
  unfolding expr_bytes pair_bytes bytes
  col-length q n v = rw v

  pub lit-length : (x : ℕ) → Shows s i (Lit x) → length (B s i) ≡ 9
  unfolding expr_bytes bytes
  lit-length x v = rw v

  pub miss-length : Shows s i Miss → length (B s i) ≡ 1
  unfolding expr_bytes
  miss-length v = rw v

  one-is : (t x : ℕ) → Shows s i (One t x) → B s i ≡ t ∷ B s x
  unfolding expr_bytes
  one-is t x v = ap expr_bytes v.means ∙ ap (λ (y : ℕ). y ∷ B s x) (op1-tag t v.least v.most)

  pub one-length : (t x : ℕ) → Shows s i (One t x) → length (B s i) ≡ 1 + length (B s x)
  one-length t x v = ap length (one-is t x v) ∙ omega arith

  two_is : (t x y : ℕ) → Shows s i (Two t x y) → B s i ≡ t ∷ (B s x ++ B s y)
  unfolding expr_bytes
  two_is t x y v = ap expr_bytes v.means ∙ ap (λ (z : ℕ). z ∷ (B s x ++ B s y)) (op2-tag t v.least v.most)

  pub two-length : (t x y : ℕ) → Shows s i (Two t x y) → length (B s i) ≡ 1 + (length (B s x) + length (B s y))
  two-length t x y v = ap length (two_is t x y v) ∙ omega (arith, length-append (B s x) (B s y))

  pub col-tags : (q n : ℕ) → Shows s i (Col q n) → T s i ≡ 1
  unfolding expr_tags
  col-tags q n v = rw v

  pub lit-tags : (x : ℕ) → Shows s i (Lit x) → T s i ≡ 1
  unfolding expr_tags
  lit-tags x v = rw v

  pub miss-tags : Shows s i Miss → T s i ≡ 1
  unfolding expr_tags
  miss-tags v = rw v

  pub one-tags : (t x : ℕ) → Shows s i (One t x) → T s i ≡ 1 + T s x
  unfolding expr_tags
  one-tags t x v = ap expr_tags v.means ∙ omega arith

  pub two-tags : (t x y : ℕ) → Shows s i (Two t x y) → T s i ≡ 1 + (T s x + T s y)
  unfolding expr_tags
  two-tags t x y v = ap expr_tags v.means ∙ omega arith

  module _ {xs o₁ : List ℕ} {a : ℕ} where
    pub col-wrote : {o₂ : List ℕ} {b : ℕ} (q n : ℕ) → Shows s i (Col q n) → Laid 0 (bytes 1 0) 1 xs a o₁ → Laid a (pair_bytes (pair q n)) 4 o₁ b o₂ → Wrote (B s i) xs b o₂
    unfolding expr_bytes bytes
    col-wrote q n v l₁ l₂ = so (then (then start l₁) l₂) (rw v) refl

    pub lit-wrote : {o₂ : List ℕ} {b : ℕ} (x : ℕ) → x < 2 ^ 64 → Shows s i (Lit x) → Laid 0 (bytes 1 1) 1 xs a o₁ → Laid a (bytes 8 x) 8 o₁ b o₂ → Wrote (B s i) xs b o₂
    unfolding expr_bytes bytes
    lit-wrote x h v l₁ l₂ = so (then (then start l₁) l₂) (rw (v, bits x h)) refl

    pub miss-wrote : Shows s i Miss → Laid 0 (bytes 1 2) 1 xs a o₁ → Wrote (B s i) xs a o₁
    unfolding expr_bytes bytes
    miss-wrote v l₁ = so (then start l₁) (rw v) refl

    pub one-wrote : {ys : List ℕ} {n : ℕ} (t x : ℕ) → Shows s i (One t x) → Laid 0 (bytes 1 t) 1 xs a o₁ →
        Wrote (B s x) (take (length o₁ - a) (drop a o₁)) n ys → Wrote (B s i) xs (a + n) (take a o₁ ++ (ys ++ drop (length o₁ - a) (drop a o₁)))
    one-wrote t x v l w = so (part (then start l) w) (rw (byte t (omega (arith, v.most))) (sym (one-is t x v))) refl

    pub two-wrote : {o₂ ys zs : List ℕ} {m n : ℕ} (t x y : ℕ) → Shows s i (Two t x y) → Laid 0 (bytes 1 t) 1 xs a o₁ →
        Wrote (B s x) (take (length o₁ - a) (drop a o₁)) m ys → o₂ ≡ take a o₁ ++ (ys ++ drop (length o₁ - a) (drop a o₁)) →
        Wrote (B s y) (take (length o₂ - (a + m)) (drop (a + m) o₂)) n zs → Wrote (B s i) xs (a + m + n) (take (a + m) o₂ ++ (zs ++ drop (length o₂ - (a + m)) (drop (a + m) o₂)))
    two-wrote t x y v l w e u =
        so (part (rw (sym e) at (part (then start l) w)) u) (rw (byte t (omega (arith, v.most))) (sym (two_is t x y v))) refl
