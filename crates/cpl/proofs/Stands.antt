-- Bytes that stand in a file at an offset. Assumes nothing.
use Prim.Native.Nat.{ℕ, zero, suc, ◌+◌, ◌≤◌, ◌<◌}
use mathlib.Core.Path.{◌≡◌, refl, sym, ap, ◌∙◌}
use mathlib.Core.List.{List, [], ◌∷◌, ◌++◌}
use native.Mathlib.Omega.{arith}
use lib.ListN.{length, get_or}
use lib.Seq.{ext_get_or}
use Rattle.cpl.specs.Lists.{All, a[], ◌a∷◌}
use Rattle.cpl.specs.AreBytes.{AreBytes}

abbrev pub Stands : List ℕ → ℕ → List ℕ → Type 0
Stands file at [] = at ≤ length file
Stands file at (x ∷ xs) = (at < length file) × (get_or file at 0 ≡ x) × Stands file (at + 1) xs

pub stands_fits : (file : List ℕ) (bs : List ℕ) (at : ℕ) → Stands file at bs → at + length bs ≤ length file
stands_fits file [] at s = omega arith
stands_fits file (x ∷ xs) at s = omega (arith, stands_fits file xs (at + 1) s.2)

stands_at : (file bs : List ℕ) {at at' : ℕ} → at ≡ at' → Stands file at bs → Stands file at' bs
stands_at file bs e s = rw e at s

-- what stands in a row stands apart, and the other way
pub stands_first : (file xs ys : List ℕ) (at : ℕ) → Stands file at (xs ++ ys) → Stands file at xs
stands_first file [] ys at s = omega (arith, stands_fits file ys at s)
stands_first file (x ∷ xs) ys at s = (s.0, s.1, stands_first file xs ys (at + 1) s.2)

pub stands_rest : (file xs ys : List ℕ) (at : ℕ) → Stands file at (xs ++ ys) → Stands file (at + length xs) ys
stands_rest file [] ys at s = stands_at file ys (omega arith) s
stands_rest file (x ∷ xs) ys at s = stands_at file ys (omega arith) (stands_rest file xs ys (at + 1) s.2)

pub stands_both : (file xs ys : List ℕ) (at : ℕ) → Stands file at xs → Stands file (at + length xs) ys → Stands file at (xs ++ ys)
stands_both file [] ys at s r = stands_at file ys (omega arith) r
stands_both file (x ∷ xs) ys at s r = (s.0, s.1, stands_both file xs ys (at + 1) s.2 (stands_at file ys (omega arith) r))

-- one byte further on in a file that has one byte more
pub stands_cons : (file bs : List ℕ) (at x : ℕ) → Stands file at bs → Stands (x ∷ file) (suc at) bs
stands_cons file [] at x s = omega arith
stands_cons file (y ∷ ys) at x s = (omega arith, s.1, stands_at (x ∷ file) ys (omega arith) (stands_cons file ys (at + 1) x s.2))

-- a file stands in itself
pub stands_self : (file : List ℕ) → Stands file 0 file
stands_self [] = omega arith
stands_self (x ∷ xs) = (omega arith, refl, stands_cons xs xs 0 x (stands_self xs))

stands_get : (file bs : List ℕ) (at : ℕ) → Stands file at bs → (i : ℕ) → i < length bs → get_or bs i 0 ≡ get_or file (at + i) 0
stands_get file [] at s i h = absurd (omega arith)
stands_get file (x ∷ xs) at s zero h = sym s.1 ∙ ap (λ (k : ℕ). get_or file k 0) (omega arith)
stands_get file (x ∷ xs) at s (suc i) h = stands_get file xs (at + 1) s.2 i (omega arith) ∙ ap (λ (k : ℕ). get_or file k 0) (omega arith)

-- bytes as long as the file that they stand in are the file
pub stands_all : (file bs : List ℕ) → Stands file 0 bs → length bs ≡ length file → bs ≡ file
stands_all file bs s e = ext_get_or 0 bs file e (λ i h. stands_get file bs 0 s i h ∙ ap (λ (k : ℕ). get_or file k 0) (omega arith))

-- ── each element ────────────────────────────────────────────────────────────────────────────

-- what holds of each element and of the default holds at each place
pub all_at : {A : Type 0} {P : A → Type 0} {xs : List A} (d : A) → All P xs → P d → (i : ℕ) → P (get_or xs i d)
all_at d a[] h i = h
all_at d (g a∷ gs) h zero = g
all_at d (g a∷ gs) h (suc i) = all_at d gs h i

pub byte_at : (file : List ℕ) → AreBytes file → (at : ℕ) → get_or file at 0 < 256
byte_at file b at = all_at 0 b (omega arith) at
