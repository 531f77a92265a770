-- The numbers in a file and what they stand for: there and back. Assumes nothing.
use Prim.Native.Nat.{ℕ, zero, suc, ◌+◌, ◌*◌, ◌-◌, ◌/◌, ◌%◌, ◌^◌, ◌≤◌, ◌<◌}
use mathlib.Core.Path.{◌≡◌, refl, ap}
use mathlib.Core.Bool.{Bool, true, false, cond, ◌&&◌}
use native.Mathlib.Omega.{arith}
use lib.Dec.{ltb, eqb}
use lib.IntN.{ℤ, pos, negsuc}
use lib.Signed.{mag}
use borrow.Author.Tests.{eqb-true, eqb-false, lt-ltb, le-ltb, ltb-true, ltb-false}
use Rattle.cpl.proofs.Bools.{and_left, and_right}
use Rattle.cpl.specs.Plan.{Op1, o_not, o_missing, Op2, o_add, o_sub, o_mul, o_eq, o_lt, o_and, o_or, Fn, f_count, f_sum, f_min, f_max, JoinType, j_inner, j_left, j_right, j_full, j_lsemi, j_lanti, j_rsemi, j_ranti}
use Rattle.cpl.specs.Codes.{op1_tag, op1_of, op2_tag, op2_of, signed, unsigned, fn_number, fn_of, join_number, join_of, bit}

-- ── from the number and back ────────────────────────────────────────────────────────────────

-- does f give back each number from `from` on, n of them?
gives_back : (f : ℕ → ℕ) (from n : ℕ) → Bool
gives_back f from zero = true
gives_back f from (suc n) = eqb (f from) from && gives_back f (suc from) n

-- tried at each number of a range, it holds of each
tried : (f : ℕ → ℕ) (from n : ℕ) → gives_back f from n ≡ true → (x : ℕ) → from ≤ x → x < from + n → f x ≡ x
unfolding gives_back
tried f from zero e x l h = absurd (omega arith)
tried f from (suc n) e x l h = go (eqb x from) refl (λ k. tried f (suc from) n (and_right (eqb (f from) from) _ e) x k (omega arith))
  where
    go : (b : Bool) → eqb x from ≡ b → (suc from ≤ x → f x ≡ x) → f x ≡ x
    go true q later = rw (eqb-true x from q) (eqb-true (f from) from (and_left (eqb (f from) from) _ e))
    go false q later = let d = eqb-false x from q in later (omega arith)

pub op1-number : (t : ℕ) → 3 ≤ t → t < 5 → op1_tag (op1_of t) ≡ t
unfolding gives_back op1_tag op1_of
op1-number = tried (λ t. op1_tag (op1_of t)) 3 2 refl

pub op2-number : (t : ℕ) → 5 ≤ t → t < 12 → op2_tag (op2_of t) ≡ t
unfolding gives_back op2_tag op2_of
op2-number = tried (λ t. op2_tag (op2_of t)) 5 7 refl

pub fn_number_lem : (x : ℕ) → 1 ≤ x → x < 5 → fn_number (fn_of x) ≡ x
unfolding gives_back fn_number fn_of
fn_number_lem = tried (λ x. fn_number (fn_of x)) 1 4 refl

pub join-number : (x : ℕ) → x < 8 → join_number (join_of x) ≡ x
unfolding gives_back join_number join_of
join-number x h = tried (λ x. join_number (join_of x)) 0 8 refl x (omega arith) h

pub bit-number : (x : ℕ) → x < 2 → bit (eqb x 1) ≡ x
unfolding gives_back bit
bit-number x h = tried (λ x. bit (eqb x 1)) 0 2 refl x (omega arith) h

pub flags-number : (x : ℕ) → x < 4 → bit (eqb (x % 2) 1) + 2 * bit (eqb (x / 2) 1) ≡ x
unfolding gives_back bit
flags-number x h = tried (λ x. bit (eqb (x % 2) 1) + 2 * bit (eqb (x / 2) 1)) 0 4 refl x (omega arith) h

pub literal-number : (v : ℕ) → v < 2 ^ 64 → (mag (signed v) < 2 ^ 63) × (unsigned (signed v) ≡ v)
unfolding signed unsigned
literal-number v h = go (ltb v (2 ^ 63)) refl
  where
    z : Bool → ℤ
    z b = cond b (pos v) (negsuc (2 ^ 64 - 1 - v))

    go : (b : Bool) → ltb v (2 ^ 63) ≡ b → (mag (z b) < 2 ^ 63) × (unsigned (z b) ≡ v)
    go true e = (ltb-true v (2 ^ 63) e, refl)
    go false e = let l = ltb-false v (2 ^ 63) e in omega arith

-- ── to the number and back ──────────────────────────────────────────────────────────────────

pub number-op1 : (o : Op1) → (3 ≤ op1_tag o) × (op1_tag o < 5) × (op1_of (op1_tag o) ≡ o)
unfolding op1_tag op1_of
number-op1 o_not = (omega arith, omega arith, refl)
number-op1 o_missing = (omega arith, omega arith, refl)

pub number-op2 : (o : Op2) → (5 ≤ op2_tag o) × (op2_tag o < 12) × (op2_of (op2_tag o) ≡ o)
unfolding op2_tag op2_of
number-op2 o_add = (omega arith, omega arith, refl)
number-op2 o_sub = (omega arith, omega arith, refl)
number-op2 o_mul = (omega arith, omega arith, refl)
number-op2 o_eq = (omega arith, omega arith, refl)
number-op2 o_lt = (omega arith, omega arith, refl)
number-op2 o_and = (omega arith, omega arith, refl)
number-op2 o_or = (omega arith, omega arith, refl)

pub number_fn : (f : Fn) → (1 ≤ fn_number f) × (fn_number f < 5) × (fn_of (fn_number f) ≡ f)
unfolding fn_number fn_of
number_fn f_count = (omega arith, omega arith, refl)
number_fn f_sum = (omega arith, omega arith, refl)
number_fn f_min = (omega arith, omega arith, refl)
number_fn f_max = (omega arith, omega arith, refl)

pub number-join : (j : JoinType) → (join_number j < 8) × (join_of (join_number j) ≡ j)
unfolding join_number join_of
number-join j_inner = (omega arith, refl)
number-join j_left = (omega arith, refl)
number-join j_right = (omega arith, refl)
number-join j_full = (omega arith, refl)
number-join j_lsemi = (omega arith, refl)
number-join j_lanti = (omega arith, refl)
number-join j_rsemi = (omega arith, refl)
number-join j_ranti = (omega arith, refl)

pub number_bit : (b : Bool) → (bit b < 2) × (eqb (bit b) 1 ≡ b)
unfolding bit
number_bit true = (omega arith, refl)
number_bit false = (omega arith, refl)

pub number-flags : (d m : Bool) → (bit d + 2 * bit m < 4) × (eqb ((bit d + 2 * bit m) % 2) 1 ≡ d) × (eqb ((bit d + 2 * bit m) / 2) 1 ≡ m)
unfolding bit
number-flags true true = (omega arith, refl, refl)
number-flags true false = (omega arith, refl, refl)
number-flags false true = (omega arith, refl, refl)
number-flags false false = (omega arith, refl, refl)

pub number-literal : (z : ℤ) → mag z < 2 ^ 63 → (unsigned z < 2 ^ 64) × (signed (unsigned z) ≡ z)
unfolding signed unsigned
number-literal (pos n) h = (omega arith, rw (lt-ltb n (2 ^ 63) h))
number-literal (negsuc n) h = (omega arith, rw (le-ltb (2 ^ 64 - 1 - n) (2 ^ 63) (omega arith)) (ap negsuc (omega arith)))
