-- The laws of `over`, by which every writer's proof goes: a store, a part that was lent and came back. Assumes nothing.
use mathlib.Core.Path.{◌≡◌, refl, sym, ap, ◌∙◌}
use mathlib.Core.List.{List, [], ◌∷◌, ◌++◌, append_assoc, append-nil}
use Prim.Native.Nat.{ℕ, zero, suc, ◌+◌, ◌-◌, ◌/◌, ◌%◌, ◌<◌, ◌≤◌}
use native.Mathlib.Omega.{arith}
use lib.ListN.{length, take, drop, set, length-append, length-drop, drop_of_length-le}
use lib.Seq.{take_at, drop_at, take_all, drop-drop, length-take-le}
use Rattle.cpl.specs.Bytes.{bytes}
use Rattle.writer_parts.specs.Wrote.{over, Wrote, Laid}

pub over_nil : (xs : List ℕ) → over [] xs ≡ xs
unfolding over
over_nil xs = refl

pub length_over : (w xs : List ℕ) → length w ≤ length xs → length (over w xs) ≡ length xs
unfolding over
length_over w xs h = simp (length-append, length-drop) (omega arith)

-- what stands from a on is what stands from a on to the end
pub rest_all : (a : ℕ) (l : List ℕ) → take (length l - a) (drop a l) ≡ drop a l
rest_all a l = take_all (length l - a) (drop a l) (omega (arith, length-drop a l))

pub rest-none : (a : ℕ) (l : List ℕ) → drop (length l - a) (drop a l) ≡ []
rest-none a l = drop_of_length-le (drop a l) {i = length l - a} (omega (arith, length-drop a l))

-- a part from a on is as long as what is left
pub room : (a : ℕ) (l : List ℕ) → length (take (length l - a) (drop a l)) ≡ length l - a
room a l = ap length (rest_all a l) ∙ length-drop a l

pub fits : (out : List ℕ) (a n : ℕ) → a + n ≤ length out → n ≤ length (take (length out - a) (drop a out))
fits out a n h = omega (arith, room a out)

-- after w the bytes v
pub over-over : (w v xs : List ℕ) → w ++ over v (drop (length w) xs) ≡ over (w ++ v) xs
unfolding over
over-over w v xs = rw (drop-drop, length-append, append_assoc)

pub rest : (w xs : List ℕ) → drop (length w) (over w xs) ≡ drop (length w) xs
unfolding over
rest w xs = drop_at w (drop (length w) xs) (length w) refl

-- nothing was written yet
pub start : {xs : List ℕ} → Wrote [] xs 0 xs
start {xs} = record { long = refl; ends = sym (over_nil xs) }

-- a part from a on was lent, v was written over its start, and it came back
pub part : {w v xs ys out : List ℕ} {a n : ℕ} → Wrote w xs a out → Wrote v (take (length out - a) (drop a out)) n ys →
    Wrote (w ++ v) xs (a + n) (take a out ++ (ys ++ drop (length out - a) (drop a out)))
unfolding over
part {w} {v} {xs} {ys} {out} {a} {n} o y = record {
  long = omega (arith, o.long, y.long, length-append w v);
  ends = rw (y.ends, rest_all a out, rest-none a out, append-nil, o.ends, o.long, take_at w (drop (length w) xs) (length w) refl, rest w xs) (over-over w v xs);
}

-- the first byte
set_first : (xs : List ℕ) (b : ℕ) → 0 < length xs → set xs 0 b ≡ over (b ∷ []) xs
unfolding over
set_first [] b h = absurd (omega arith)
set_first (x ∷ xs) b h = refl

pub first : {xs : List ℕ} (b : ℕ) → 0 < length xs → Wrote (b ∷ []) xs 1 (set xs 0 b)
first {xs} b h = record { long = refl; ends = set_first xs b h }

-- the same bytes, the same length
pub so : {w v xs out : List ℕ} {a n : ℕ} → Wrote w xs a out → w ≡ v → a ≡ n → Wrote v xs n out
so o e f = record { long = sym f ∙ o.long ∙ ap length e; ends = rw e at o.ends }

-- a buffer keeps its length
pub kept : {w xs out : List ℕ} {a : ℕ} → Wrote w xs a out → a ≤ length xs → length out ≡ length xs
kept {w} {xs} {out} {a} o h = ap length o.ends ∙ length_over w xs (omega (arith, o.long))

pub next-byte : (k x : ℕ) → 0 < k → x % 256 ∷ bytes (k - 1) (x / 256) ≡ bytes k x
unfolding bytes
next-byte zero x h = absurd (omega arith)
next-byte (suc k) x h = let e : suc k - 1 ≡ k = omega arith in rw e

pub length-bytes : (k x : ℕ) → length (bytes k x) ≡ k
unfolding bytes
length-bytes zero x = refl
length-bytes (suc k) x = ap suc (length-bytes k _)

-- one byte of a number, and then the others
pub put_more : {xs ys : List ℕ} {k : ℕ} (x : ℕ) → 0 < k → k ≤ length xs →
    Wrote (bytes (k - 1) (x / 256)) (take (length (set xs 0 (x % 256)) - 1) (drop 1 (set xs 0 (x % 256)))) (k - 1) ys →
    Wrote (bytes k x) xs k (take 1 (set xs 0 (x % 256)) ++ (ys ++ drop (length (set xs 0 (x % 256)) - 1) (drop 1 (set xs 0 (x % 256)))))
put_more {xs} {ys} {k} x h l y = so (part (first (x % 256) (omega arith)) y) (next-byte k x h) (omega arith)

pub put_none : {xs : List ℕ} (k x : ℕ) → k ≤ 0 → Wrote (bytes k x) xs k xs
unfolding bytes
put_none zero x h = start
put_none (suc k) x h = absurd (omega arith)

-- one byte, and two
pub put_one : (xs : List ℕ) (x : ℕ) → 1 ≤ length xs → Wrote (bytes 1 x) xs 1 (set xs 0 (x % 256))
unfolding bytes
put_one xs x h = first (x % 256) h

pub put_both : (xs : List ℕ) (x : ℕ) → 2 ≤ length xs → Wrote (bytes 2 x) xs 2 (set (set xs 0 (x % 256)) 1 (x / 256 % 256))
unfolding bytes over
put_both [] x h = absurd (omega arith)
put_both (a ∷ []) x h = absurd (omega arith)
put_both (a ∷ b ∷ xs) x h = record { long = refl; ends = refl }

-- the bytes of a number are those of its two halves
pub halves_of_four : (x : ℕ) → bytes 2 x ++ bytes 2 (x / 65536) ≡ bytes 4 x
unfolding bytes
halves_of_four x =
    let e : x / 65536 ≡ x / 256 / 256 = omega arith in
    rw e

pub halves_of_eight : (x : ℕ) → bytes 4 x ++ bytes 4 (x / 4294967296) ≡ bytes 8 x
unfolding bytes
halves_of_eight x =
    let e : x / 4294967296 ≡ x / 256 / 256 / 256 / 256 = omega arith in
    rw e

-- the part from `at` on came back with v over its start
pub laid : {v out ys : List ℕ} {n : ℕ} (at : ℕ) → Wrote v (take (length out - at) (drop at out)) n ys →
    Laid at v n out (at + n) (take at out ++ (ys ++ drop (length out - at) (drop at out)))
laid {v} {out} {ys} {n} at y = record {
  long = refl;
  size = sym y.long;
  ends = rw (y.ends, rest_all at out, rest-none at out, append-nil);
}

-- v after w
pub then : {w v xs out ys : List ℕ} {a n r : ℕ} → Wrote w xs a out → Laid a v n out r ys → Wrote (w ++ v) xs r ys
unfolding over
then {w} {v} {xs} {out} {ys} {a} {n} {r} o y = record {
  long = omega (arith, o.long, y.long, y.size, length-append w v);
  ends = y.ends ∙ rw (o.ends, o.long, take_at w (drop (length w) xs) (length w) refl, rest w xs) (over-over w v xs);
}

-- a part that came back is as long as it was lent, and so is the whole
pub length_back : (a : ℕ) (out ys : List ℕ) → a ≤ length out → length ys ≡ length (take (length out - a) (drop a out)) →
    length (take a out ++ (ys ++ drop (length out - a) (drop a out))) ≡ length out
length_back a out ys h e = rw (rest-none a out, append-nil, length-append, length-take-le a out h) (omega (arith, e, room a out))
