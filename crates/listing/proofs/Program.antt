-- The settings and the plan bytes that the program's input has. Assumes nothing.
use mathlib.Core.Path.{◌≡◌, refl, sym, ap, ap₂, ◌∙◌}
use mathlib.Core.Bool.{Bool, true, false}
use mathlib.Core.List.{List}
use Prim.Native.Nat.{ℕ, ◌+◌, ◌*◌, ◌-◌, ◌<◌, ◌≤◌, min}
use native.Mathlib.Omega.{arith}
use borrow.Author.Tests.{leb-false, leb-true}
use lib.Dec.{leb}
use lib.ListN.{length, get_or, take, drop, drop_of_length-le, length-drop, get_or-eq_default}
use lib.Seq.{take_all}
use Rattle.writer_parts.specs.Wrote.{Wrote}
use Rattle.writer_parts.proofs.Over.{rest_all, so}
use Rattle.listing.specs.Text.{file_in, mask_in, mode_in, most_read, printed_text, program_text}

-- ── parts of a list that may end before ─────────────────────────────────────────────────────

-- the first n, or all
pub front : (n m : ℕ) (xs : List ℕ) → m ≡ min (length xs) n → take m xs ≡ take n xs
front n m xs e = go (leb (length xs) n) refl
  where
    go : (t : Bool) → leb (length xs) n ≡ t → take m xs ≡ take n xs
    go true h = let l : length xs ≤ n = leb-true (length xs) n h in take_all m xs (omega arith) ∙ sym (take_all n xs l)
    go false h = let l : n < length xs = leb-false (length xs) n h in let f : m ≡ n = omega arith in ap (λ i. take i xs) f

-- those behind the first n, or none
pub behind : (n m : ℕ) (xs : List ℕ) → m ≡ min (length xs) n → take (length xs - m) (drop m xs) ≡ drop n xs
behind n m xs e = rest_all m xs ∙ go (leb (length xs) n) refl
  where
    go : (t : Bool) → leb (length xs) n ≡ t → drop m xs ≡ drop n xs
    go true h =
        let l : length xs ≤ n = leb-true (length xs) n h in
        let f : length xs ≤ m = omega arith in
        drop_of_length-le xs {i = m} f ∙ sym (drop_of_length-le xs {i = n} l)
    go false h = let l : n < length xs = leb-false (length xs) n h in let f : m ≡ n = omega arith in ap (λ i. drop i xs) f

-- ── what is printed ─────────────────────────────────────────────────────────────────────────

pub program_printed : (input : List ℕ) {mode mask n : ℕ} {file xs ys : List ℕ} → mode ≡ get_or input 0 0 → mask ≡ mask_in input → file ≡ file_in input
    → Wrote (printed_text mode mask file) xs n ys → Wrote (program_text input) xs n ys
unfolding program_text mode_in
program_printed input {file = file} e f g w = so w (ap₂ (λ (i : ℕ) (j : ℕ). printed_text i j file) e f ∙ ap (printed_text (get_or input 0 0) (mask_in input)) g) refl
