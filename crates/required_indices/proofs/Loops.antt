-- What holds at each turn of a loop over the words: one that writes, one that counts, one that compares.
use mathlib.Core.Path.{◌≡◌, refl, sym, ◌∙◌, ap, ap₂}
use mathlib.Core.Bool.{true, false}
use mathlib.Core.List.{List, [], ◌∷◌, ◌++◌}
use Prim.Native.Nat.{ℕ, ◌+◌, ◌*◌, ◌≤◌, ◌<◌}
use native.Mathlib.Numerals.{add-one}
use native.Mathlib.Omega.{arith}
use lib.Count.{ones, ones-le}
use lib.Dec.{eqb}
use lib.ListN.{length, get_or, take, drop, set, length-set}
use lib.Seq.{take-suc, take-suc-set, take-length, drop-cons}
use borrow.Author.Tests.{eq-eqb, ne_eqb}
use Rattle.cpl.specs.Lists.{All, a[], ◌a∷◌, Fit, z[], ◌z∷◌}
use Rattle.required_indices.specs.Words.{number, Word}
use Rattle.required_indices.proofs.Words.{ones_w}

-- lists of one length fit
pub fit : {A B : Type 0} (xs : List A) (ys : List B) → length xs ≡ length ys → Fit xs ys
fit [] [] e = z[]
fit [] (y ∷ ys) e = absurd (omega arith)
fit (x ∷ xs) [] e = absurd (omega arith)
fit (x ∷ xs) (y ∷ ys) e = tt z∷ fit xs ys (omega arith)

-- ---- a loop that writes the words of a list t into the first ones of an array, k of them done

pub record Filled (t cur : List ℕ) (k : ℕ) : Type 0 where
  pub front : take k cur ≡ take k t
  pub long : length t ≤ length cur
  pub most : k ≤ length t

pub fill_start : (t cur : List ℕ) → length t ≤ length cur → Filled t cur 0
fill_start t cur e = record { front = refl; long = e; most = omega arith }

module _ (t cur : List ℕ) (k : ℕ) (j : Filled t cur k) where
  pub fill_turn : (v : ℕ) → k < length t → v ≡ get_or t k 0 → Filled t (set cur k v) (k + 1)
  fill_turn v l e =
      record {
        front =
            ap (λ (x : ℕ). take x (set cur k v)) (add-one k) ∙ take-suc-set cur k v (omega (arith, j.long))
            ∙ ap₂ (λ (m : List ℕ) (x : ℕ). m ++ (x ∷ [])) j.front e
            ∙ sym (ap (λ (x : ℕ). take x t) (add-one k) ∙ take-suc t k 0 l);
        long = omega (arith, length-set cur k v, j.long);
        most = omega arith;
      }

  pub fill_end : length t ≤ k → take (length t) cur ≡ t
  fill_end l =
      let b : k ≡ length t = omega (arith, j.most) in
      ap (λ (x : ℕ). take x cur) (sym b) ∙ j.front ∙ ap (λ (x : ℕ). take x t) b ∙ take-length t

-- ---- a loop that counts

pub ones_turn : (ws : List ℕ) (k : ℕ) → k < length ws → ones_w (drop k ws) ≡ ones (get_or ws k 0) + ones_w (drop (k + 1) ws)
unfolding ones_w
ones_turn ws k l = ap ones_w (drop-cons ws k 0 l) ∙ ap (λ (x : ℕ). ones (get_or ws k 0) + ones_w (drop x ws)) (sym (add-one k))

pub ones-most : {ws : List ℕ} → All Word ws → ones_w ws ≤ 64 * length ws
unfolding ones_w
ones-most a[] = omega arith
ones-most (◌a∷◌ {x = w} {xs = ws} h hs) = let ih = ones-most hs in omega (arith, ones-le 64 w h, ih)

-- ---- words that are compared

pub number_inj : {ws vs : List ℕ} → Fit ws vs → All Word ws → All Word vs → number ws ≡ number vs → ws ≡ vs
unfolding number
number_inj z[] a[] a[] e = refl
number_inj (_ z∷ f) (◌a∷◌ {x = w} {xs = ws} h hs) (◌a∷◌ {x = v} {xs = vs} k ks) e =
    let a : w ≡ v = omega arith in
    let b : number ws ≡ number vs = omega arith in
    ap₂ ◌∷◌ a (number_inj f hs ks b)

pub same_end : (ws vs : List ℕ) → ws ≡ vs → true ≡ eqb (number ws) (number vs)
same_end ws vs e = sym (eq-eqb (number ws) (number vs) (ap number e))

pub same_not : (ws vs : List ℕ) (k : ℕ) → length ws ≡ length vs → All Word ws → All Word vs → (get_or ws k 0 ≡ get_or vs k 0 → ⊥) → false ≡ eqb (number ws) (number vs)
same_not ws vs k same hs ks d = sym (ne_eqb (number ws) (number vs) (λ g. d (ap (λ (xs : List ℕ). get_or xs k 0) (number_inj (fit ws vs same) hs ks g))))
