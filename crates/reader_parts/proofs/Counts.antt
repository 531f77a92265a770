-- Counts: which are allowed, and how long a list is that was read. Assumes nothing.
use Prim.Native.Nat.{ℕ, zero, suc, ◌≤◌}
use mathlib.Core.Path.{◌≡◌, refl, sym, ◌∙◌}
use mathlib.Core.Bool.{Bool, true, false, not, ◌&&◌}
use mathlib.Core.List.{List}
use native.Mathlib.Omega.{arith}
use lib.Dec.{leb, eqb}
use lib.ListN.{length}
use borrow.Author.Tests.{le-leb, leb-true, eq-eqb, ne_eqb}
use Rattle.cpl.specs.Codes.{MANY}
use Rattle.cpl.specs.Read.{Res, ok, bad, Reader, pick, give, refuse, value, is_not, any, count, times, counted}
use Rattle.cpl.proofs.Codec.{Holds, holds_then, holds-ok}
use Rattle.reader_fields.specs.Answers.{From}
use Rattle.reader_fields.proofs.Laws.{is-not}
use Rattle.reader_parts.proofs.Compose.{times-holds}
use Rattle.reader_parts.proofs.Parts.{any-holds}

pub from-any : From 0 any
unfolding any
from-any x = sym (le-leb 0 x (omega arith))

pub from_some : From 1 (is_not 0)
unfolding is_not
from_some zero = refl
from_some (suc x) = is-not (suc x) (λ e. omega arith) ∙ sym (le-leb 1 (suc x) (omega arith))

-- not both 0, where g were before
pub from-none-before : (g : ℕ) → g ≡ 0 → From 1 (λ a. not (eqb g 0 && eqb a 0))
from-none-before g e zero = rw (eq-eqb g 0 e)
from-none-before g e (suc x) = rw (eq-eqb g 0 e, ne_eqb (suc x) 0 (λ z. omega arith)) (sym (le-leb 1 (suc x) (omega arith)))

pub from-some-before : (g : ℕ) → (g ≡ 0 → ⊥) → From 0 (λ a. not (eqb g 0 && eqb a 0))
from-some-before g h x = rw (ne_eqb g 0 h) (sym (le-leb 0 x (omega arith)))

module _ (k : ℕ) (allowed : ℕ → Bool) (limit : ℕ) (file : List ℕ) where
  count-holds : (at tags n : ℕ) → Holds (λ c a t m. c ≤ limit) (count k allowed limit file at tags n)
  unfolding count
  count-holds at tags n = holds_then (λ x a t m. Unit {0}) (λ (c : ℕ) a t m. c ≤ limit) (value k allowed file at tags n) _ (any-holds (value k allowed file at tags n)) λ x a t m h. go x a t m (leb x limit) refl
    where
      go : (x a t m : ℕ) (b : Bool) → leb x limit ≡ b → Holds (λ (c : ℕ) a t m. c ≤ limit) (pick b (give x) (refuse MANY at) file a t m)
      go x a t m true e = leb-true x limit e
      go x a t m false e = tt

  pub counted-few : {A : Type 0} (p : Reader A) (at tags n : ℕ) {xs : List A} {at' tags' n' : ℕ} → counted k allowed limit p file at tags n ≡ ok xs at' tags' n' → length xs ≤ limit
  unfolding counted
  counted-few {A} p at tags n e =
      holds-ok (λ (xs : List A) a t m. length xs ≤ limit) e
      (holds_then (λ (c : ℕ) a t m. c ≤ limit) (λ (xs : List A) a t m. length xs ≤ limit) (count k allowed limit file at tags n) _ (count-holds at tags n) λ c a t m h.
      few c h (times c p file a t m) (times-holds c p file a t m))
    where
      few : (c : ℕ) → c ≤ limit → (r : Res (List A)) → Holds (λ (xs : List A) a t m. length xs ≡ c) r → Holds (λ (xs : List A) a t m. length xs ≤ limit) r
      few c h (ok xs a t m) g = omega (arith, g)
      few c h (bad code place) g = tt
