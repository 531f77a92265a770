-- A head from its number and its two segments: how long it is, and how it came about. Assumes nothing.
use mathlib.Core.Path.{◌≡◌, refl, sym, ap, ◌∙◌}
use Rattle.std.proofs.Common.{Bor, Bool, true, false, not, Option, option_copied}
use Rattle.std.specs.Bool.{then_some}
use Rattle.required_indices.specs.Request.{set_of}
use Rattle.required_indices.specs.declared.RequiredIndices.{RequiredIndices}
use mathlib.Core.List.{List, ◌∷◌, ◌++◌, append_assoc}
use Prim.Native.Nat.{ℕ, ◌+◌, ◌-◌, ◌<◌}
use native.Mathlib.Omega.{arith}
use lib.ListN.{length, take, drop, length-append}
use Rattle.cpl.specs.Bytes.{bytes}
use Rattle.cpl.specs.Codes.{join_number}
use Rattle.tree.specs.Node.{join_is}
use Rattle.tree.specs.declared.JoinType.{JoinType}
use Rattle.tree.specs.declared.JoinType.TheVariants.{Inner, Left, Right, Full, LeftSemi, LeftAnti, RightSemi, RightAnti}
use Rattle.writer_parts.specs.Lists.{counted_list, list_tags, which, which_of}
use Rattle.writer_parts.specs.Wrote.{Laid, Wrote}
use Rattle.writer_parts.specs.declared.Part.{Part}
use Rattle.writer_parts.proofs.Over.{length-bytes, part, so, start, then}
use Rattle.shapes.specs.Shapes.{chosen_list, chosen_tags}

module _ (k x : ℕ) (v w : List ℕ) where
  pub three_length : length (bytes k x ++ (v ++ w)) ≡ k + (length v + length w)
  three_length = length-append (bytes k x) (v ++ w) ∙ omega (arith, length-bytes k x, length-append v w)

  pub three_wrote : {xs o₁ o₂ ys zs : List ℕ} {a m n : ℕ} → Laid 0 (bytes k x) k xs a o₁ → Wrote v (take (length o₁ - a) (drop a o₁)) m ys →
      o₂ ≡ take a o₁ ++ (ys ++ drop (length o₁ - a) (drop a o₁)) → Wrote w (take (length o₂ - (a + m)) (drop (a + m) o₂)) n zs →
      Wrote (bytes k x ++ (v ++ w)) xs (a + m + n) (take (a + m) o₂ ++ (zs ++ drop (length o₂ - (a + m)) (drop (a + m) o₂)))
  three_wrote l u e t = so (part (rw (sym e) at (part (then start l) u)) t) (append_assoc (bytes k x) v w) refl

-- a mark that something is there, and what was written after it
pub after_mark : {xs o v ys : List ℕ} {a m : ℕ} → Laid 0 (bytes 1 1) 1 xs a o → Wrote v (take (length o - a) (drop a o)) m ys →
    Wrote (1 ∷ v) xs (a + m) (take a o ++ (ys ++ drop (length o - a) (drop a o)))
unfolding bytes
after_mark l w = so (part (then start l) w) refl refl

-- a list at a set of its own
module _ (k : ℕ) (p : Part) (s c : List ℕ) (f n : ℕ) (own : ℕ) {x : ℕ} (e : own ≡ x) where
  pub own-list : counted_list k p s c f n (which false own) ≡ chosen_list k p s c f n x
  own-list = ap (chosen_list k p s c f n) e

  pub own-tags : list_tags p s c f n (which false own) ≡ chosen_tags p s c f n x
  own-tags = ap (chosen_tags p s c f n) e

-- a list of which all is taken, or those that a set has
module _ {o : Option (Bor RequiredIndices)} (set : Bor RequiredIndices) where
  module _ (k : ℕ) (p : Part) (s c : List ℕ) (f n : ℕ) where
    pub taken-list : (b : Bool) → o ≡ then_some (not b) set → counted_list k p s c f n (which_of (option_copied o)) ≡ counted_list k p s c f n (which b (set_of set.now))
    taken-list true e = rw e
    taken-list false e = rw e

    pub taken-tags : (b : Bool) → o ≡ then_some (not b) set → list_tags p s c f n (which_of (option_copied o)) ≡ list_tags p s c f n (which b (set_of set.now))
    taken-tags true e = rw e
    taken-tags false e = rw e

-- a join's type is a number below eight
pub join-small : (t : JoinType) → join_number (join_is t) < 8
unfolding join_number
join-small Inner = omega arith
join-small Left = omega arith
join-small Right = omega arith
join-small Full = omega arith
join-small LeftSemi = omega arith
join-small LeftAnti = omega arith
join-small RightSemi = omega arith
join-small RightAnti = omega arith
