-- `input_bytes::read_full`: a read puts what it gives behind what was read before.
use Rattle.std.proofs.Common.{◌≡◌, ℕ, ◌+◌, ◌≤◌, List, ◌++◌, rules, length, take, sym, ap, ap₂, ◌∙◌, ◌-◌, subst, le_refl, drop_at, length-take-le}
use Rattle.std.proofs.lemmas.Slice.{take-put_mid_below}
use Rattle.std.specs.Io.KnownBytes.{Consumes}
use Rattle.std.proofs.KnownBytes.{Consumes-trans}
use borrow.Rule.Slice.PartMut.{put_mid, post_of}
use lib.Seq.{take-add, take-append-le}
use Rattle.input_bytes.proofs.read_full.Goals as goal

take-put_mid-more : (a k n : ℕ) (xs ys : List ℕ) → a ≤ length xs → n ≤ length ys → take (a + n) (put_mid a k xs ys) ≡ take a xs ++ take n ys
take-put_mid-more a k n xs ys within fits =
    take-add a n (put_mid a k xs ys)
    ∙ ap₂ (λ s t. s ++ take n t) (take-put_mid_below a k xs ys a (le_refl a) within) (drop_at (take a xs) (ys ++ post_of a k xs) a (length-take-le a xs within))
    ∙ ap (λ t. take a xs ++ t) (take-append-le n ys (post_of a k xs) fits)

pub loop-n-preserved : goal.loop-n-preserved
loop-n-preserved g c =
    let n = c.loop-n.n in
    let xs = c.loop-n.buf in
    record {
      same_length = search rules;
      within = search rules;
      given =
          subst (Consumes _ _) (sym (take-put_mid-more n (length xs - n) c.in_ok-more.more xs c.read.new.buf c.loop-n.invariant.within c.in_ok-more.ensures.bound.0))
          (Consumes-trans _ _ _ _ _ c.loop-n.invariant.given c.in_ok-more.ensures.bytes.0);
    }
