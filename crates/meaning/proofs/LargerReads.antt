-- A larger request never reads less, in the words of demand 3: logs that agree in the columns that the larger request reads agree in those that the
-- smaller one reads.
use mathlib.Core.Path.{◌≡◌, refl, ◌∙◌, ap₂, subst, subst⁻¹}
use mathlib.Core.List.{List, [], ◌∷◌, ◌++◌}
use mathlib.Core.Bool.{Bool, true, false, ◌||◌}
use Prim.Native.Nat.{ℕ}
use lib.Dec.{T, eqb}
use Rattle.cpl.specs.Tests.{any_b}
use Rattle.cpl.specs.Plan.{Leaf, scan, empty, Plan, leaf, unary, binary, Catalogue, names_of}
use Rattle.cpl.specs.Fields.{columns_of}
use Rattle.cpl.proofs.Bools.{halves, both-T, or_false}
use Rattle.rules.specs.Mask.{Mask, LeM}
use Rattle.rules.specs.Merge.{Merge}
use Rattle.rules.specs.Rewrite.{rewrite}
use Rattle.rules.specs.Scans.{leaf_scans, scans, Narrower, narrower}
use Rattle.rules.proofs.Parts.{any_into, Into_++, Part-refl, Part-any}
use Rattle.rules.proofs.Larger.{larger_plans}
use Rattle.meaning.specs.Value.{Log}
use Rattle.meaning.specs.Reads.{filter_columns, leaf_reads, reads, Agree}

any_++ : {A : Type 0} (p : A → Bool) (xs ys : List A) → any_b p (xs ++ ys) ≡ (any_b p xs || any_b p ys)
unfolding any_b
any_++ p [] ys = refl
any_++ p (x ∷ xs) ys = go (p x) (any_++ p xs ys)
  where
    go : (b : Bool) → any_b p (xs ++ ys) ≡ (any_b p xs || any_b p ys) → (b || any_b p (xs ++ ys)) ≡ ((b || any_b p xs) || any_b p ys)
    go true e = refl
    go false e = e

module _ (C : Catalogue) (t i : ℕ) where
  -- what a plan reads, its scans read
  scans_read : (p : Plan) → any_b (λ h. leaf_reads C h t i) (scans p) ≡ reads C p t i
  unfolding any_b scans leaf_scans reads leaf_reads
  scans_read (leaf (scan u q is es)) = or_false (leaf_reads C (scan u q is es) t i)
  scans_read (leaf (empty b cs)) = refl
  scans_read (unary h p) = scans_read p
  scans_read (binary h p₁ p₂) = any_++ (λ h. leaf_reads C h t i) (scans p₁) (scans p₂) ∙ ap₂ ◌||◌ (scans_read p₁) (scans_read p₂)

  narrower-reads : {h k : Leaf} → Narrower C h k → T (leaf_reads C h t i) → T (leaf_reads C k t i)
  unfolding leaf_reads
  narrower-reads (narrower {t = u} {q = q} {is = is} {js = js} {es = es} s) r =
      let b = halves (eqb t u) (any_b (eqb i) (columns_of (names_of C u) is ++ filter_columns C u q es)) r in
      both-T (eqb t u) (any_b (eqb i) (columns_of (names_of C u) js ++ filter_columns C u q es)) b.0 (Part-any (eqb i) (Into_++ s (Part-refl _)) b.1)

  pub larger_reads : (M : Merge) (p : Plan) {R R' : Mask} → LeM R R' → T (reads C (rewrite M C p R).plan t i) → T (reads C (rewrite M C p R').plan t i)
  larger_reads M p {R} {R'} l r =
      subst T (scans_read (rewrite M C p R').plan)
      (any_into (λ h. leaf_reads C h t i) (λ h. leaf_reads C h t i) (λ h k n. narrower-reads n) (larger_plans M C p l) (subst⁻¹ T (scans_read (rewrite M C p R).plan) r))

pub larger_agree : (M : Merge) (C : Catalogue) (p : Plan) {R R' : Mask} → LeM R R' → (D E : Log) → Agree C (rewrite M C p R').plan D E → Agree C (rewrite M C p R).plan D E
larger_agree M C p l D E a = record { counts = a.counts; columns = λ t i r. a.columns t i (larger_reads C t i M p l r) }
