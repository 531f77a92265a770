-- A plan, and its nodes in prefix order: bytes, tags, number and what fits. Assumes nothing.
use mathlib.Core.Path.{◌≡◌, refl, sym, ap, ap₂, ◌∙◌}
use mathlib.Core.List.{List, [], ◌∷◌, ◌++◌, append_assoc, append-nil}
use Prim.Native.Nat.{ℕ, ◌+◌}
use native.Mathlib.Omega.{arith}
use lib.ListN.{length, length-append}
use Rattle.cpl.specs.Lists.{All, a[], ◌a∷◌}
use Rattle.cpl.specs.Tests.{concat_map, sum_of}
use Rattle.cpl.specs.Limits.{Version}
use Rattle.cpl.specs.Plan.{Plan, leaf, unary, binary, Catalogue}
use Rattle.cpl.specs.Exprs.{plan_tags, plan_nodes}
use Rattle.cpl.specs.Bytes.{plan_bytes}
use Rattle.cpl.specs.ReadPlan.{h0, h1, h2}
use Rattle.cpl.specs.Writable.{FitPlan}
use Rattle.cpl.proofs.HeadTrip.{FitHead, head_tags}
use Rattle.cpl.proofs.Lists.{All_++, All_left, All_right}
use Rattle.plan_text.specs.Listing.{heads_of}
use Rattle.plan_text.specs.Answers.{node_bytes}
use Rattle.plan_text.proofs.ListTrip.{all_both}

concat_++ : {A B : Type 0} (f : A → List B) (xs ys : List A) → concat_map f (xs ++ ys) ≡ concat_map f xs ++ concat_map f ys
unfolding concat_map
concat_++ f [] ys = refl
concat_++ f (x ∷ xs) ys = ap (λ zs. f x ++ zs) (concat_++ f xs ys) ∙ sym (append_assoc (f x) (concat_map f xs) (concat_map f ys))

sum_++ : {A : Type 0} (f : A → ℕ) (xs ys : List A) → sum_of f (xs ++ ys) ≡ sum_of f xs + sum_of f ys
unfolding sum_of
sum_++ f [] ys = omega arith
sum_++ f (x ∷ xs) ys = omega (arith, sum_++ f xs ys)

-- "one plan in prefix order": the bytes of the nodes one after the other
pub heads-bytes : (v : Version) (p : Plan) → concat_map (node_bytes v) (heads_of p) ≡ plan_bytes v p
unfolding concat_map node_bytes heads_of plan_bytes
heads-bytes v (leaf h) = append-nil (node_bytes v (h0 h))
heads-bytes v (unary h p) = ap (λ (bs : List ℕ). node_bytes v (h1 h) ++ bs) (heads-bytes v p)
heads-bytes v (binary h p₁ p₂) =
    ap (λ (bs : List ℕ). node_bytes v (h2 h) ++ bs) (concat_++ (node_bytes v) (heads_of p₁) (heads_of p₂) ∙ ap₂ ◌++◌ (heads-bytes v p₁) (heads-bytes v p₂))

pub heads-tags : (p : Plan) → sum_of head_tags (heads_of p) ≡ plan_tags p
unfolding sum_of heads_of plan_tags
heads-tags (leaf h) = omega arith
heads-tags (unary h p) = omega (arith, heads-tags p)
heads-tags (binary h p₁ p₂) = omega (arith, sum_++ head_tags (heads_of p₁) (heads_of p₂), heads-tags p₁, heads-tags p₂)

pub heads-nodes : (p : Plan) → length (heads_of p) ≡ plan_nodes p
unfolding heads_of plan_nodes
heads-nodes (leaf h) = refl
heads-nodes (unary h p) = omega (arith, heads-nodes p)
heads-nodes (binary h p₁ p₂) = omega (arith, length-append (heads_of p₁) (heads_of p₂), heads-nodes p₁, heads-nodes p₂)

pub heads-fit : (C : Catalogue) (p : Plan) → FitPlan C p → All (FitHead C) (heads_of p)
unfolding heads_of FitPlan
heads-fit C (leaf h) f = f a∷ a[]
heads-fit C (unary h p) f = f.0 a∷ heads-fit C p f.1
heads-fit C (binary h p₁ p₂) f = f.0 a∷ All_++ (heads-fit C p₁ f.1) (heads-fit C p₂ f.2)

pub fit-heads : (C : Catalogue) (p : Plan) → All (FitHead C) (heads_of p) → FitPlan C p
unfolding heads_of FitPlan
fit-heads C (leaf h) a = (all_both a).0
fit-heads C (unary h p) a = let k = all_both a in (k.0, fit-heads C p k.1)
fit-heads C (binary h p₁ p₂) a =
    let k = all_both a in
    (k.0, fit-heads C p₁ (All_left (heads_of p₁) (heads_of p₂) k.1), fit-heads C p₂ (All_right (heads_of p₁) (heads_of p₂) k.1))
