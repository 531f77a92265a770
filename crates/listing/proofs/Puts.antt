-- The laws of texts that are put at a place, and of lines made of them. Assumes nothing.
use mathlib.Core.Path.{◌≡◌, refl, sym, ap, ap₂, subst⁻¹, ◌∙◌}
use mathlib.Core.List.{List, [], ◌∷◌, ◌++◌, append_assoc}
use Prim.Native.Nat.{ℕ, suc, ◌+◌, ◌-◌, ◌/◌, ◌%◌, ◌^◌, ◌<◌, ◌≤◌}
use native.Mathlib.Omega.{arith}
use lib.ListN.{length, take, drop, set, length-append, take-append-drop}
use lib.Seq.{take_all, drop-drop, length-take-le, set_split}
use borrow.Rule.Slice.PartMut.{put_mid}
use Rattle.writer_parts.specs.Wrote.{over, Wrote, Laid}
use Rattle.writer_parts.proofs.Over.{kept, laid, over-over, part, so, start, then}
use Rattle.tree.specs.declared.Node.{Node}
use Rattle.tree.specs.declared.Node.TheVariants.{Projection, Filter, Sort, Limit, Aggregate, Window, SubqueryAlias, Union, Distinct, Join, Scan, Empty}
use Rattle.listing.specs.Text.{count_text, line_text, newline, refused_text, space}
use Rattle.listing.specs.Lines.{Counts, Puts, node_text}
use Rattle.plan_text.specs.Decimal.{decimal}
use Rattle.plan_text.proofs.Digits.{small, step}
use Rattle.listing.proofs.Digits.{short, step-length}

-- all of s was copied into the part of xs that is as long, from `at` on
pub copied : {xs out : List ℕ} (at : ℕ) (s : List ℕ) → out ≡ s → Puts at s xs (at + length s) (put_mid at (at + length s - at) xs out)
unfolding over
copied {xs} {out} at s e =
    let long : at + length s - at ≡ length s = omega arith in
    record {
      long = refl;
      size = refl;
      ends = ap (λ (k : ℕ). put_mid at k xs out) long ∙ ap (λ (v : List ℕ). take at xs ++ (v ++ drop (length s) (drop at xs))) e;
    }

-- the bytes before the place, and then what was put there
start_kept : (at : ℕ) (xs : List ℕ) → at ≤ length xs → Wrote (take at xs) xs at xs
unfolding over
start_kept at xs h = record { long = sym (length-take-le at xs h); ends = rw (length-take-le at xs h) (sym (take-append-drop at xs)) }

pub whole : {at n r : ℕ} {v xs ys : List ℕ} → at ≤ length xs → Laid at v n xs r ys → Wrote (take at xs ++ v) xs r ys
whole {at} {xs = xs} h l = then (start_kept at xs h) l

pub placed : {at r : ℕ} {v xs ys : List ℕ} → at ≤ length xs → Wrote (take at xs ++ v) xs r ys → Puts at v xs r ys
placed {at} {r} {v} {xs} {ys} h w = record {
  long = w.long ∙ (length-append (take at xs) v ∙ ap (◌+ length v) (length-take-le at xs h));
  size = refl;
  ends = w.ends ∙ (sym (over-over (take at xs) v xs) ∙ ap (λ i. take at xs ++ over v (drop i xs)) (length-take-le at xs h));
}

-- one byte
pub byte : {xs : List ℕ} (at b : ℕ) → at < length xs → Puts at (b ∷ []) xs (at + 1) (set xs at b)
unfolding over
byte {xs} at b h = record {
  long = refl;
  size = refl;
  ends =
      let e : suc at ≡ at + 1 = omega arith in
      set_split xs at b h ∙ ap (λ (ys : List ℕ). take at xs ++ b ∷ ys) (ap (λ i. drop i xs) e ∙ sym (drop-drop 1 at xs));
}

-- a buffer keeps its length
pub put_kept : {at r : ℕ} {v xs ys : List ℕ} → Puts at v xs r ys → at + length v ≤ length xs → length ys ≡ length xs
put_kept {at} {r} {v} {xs} {ys} p h = kept (whole (omega arith) p) (omega (arith, p.long))

-- ── numbers ─────────────────────────────────────────────────────────────────────────────────

pub number_small : {xs : List ℕ} (at n : ℕ) → n < 10 → at + length (decimal n) ≤ length xs → Puts at (decimal n) xs (at + 1) (set xs at (48 + n))
number_small {xs} at n h l =
    let e = ap length (small n h) in
    subst⁻¹ (λ (v : List ℕ). Puts at v xs (at + 1) (set xs at (48 + n))) (small n h) (byte at (48 + n) (omega arith))

pub number_step : {xs ys : List ℕ} {r : ℕ} (at n : ℕ) → 10 ≤ n → at + length (decimal n) ≤ length xs → Puts at (decimal (n / 10)) xs r ys
    → Puts at (decimal n) xs (r + 1) (set ys r (48 + n % 10))
number_step {xs} {ys} {r} at n h l p =
    let e = step-length n h in
    let k = put_kept p (omega arith) in
    let d = (48 + n % 10) ∷ [] in
    subst⁻¹ (λ (v : List ℕ). Puts at v xs (r + 1) (set ys r (48 + n % 10))) (step n h)
    (placed (omega arith)
    (so (then (whole (omega arith) p) (byte r (48 + n % 10) (omega (arith, p.long)))) (append_assoc (take at xs) (decimal (n / 10)) d) refl))

-- ── kinds ───────────────────────────────────────────────────────────────────────────────────

pub kind_put : {at r : ℕ} {v w xs ys : List ℕ} → w ≡ v → Puts at v xs r ys → Puts at w xs r ys
kind_put {at} {r} {xs = xs} {ys = ys} e p = subst⁻¹ (λ (w : List ℕ). Puts at w xs r ys) e p

pub kind_short : (n : Node) → length (node_text n) ≤ 13
unfolding node_text
kind_short (Projection f n) = omega arith
kind_short (Filter r) = omega arith
kind_short (Sort f n) = omega arith
kind_short (Limit s n) = omega arith
kind_short (Aggregate f g v) = omega arith
kind_short (Window f n) = omega arith
kind_short (SubqueryAlias q) = omega arith
kind_short (Union r) = omega arith
kind_short Distinct = omega arith
kind_short (Join j) = omega arith
kind_short (Scan s) = omega arith
kind_short (Empty b f n) = omega arith

-- ── lines ───────────────────────────────────────────────────────────────────────────────────

pub line_short : (k width : ℕ) (n : Node) → k < 2 ^ 64 → width < 2 ^ 64 → length (line_text k (node_text n) width) ≤ 56
unfolding line_text
line_short k width n h i = simp length-append (omega (arith, short k h, short width i, kind_short n))

pub line_wrote : (width : ℕ) {k m a b c d e r : ℕ} {kind x₀ x₁ x₂ x₃ x₄ x₅ x₆ : List ℕ} → m ≡ k
    → Puts 0 (decimal m) x₀ a x₁ → Puts a space x₁ b x₂ → Puts b kind x₂ c x₃ → Puts c space x₃ d x₄ → Puts d (decimal width) x₄ e x₅
    → Puts e newline x₅ r x₆ → Wrote (line_text k kind width) x₀ r x₆
unfolding line_text
line_wrote width {kind = kind} q p₁ p₂ p₃ p₄ p₅ p₆ =
    so (then (then (then (then (then (then start p₁) p₂) p₃) p₄) p₅) p₆) (ap (λ i. decimal i ++ space ++ kind ++ space ++ decimal width ++ newline) q) refl

pub refused-wrote : {code place m n a b c d r : ℕ} {x₀ x₁ x₂ x₃ x₄ x₅ : List ℕ} → m ≡ code → n ≡ place
    → Puts 0 (82 ∷ 69 ∷ 70 ∷ 85 ∷ 83 ∷ 69 ∷ 68 ∷ 32 ∷ []) x₀ a x₁ → Puts a (decimal m) x₁ b x₂ → Puts b space x₂ c x₃ → Puts c (decimal n) x₃ d x₄
    → Puts d newline x₄ r x₅ → Wrote (refused_text code place) x₀ r x₅
unfolding refused_text
refused-wrote e f p₁ p₂ p₃ p₄ p₅ =
    so (then (then (then (then (then start p₁) p₂) p₃) p₄) p₅)
    (ap₂ (λ i j. (82 ∷ 69 ∷ 70 ∷ 85 ∷ 83 ∷ 69 ∷ 68 ∷ 32 ∷ []) ++ decimal i ++ space ++ decimal j ++ newline) e f) refl

-- the first line, and then the others
pub listing-wrote : {count m a b c n : ℕ} {lines x₀ x₁ x₂ x₃ ys : List ℕ} → m ≡ count
    → Puts 0 (80 ∷ 76 ∷ 65 ∷ 78 ∷ 32 ∷ []) x₀ a x₁ → Puts a (decimal m) x₁ b x₂ → Puts b newline x₂ c x₃ → Wrote lines (take (length x₃ - c) (drop c x₃)) n ys
    → Wrote (count_text count ++ lines) x₀ (c + n) (take c x₃ ++ (ys ++ drop (length x₃ - c) (drop c x₃)))
unfolding count_text
listing-wrote {lines = lines} e p₁ p₂ p₃ w =
    so (part (then (then (then start p₁) p₂) p₃) w) (ap (λ i. (80 ∷ 76 ∷ 65 ∷ 78 ∷ 32 ∷ []) ++ decimal i ++ newline ++ lines) e) refl

-- ── the whole text ──────────────────────────────────────────────────────────────────────────

-- what was written lies in the buffer, which is as long as before
pub counts : {w xs ys : List ℕ} {r : ℕ} → Wrote w xs r ys → length ys ≡ length xs → Counts r ys
unfolding over
counts {w} {xs} {ys} {r} o e =
    let l : r ≤ length ys = omega (arith, o.long, ap length o.ends, length-append w (drop (length w) xs)) in
    (l, sym (length-take-le r ys l))

-- two answers to the same text are the same
pub coincide : {w xs ys zs : List ℕ} {r q : ℕ} → Wrote w xs r ys → Wrote w xs q zs → (r ≡ q) × (ys ≡ zs)
coincide o u = (o.long ∙ sym u.long, o.ends ∙ sym u.ends)
