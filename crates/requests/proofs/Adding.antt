-- The laws of requests with columns added. Assumes nothing.
use mathlib.Core.Path.{◌≡◌, refl, sym, ap, subst, ◌∙◌}
use mathlib.Core.Bool.{Bool, false}
use mathlib.Core.List.{List, [], ◌∷◌, ◌++◌}
use mathlib.Core.Option.{none, some}
use Prim.Native.Nat.{ℕ, ◌^◌}
use native.Mathlib.Omega.{arith}
use lib.Bits.{bit_or}
use Rattle.cpl.specs.Exprs.{find, places}
use Rattle.cpl.specs.Lists.{Fit, z[], ◌z∷◌}
use Rattle.cpl.specs.Plan.{Expr, Op1, Op2, Pair, bin, col, lit, miss, un}
use Rattle.cpl.specs.Tests.{concat_map}
use Rattle.cpl.proofs.Lists.{Fit-length, Fit-map}
use Rattle.cpl.proofs.Lookup.{found_below}
use Rattle.rules.specs.Mask.{Mask, or_m}
use Rattle.rules.specs.Mask as mask
use Rattle.rules.specs.Request.{mask_of}
use Rattle.rules.specs.Rules.{plus, used}
use Rattle.rules.proofs.Asked.{plus-fit, used-fit}
use Rattle.rules.proofs.Plus.{plus_absent, plus-bin, plus-found, plus_none, plus_then, plus-un}
use Rattle.required_indices.specs.Request.{Asks, Holds, flag_of, set_of}
use Rattle.required_indices.specs.declared.RequiredIndices.{RequiredIndices}
use Rattle.required_indices.proofs.Methods.{index-asks, new_asks}
use Rattle.requests.specs.Asked.{Adds}

-- ── expressions ─────────────────────────────────────────────────────────────────────────────

-- expressions that ask for nothing
adds_nothing : (es : List Expr) {fs : List Pair} {r : RequiredIndices} → ((R : Mask) → Fit R fs → plus es fs R ≡ R) → Adds es fs r r
adds_nothing es h = record { flag = refl; asks = λ R f a. subst (Asks _) (sym (h R f)) a }

pub adds_none : {fs : List Pair} {r : RequiredIndices} → Adds [] fs r r
adds_none = adds_nothing [] (λ R f. plus_none f)

pub adds_then : (ds es : List Expr) {fs : List Pair} {r s out : RequiredIndices} → Adds ds fs r s → Adds es fs s out → Adds (ds ++ es) fs r out
adds_then ds es {fs} {out = out} d e = record { flag = e.flag ∙ d.flag; asks = λ R f a. subst (Asks out) (plus_then ds es fs R) (e.asks (plus ds fs R) (plus-fit ds f) (d.asks R f a)) }

-- an expression that is known to be x
known_as : {fs : List Pair} {r out : RequiredIndices} {e x : Expr} → e ≡ x → Adds (x ∷ []) fs r out → Adds (e ∷ []) fs r out
known_as {fs} {r} {out} h d = subst (λ y. Adds (y ∷ []) fs r out) (sym h) d

module _ {fs : List Pair} {r : RequiredIndices} {e : Expr} where
  pub adds_lit : {z : _} → e ≡ lit z → Adds (e ∷ []) fs r r
  unfolding plus used concat_map places
  adds_lit h = known_as h (adds_nothing (lit _ ∷ []) (λ R f. plus_none f))

  pub adds_miss : e ≡ miss → Adds (e ∷ []) fs r r
  unfolding plus used concat_map places
  adds_miss h = known_as h (adds_nothing (miss ∷ []) (λ R f. plus_none f))

  pub adds_un : {o : Op1} {a : Expr} {out : RequiredIndices} → e ≡ un o a → Adds (a ∷ []) fs r out → Adds (e ∷ []) fs r out
  adds_un {o} {a} {out} h d = known_as h (record { flag = d.flag; asks = λ R f k. subst (Asks out) (sym (plus-un o a fs R)) (d.asks R f k) })

  pub adds_bin : {o : Op2} {a b : Expr} {s out : RequiredIndices} → e ≡ bin o a b → Adds (a ∷ []) fs r s → Adds (b ∷ []) fs s out → Adds (e ∷ []) fs r out
  adds_bin {o} {a} {b} {out = out} h c d =
      known_as h
      (record { flag = d.flag ∙ c.flag; asks = λ R f k. subst (Asks out) (sym (plus-bin o a b fs R)) (d.asks (plus (a ∷ []) fs R) (plus-fit (a ∷ []) f) (c.asks R f k)) })

-- ── a reference ─────────────────────────────────────────────────────────────────────────────

module _ {fs : List Pair} {r : RequiredIndices} {e : Expr} (c : Pair) (h : e ≡ col c) where
  pub adds_absent : find c fs ≡ none → Adds (e ∷ []) fs r r
  adds_absent g = known_as h (adds_nothing (col c ∷ []) (λ R f. plus_absent c fs R f g))

  pub adds_found : {out : RequiredIndices} (i : ℕ) → find c fs ≡ some i → Holds out (bit_or (set_of r) (2 ^ i)) (flag_of r) → Adds (e ∷ []) fs r out
  adds_found {out} i g k =
      known_as h
      (record {
        flag = k.flag;
        asks = λ R f a.
            let l = Fit-length f in
            subst (Asks out) (ap (λ n. or_m R (mask_of n (i ∷ []))) l ∙ sym (plus-found c fs R i g)) (index-asks i a (omega (arith, l, found_below c fs i g)) k);
      })

-- ── columns alone ───────────────────────────────────────────────────────────────────────────

or_zeros : {A : Type 0} {M : Mask} {xs : List A} → Fit M xs → or_m (mask.zeros xs) M ≡ M
unfolding or_m mask.zeros
or_zeros z[] = refl
or_zeros (◌z∷◌ {x = b} _ fs) = ap (b ∷◌) (or_zeros fs)

-- a request that was empty asks for the columns alone
pub adds_alone : (es : List Expr) (fs : List Pair) {b : Bool} {none ask : RequiredIndices} → Holds none 0 b → Adds es fs none ask → Asks ask (used es fs)
unfolding plus mask.zeros
adds_alone es fs h d = subst (Asks _) (or_zeros (used-fit es fs)) (d.asks (mask.zeros fs) (Fit-map (λ x. false) fs) (new_asks fs h))

-- ── one list after the other ────────────────────────────────────────────────────────────────

-- what is left to be added to `cur`, so that all has been added to r
abbrev pub Toward : (all : List Expr) (fs : List Pair) (r : RequiredIndices) (left : List Expr) (cur : RequiredIndices) → Type 0
Toward all fs r left cur = (out : RequiredIndices) → Adds left fs cur out → Adds all fs r out

module _ (all : List Expr) {fs : List Pair} {r : RequiredIndices} where
  pub toward_none : Toward all fs r all r
  toward_none out d = d

  pub toward_same : {cur : RequiredIndices} {es es' : List Expr} → es ≡ es' → Toward all fs r es cur → Toward all fs r es' cur
  toward_same {cur} e t = subst (λ x. Toward all fs r x cur) e t

  pub toward_more : {cur cur' : RequiredIndices} {es : List Expr} (xs es' : List Expr) → es ≡ xs ++ es' → Toward all fs r es cur → Adds xs fs cur cur' → Toward all fs r es' cur'
  toward_more {cur} xs es' e t d out g = t out (subst (λ x. Adds x fs cur out) (sym e) (adds_then xs es' d g))

  pub toward_all : {cur : RequiredIndices} {es : List Expr} → es ≡ [] → Toward all fs r es cur → Adds all fs r cur
  toward_all {cur} e t = t cur (subst (λ x. Adds x fs cur cur) (sym e) adds_none)
