-- Window: the pass-through part of the request, and the windows that are kept. Assumes nothing.
use mathlib.Core.Path.{◌≡◌, refl, sym, ap, ap₂, subst, ◌∙◌}
use mathlib.Core.Bool.{Bool, true, false}
use mathlib.Core.List.{List, [], ◌∷◌, ◌++◌, map}
use Prim.Native.Nat.{ℕ, ◌*◌, ◌/◌, ◌%◌, ◌^◌, ◌<◌, ◌≤◌}
use native.Mathlib.Omega.{arith}
use borrow.Author.Tests.{eqb-true, eqb-false}
use lib.Dec.{eqb}
use lib.ListN.{drop, length, length-append, length-map, take}
use Rattle.cpl.specs.Exprs.{unary_exprs, win_exprs}
use Rattle.cpl.specs.Fields.{unary_fields}
use Rattle.cpl.specs.Lists.{Fit}
use Rattle.cpl.specs.Plan.{Catalogue, Pair, Win, unary, win_pair, window}
use Rattle.cpl.specs.Tests.{concat_map}
use Rattle.cpl.proofs.Lists.{Fit-length, Fit-map, Fit_trans, drop-fit, take-fit}
use Rattle.rules.specs.Mask.{Mask, count_m, select}
use Rattle.rules.specs.Rules as rules
use Rattle.rules.specs.Rules.{plus, unary_job, window_job}
use Rattle.rules.proofs.Asked.{plus-fit}
use Rattle.rules.proofs.Masks.{length-select}
use Rattle.required_indices.specs.Request.{Asks, Holds, flag_of, request_mask, set_of, words_n}
use Rattle.required_indices.specs.declared.RequiredIndices.{RequiredIndices}
use Rattle.required_indices.proofs.Methods.{below-asks, empty-mask, rest-asks}
use Rattle.requests.specs.Asked.{Adds}
use Rattle.result.specs.Result.{unary_part}
use Rattle.jobs.specs.Job.{InputIs, Posed, ThenIs}
use Rattle.jobs.specs.declared.Todo.TheVariants as todos
use Rattle.jobs.specs.declared.Rest.TheVariants as rests
use Rattle.jobs.proofs.Plain.{asks-mask, job}

none_left : (ws : List Win) (fs : List Pair) (b : Bool) (R S : Mask) → length ws ≡ 0 → window_job ws fs b R S ≡ rules.ask b R false (λ p. p) (λ K. K ++ S)
unfolding window_job
none_left [] fs b R S e = refl
none_left (w ∷ ws) fs b R S e = absurd (omega arith)

some_left : (ws : List Win) (fs : List Pair) (b : Bool) (R S : Mask) → (length ws ≡ 0 → ⊥)
    → window_job ws fs b R S ≡ rules.ask b (plus (unary_exprs (window ws)) fs R) true (unary (window ws)) (λ K. K ++ S)
unfolding window_job
some_left [] fs b R S e = absurd (e refl)
some_left (w ∷ ws) fs b R S e = refl

module _ (ws : List Win) {width : ℕ} {fs : List Pair} {r below set : RequiredIndices} {R : Mask} (ew : width ≡ length fs) (hb : Holds below (set_of r % 2 ^ width) (flag_of r))
    (hs : Holds set (set_of r / 2 ^ width) (flag_of r)) (p : Posed (window ws) fs r R) where
  abbrev R₀ : Mask
  R₀ = take (length fs) R

  abbrev S : Mask
  S = drop (length fs) R

  own-fit : Fit R (fs ++ map win_pair ws)
  unfolding unary_fields
  own-fit = p.fit

  own-few : length (fs ++ map win_pair ws) ≤ words_n * 64
  unfolding unary_fields
  own-few = p.few

  pass-fit : Fit R₀ fs
  pass-fit = take-fit fs (map win_pair ws) own-fit

  rest-fit : Fit S ws
  rest-fit = Fit_trans (drop-fit fs (map win_pair ws) own-fit) (Fit-map win_pair ws)

  upto : width ≤ length R
  upto = omega (arith, Fit-length own-fit, length-append fs (map win_pair ws))

  pass-asks : Asks below R₀
  pass-asks = subst (λ x. Asks below (take x R)) ew (below-asks width p.asks upto hb)

  set-asks : Asks set S
  set-asks = subst (λ x. Asks set (drop x R)) ew (rest-asks width p.asks upto hs)

  left-count : count_m S ≡ length (select S ws)
  left-count = sym (length-select rest-fit)

  set-within : set_of set < 2 ^ length ws
  set-within = subst (λ x. set_of set < 2 ^ x) (Fit-length rest-fit) set-asks.within

  then_is : ThenIs fs (λ K. K ++ S) set width
  then_is = record {
    S = S;
    wide = ew;
    few = omega (arith, own-few, length-append fs (map win_pair ws), length-map ws win_pair, Fit-length rest-fit);
    asks = set-asks;
    is = λ K. refl;
  }

  pub same-is : (C : Catalogue) (key : List ℕ) (none : RequiredIndices) → eqb (set_of set) 0 ≡ true → InputIs C (window ws) key fs (flag_of r) R false (λ x. x) (job todos.Same (rests.InputThen width) below none set none)
  unfolding unary_job
  same-is C key none e = record {
    Q = R₀;
    left = λ K. K ++ S;
    job =
        none_left (select S ws) fs (flag_of r) R₀ S (sym left-count ∙ eqb-true (count_m S) 0 (sym (empty-mask set-asks) ∙ e))
        ∙ ap (λ x. rules.ask x R₀ false (λ p. p) (λ K. K ++ S)) (sym hb.flag);
    asks = pass-asks;
    fit = pass-fit;
    set = set-within;
    rest = then_is;
  }

  pub window-is : (C : Catalogue) (key : List ℕ) {n : ℕ} {q : RequiredIndices} (none : RequiredIndices) → n ≡ length ws → eqb (set_of set) 0 ≡ false → Adds (concat_map win_exprs (select (request_mask n set) ws)) fs below q
      → InputIs C (window ws) key fs (flag_of r) R true (unary (unary_part (set_of set) (window ws))) (job (todos.One true) (rests.InputThen width) q none set none)
  unfolding unary_job unary_exprs unary_part
  window-is C key {n} {q} none en e d₀ =
      let es = concat_map win_exprs (select S ws) in
      let d : Adds es fs below q = subst (λ M. Adds (concat_map win_exprs (select M ws)) fs below q) (asks-mask set-asks (Fit-length rest-fit ∙ sym en)) d₀ in
      record {
        Q = plus es fs R₀;
        left = λ K. K ++ S;
        job =
            some_left (select S ws) fs (flag_of r) R₀ S (λ z. eqb-false (count_m S) 0 (sym (empty-mask set-asks) ∙ e) (left-count ∙ z))
            ∙ ap₂ (λ x M. rules.ask x (plus es fs R₀) true (unary (window (select M ws))) (λ K. K ++ S)) (sym (d.flag ∙ hb.flag)) (sym (asks-mask set-asks (Fit-length rest-fit)));
        asks = d.asks R₀ pass-fit pass-asks;
        fit = plus-fit es pass-fit;
        set = set-within;
        rest = then_is;
      }
