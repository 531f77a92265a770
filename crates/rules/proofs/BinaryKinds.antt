-- Union and Join: the rule keeps the fields, and its result is accepted and can be written.
use mathlib.Core.Path.{◌≡◌, refl, sym, ◌∙◌, ap₂, subst}
use mathlib.Core.List.{List, [], ◌∷◌, ◌++◌, map}
use mathlib.Core.Bool.{true, ◌&&◌}
use mathlib.Core.Option.{Option}
use native.Mathlib.Omega.{arith}
use lib.Dec.{T, eqb, eqb_refl}
use lib.ListN.{length}
use Rattle.cpl.specs.Tests.{all_b}
use Rattle.cpl.specs.Lists.{Fit}
use Rattle.cpl.specs.Plan.{Pair, Expr, JoinType, On, on, Binary, union, join, Catalogue, on_left, on_right}
use Rattle.cpl.specs.Exprs.{known, definite, cond_exprs}
use Rattle.cpl.specs.Fields.{binary_fields, fields_of}
use Rattle.cpl.specs.Accept.{Test, each_passes, on_passes, binary_passes, even, together}
use Rattle.cpl.specs.Writable.{FitBinary, FitPlan}
use Rattle.cpl.specs.Accepted.{Clear, Resolved, NodeOk, Accepted}
use Rattle.cpl.proofs.Bools.{halves, both-T}
use Rattle.cpl.proofs.Versions.{Sound}
use Rattle.cpl.proofs.Lists.{All_map, All_both, all-T, T-all}
use Rattle.rules.specs.Mask.{Mask, select, LeM}
use Rattle.rules.specs.Rules.{join_exprs, left_ask, right_ask, binary_kept}
use Rattle.rules.specs.Rewrite.{Go, binary_walk}
use Rattle.rules.specs.Items.{FieldsOk}
use Rattle.rules.proofs.Masks.{LeM_refl, length-select, select_++, select_short}
use Rattle.rules.proofs.Asked.{plus_cov, plus-keeps, part-fits, ask-fits, join-keeps, join-fields}
use Rattle.rules.proofs.Covers.{Covers, Cov, used-head, used_tail, used-left, used-right, cov_both}
use Rattle.rules.proofs.Known.{known-select, definite-select, clear-select}
use Rattle.rules.proofs.Inputs.{Good, topped}

-- ── references of a join ────────────────────────────────────────────────────────────────────

-- a test that an expression passes over narrowed fields too, where they cover it
abbrev Stays : Test → Type 0
Stays test = (K : Mask) (fs : List Pair) (e : Expr) → Covers e fs K → T (test fs e) → T (test (select K fs) e)

module _ (test : Test) (stays : Stays test) (fl fr : List Pair) (Kl Kr : Mask) where
  ons_pass : (os : List On) → Cov (map on_left os) fl Kl → Cov (map on_right os) fr Kr → T (all_b (on_passes fl fr test) os) → T (all_b (on_passes (select Kl fl) (select Kr fr) test) os)
  unfolding all_b on_passes on_left on_right
  ons_pass [] vl vr t = tt
  ons_pass (on a b ∷ os) vl vr t =
      let h = halves (test fl a && test fr b) (all_b (on_passes fl fr test) os) t in
      let k = halves (test fl a) (test fr b) h.0 in
      both-T (test (select Kl fl) a && test (select Kr fr) b) (all_b (on_passes (select Kl fl) (select Kr fr) test) os)
      (both-T (test (select Kl fl) a) (test (select Kr fr) b) (stays Kl fl a (used-head a (map on_left os) vl) k.0) (stays Kr fr b (used-head b (map on_right os) vr) k.1))
      (ons_pass os (used_tail a (map on_left os) vl) (used_tail b (map on_right os) vr) h.1)

  all_stay : (es : List Expr) {fs : List Pair} {K : Mask} → Cov es fs K → T (each_passes es fs test) → T (each_passes es (select K fs) test)
  all_stay es {fs} {K} v t = T-all (test (select K fs)) (All_map (λ e h. stays K fs e h.0 h.1) (All_both v (all-T (test fs) es t)))

  join-passes : (t : JoinType) (os : List On) (c : Option Expr) → Fit Kl fl → Cov (join_exprs os c) fl Kl → Cov (join_exprs os c) fr Kr → T (binary_passes (join t os c) fl fr test)
      → T (binary_passes (join t os c) (select Kl fl) (select Kr fr) test)
  unfolding binary_passes join_exprs
  join-passes t os c f vl vr k =
      let h = halves (all_b (on_passes fl fr test) os) (each_passes (cond_exprs c) (fl ++ fr) test) k in
      let wl = used-right (map on_left os) (map on_right os ++ cond_exprs c) vl in
      let wr = used-right (map on_left os) (map on_right os ++ cond_exprs c) vr in
      let both = cov_both (used-right (map on_right os) (cond_exprs c) wl) (used-right (map on_right os) (cond_exprs c) wr) in
      both-T (all_b (on_passes (select Kl fl) (select Kr fr) test) os) (each_passes (cond_exprs c) (select Kl fl ++ select Kr fr) test)
      (ons_pass os (used-left (map on_left os) (map on_right os ++ cond_exprs c) vl) (used-left (map on_right os) (cond_exprs c) wr) h.0)
      (subst (λ gs. T (each_passes (cond_exprs c) gs test)) (select_++ f Kr fr) (all_stay (cond_exprs c) both h.1))

-- ── the two kinds ───────────────────────────────────────────────────────────────────────────

module _ (fl fr : List Pair) {R : Mask} where
  binary-fields : (h : Binary) → T (even h fl fr) → Fit R (binary_fields h fl fr) → binary_fields h (select (left_ask h fl fr R) fl) (select (right_ask h fl fr R) fr) ≡ select (binary_kept h fl fr R) (binary_fields h fl fr)
  unfolding binary_fields left_ask right_ask binary_kept
  binary-fields union e f = refl
  binary-fields (join t os c) e f = join-fields t fr _ (ask-fits (join t os c) fl fr e f).0

  binary-keeps : (h : Binary) → Fit R (binary_fields h fl fr) → LeM R (binary_kept h fl fr R)
  unfolding binary_fields binary_kept left_ask right_ask
  binary-keeps union f = LeM_refl R
  binary-keeps (join t os c) f = join-keeps t fl fr R (plus-keeps (join_exprs os c) (part-fits t fl fr f).0 (LeM_refl _)) (plus-keeps (join_exprs os c) (part-fits t fl fr f).1 (LeM_refl _))

  binary-passes : (test : Test) → Stays test → (h : Binary) → T (even h fl fr) → Fit R (binary_fields h fl fr) → T (binary_passes h fl fr test)
      → T (binary_passes h (select (left_ask h fl fr R) fl) (select (right_ask h fl fr R) fr) test)
  unfolding binary_fields left_ask right_ask binary_passes
  binary-passes test stays union e f k = k
  binary-passes test stays (join t os c) e f k =
      join-passes test stays fl fr _ _ t os c (ask-fits (join t os c) fl fr e f).0 (plus_cov (join_exprs os c) (part-fits t fl fr f).0 (LeM_refl _)) (plus_cov (join_exprs os c) (part-fits t fl fr f).1 (LeM_refl _)) k

  binary-resolved : (h : Binary) → T (even h fl fr) → Fit R (binary_fields h fl fr) → Resolved (binary_passes h fl fr) → Resolved (binary_passes h (select (left_ask h fl fr R) fl) (select (right_ask h fl fr R) fr))
  binary-resolved h e f k =
      record {
        all_found = binary-passes known known-select h e f k.all_found;
        all_definite = binary-passes definite (λ K fs e v t. definite-select K fs e t) h e f k.all_definite;
      }

  binary-even : (h : Binary) → T (even h fl fr) → Fit R (binary_fields h fl fr) → T (even h (select (left_ask h fl fr R) fl) (select (right_ask h fl fr R) fr))
  unfolding even left_ask right_ask binary_fields
  binary-even union e f =
      let k = ask-fits union fl fr e f in
      subst (λ n. T (eqb (length (select R fl)) n)) (length-select k.0 ∙ sym (length-select k.1)) (eqb_refl (length (select R fl)))
  binary-even (join t os c) e f = e

  binary-clear : (h : Binary) → T (even h fl fr) → Fit R (binary_fields h fl fr) → Clear (together h fl fr) → Clear (together h (select (left_ask h fl fr R) fl) (select (right_ask h fl fr R) fr))
  unfolding together left_ask
  binary-clear union e f k = clear-select R k
  binary-clear (join t os c) e f k = subst Clear (select_++ (ask-fits (join t os c) fl fr e f).0 (right_ask (join t os c) fl fr R) fr) (clear-select _ k)

module _ (C : Catalogue) (laws : Sound C.version) (h : Binary) {fl fr : List Pair} (l : FieldsOk C.version fl) (r : FieldsOk C.version fr) (o : NodeOk C (binary_passes h fl fr) (even h fl fr) (binary_fields h fl fr) (together h fl fr))
    (fit : FitBinary h) (go₁ go₂ : Go) (g₁ : Good C fl go₁) (g₂ : Good C fr go₂) where
  pub binary_good : Good C (binary_fields h fl fr) (binary_walk C h fl fr go₁ go₂)
  unfolding binary_walk fields_of Accepted FitPlan
  binary_good b R f =
      let fits = ask-fits h fl fr o.as_wide f in
      let i₁ = topped C laws l fits.0 (g₁ true (left_ask h fl fr R) fits.0) in
      let i₂ = topped C laws r fits.1 (g₂ true (right_ask h fl fr R) fits.1) in
      let same = binary-fields fl fr h o.as_wide f in
      let e = ap₂ (binary_fields h) i₁.fields i₂.fields ∙ same in
      record {
        kept = record { keeps = binary-keeps fl fr h f; fields = e };
        accepted = (
          i₁.accepted,
          i₂.accepted,
          record {
            resolved = rw (i₁.fields, i₂.fields) (binary-resolved fl fr h o.as_wide f o.resolved);
            as_wide = rw (i₁.fields, i₂.fields) (binary-even fl fr h o.as_wide f);
            few = rw e (let s = select_short (binary_kept h fl fr R) (binary_fields h fl fr) in let m = o.few in omega arith);
            distinct = rw (i₁.fields, i₂.fields) (binary-clear fl fr h o.as_wide f o.distinct);
          },
        );
        fit = (fit, i₁.fit, i₂.fit);
      }
