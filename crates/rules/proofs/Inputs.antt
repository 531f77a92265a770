-- What is proved of every step of the pass: the fields are kept, the new plan is accepted, and it can be written. Then: a topped-up input has exactly
-- the fields that were requested.
use mathlib.Core.Path.{◌≡◌, sym, ◌∙◌, ap, subst}
use mathlib.Core.List.{List, map}
use mathlib.Core.Bool.{Bool, true, false, cond, not}
use Prim.Native.Nat.{◌≤◌}
use native.Mathlib.Omega.{arith}
use lib.Dec.{T, ltb, nltb→le}
use lib.ListN.{length, length-map}
use Rattle.cpl.specs.Lists.{All, Fit}
use Rattle.cpl.specs.Plan.{Pair, bare, projection, Plan, unary, Catalogue, item_expr}
use Rattle.cpl.specs.Exprs.{unary_exprs}
use Rattle.cpl.specs.Accept.{each_passes}
use Rattle.cpl.specs.Fields.{unary_fields, fields_of}
use Rattle.cpl.specs.Writable.{FitList, FitPair, FitItem, FitUnary, FitPlan}
use Rattle.cpl.specs.Accepted.{Resolved, NodeOk, Accepted}
use Rattle.cpl.proofs.Lists.{All_mapped}
use Rattle.cpl.proofs.Versions.{Sound}
use Rattle.rules.specs.Mask.{Mask, select, count_m}
use Rattle.rules.specs.Rules.{top_up}
use Rattle.rules.specs.Rewrite.{Walked, Go}
use Rattle.rules.specs.FieldsKept.{FieldsKept}
use Rattle.rules.specs.Items.{FieldsOk}
use Rattle.rules.proofs.Masks.{LeM_fit, count_eq, length-select, select-select, select_short, All_select}
use Rattle.rules.proofs.Known.{own-resolved, bare-fields, clear-select}

-- ── what is known of a result ───────────────────────────────────────────────────────────────

pub record Result (C : Catalogue) (fs : List Pair) (R : Mask) (w : Walked) : Type 0 where
  pub kept : FieldsKept C fs R w
  pub accepted : Accepted C w.plan
  pub fit : FitPlan C w.plan

-- what the pass over an input with these fields does
abbrev pub Good : Catalogue → List Pair → Go → Type 0
Good C fs go = (b : Bool) (R : Mask) → Fit R fs → Result C fs R (go b R)

-- a rewritten input whose fields are the old ones at K
pub record Input (C : Catalogue) (fs : List Pair) (K : Mask) (p' : Plan) : Type 0 where
  pub fields : fields_of C p' ≡ select K fs
  pub accepted : Accepted C p'
  pub fit : FitPlan C p'

-- ── top-up ──────────────────────────────────────────────────────────────────────────────────

bare-fit : {cs : List Pair} → All FitPair cs → All FitItem (map bare cs)
unfolding FitItem
bare-fit h = All_mapped bare (λ c k. k) h

module _ (C : Catalogue) (laws : Sound C.version) {fs : List Pair} (known-fields : FieldsOk C.version fs) {Q : Mask} (fits-fields : Fit Q fs) {w : Walked} (r : Result C fs Q w) where
  -- the requested columns over the input
  topped_fields : unary_fields (projection (map bare (select Q fs))) (fields_of C w.plan) ≡ select Q fs
  unfolding unary_fields
  topped_fields = bare-fields (select Q fs)

  topped_resolved : Resolved (each_passes (unary_exprs (projection (map bare (select Q fs)))) (fields_of C w.plan))
  unfolding unary_exprs
  topped_resolved =
      subst (λ gs. Resolved (each_passes (map item_expr (map bare (select Q fs))) gs)) (sym r.kept.fields)
      (subst (λ cs. Resolved (each_passes (map item_expr (map bare cs)) (select w.kept fs))) (select-select r.kept.keeps fs)
      (own-resolved (select w.kept Q) (clear-select w.kept known-fields.distinct)))

  topped_ok : NodeOk C (each_passes (unary_exprs (projection (map bare (select Q fs)))) (fields_of C w.plan)) true
      (unary_fields (projection (map bare (select Q fs))) (fields_of C w.plan)) (unary_fields (projection (map bare (select Q fs))) (fields_of C w.plan))
  topped_ok =
      record {
        resolved = topped_resolved;
        as_wide = tt;
        few = rw topped_fields (let h = select_short Q fs in let k = known-fields.few in omega arith);
        distinct = rw topped_fields (clear-select Q known-fields.distinct);
      }

  topped_fit : FitUnary C.version (projection (map bare (select Q fs)))
  unfolding FitUnary FitList
  topped_fit = (rw (length-map (select Q fs) bare) (let h = select_short Q fs in let k = known-fields.few in let l = laws.fields_fit in omega arith), bare-fit (All_select Q known-fields.pairs))

  pub topped : Input C fs Q (top_up C fs Q w.plan)
  unfolding top_up fields_of Accepted FitPlan
  topped = go (ltb (count_m Q) (length (fields_of C w.plan))) (λ t. t)
    where
      go : (b : Bool) → (T (not b) → T (not (ltb (count_m Q) (length (fields_of C w.plan))))) → Input C fs Q (cond b (unary (projection (map bare (select Q fs))) w.plan) w.plan)
      go true t = record { fields = topped_fields; accepted = (r.accepted, topped_ok); fit = (topped_fit, r.fit) }
      go false t =
          let h : length (fields_of C w.plan) ≤ count_m Q = nltb→le _ _ (t tt) in
          let l : length (fields_of C w.plan) ≡ count_m w.kept = ap length r.kept.fields ∙ length-select (LeM_fit r.kept.keeps fits-fields) in
          let e : w.kept ≡ Q = count_eq r.kept.keeps (omega arith) in
          record { fields = r.kept.fields ∙ ap (λ k. select k fs) e; accepted = r.accepted; fit = r.fit }

-- without a top-up
pub as_it_is : (C : Catalogue) {fs : List Pair} {Q : Mask} {w : Walked} → Result C fs Q w → Input C fs w.kept w.plan
as_it_is C r = record { fields = r.kept.fields; accepted = r.accepted; fit = r.fit }
