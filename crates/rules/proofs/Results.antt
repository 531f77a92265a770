-- The pass over a whole plan, in either mode: what it makes of an accepted, writable plan keeps the fields, is accepted and can be written.
use mathlib.Core.Path.{◌≡◌, refl, sym, ap, subst, subst⁻¹}
use mathlib.Core.List.{List, map}
use mathlib.Core.Bool.{Bool}
use mathlib.Core.Option.{Option, none, some}
use Prim.Native.Nat.{ℕ}
use native.Mathlib.Omega.{arith}
use lib.ListN.{length, length-map}
use Rattle.cpl.specs.Limits.{Version}
use Rattle.cpl.specs.Lists.{Fit}
use Rattle.cpl.specs.Plan.{Pair, Item, Leaf, scan, empty, Unary, projection, filter, sort, limit, aggregate, window, subquery_alias, distinct, Plan, leaf, unary, binary, Catalogue, names_of, item_pair}
use Rattle.cpl.specs.Exprs.{leaf_exprs, unary_exprs}
use Rattle.cpl.specs.Accept.{each_passes}
use Rattle.cpl.specs.Fields.{columns_of, scan_field, leaf_fields, leaf_input, unary_fields, fields_of}
use Rattle.cpl.specs.Writable.{FitList, FitColumns, FitLeaf, FitUnary, FitPlan, FitCatalogue}
use Rattle.cpl.specs.Accepted.{Resolved, Accepted}
use Rattle.cpl.proofs.Versions.{Sound, sound}
use Rattle.cpl.proofs.Lists.{fit_self}
use Rattle.cpl.proofs.Accepted.{few-fields, distinct-fields}
use Rattle.cpl.proofs.FitFields.{unary-pairs, field-pairs, columns-below, columns-few}
use Rattle.rules.specs.Mask.{Mask}
use Rattle.rules.specs.Keys.{key_of}
use Rattle.rules.specs.Merge.{merge_step}
use Rattle.rules.specs.Rules.{leaf_rule, leaf_kept}
use Rattle.rules.specs.Rewrite.{Walked, Go, pend, measured, merged, leaf_walk, node_walk, unary_walk, walk}
use Rattle.rules.specs.Items.{FieldsOk, Items}
use Rattle.rules.proofs.Masks.{LeM_refl, fit-ones, select-map, select-ones, select_short, All_select}
use Rattle.rules.proofs.Known.{clear-select}
use Rattle.rules.proofs.Inputs.{Result, Good}
use Rattle.rules.proofs.UnaryKinds.{projection_good, unary_good}
use Rattle.rules.proofs.BinaryKinds.{binary_good}
use Rattle.rules.proofs.MergeTidy.{Step, step, step-pairs, step-resolved, step_fits}

-- ── what is asked of a projection that is still to be put on top ─────────────────────────────

abbrev pub Pending : Version → List Pair → Option (List Item) → Type 0
Pending v fs none = Unit {0}
Pending v fs (some is) = Items v fs is

-- the fields with the pending projection on top
abbrev pub pending_fields : List Pair → Option (List Item) → List Pair
pending_fields fs none = fs
pending_fields fs (some is) = map item_pair is

pub pend_good : (C : Catalogue) (q : Option (List Item)) {fs : List Pair} → Pending C.version fs q → (go : Go) → Good C fs go → Good C (pending_fields fs q) (pend C q fs go)
unfolding pend
pend_good C none k go g = g
pend_good C (some is) k go g = λ b R f. projection_good C is k.resolved k.own k.fit go g R f

-- ── nodes ───────────────────────────────────────────────────────────────────────────────────

-- the fields of a plan that is accepted and can be written
pub plan-fields : (C : Catalogue) → FitCatalogue C → (p : Plan) → Accepted C p → FitPlan C p → FieldsOk C.version (fields_of C p)
plan-fields C k p o f = record { few = few-fields C p o; distinct = distinct-fields C p o; pairs = field-pairs C k p f }

pub leaf_good : (C : Catalogue) → FitCatalogue C → (h : Leaf) → Accepted C (leaf h) → FitLeaf C h → Good C (leaf_fields C h) (leaf_walk C h)
unfolding leaf_walk leaf_rule leaf_kept leaf_fields leaf_input leaf_exprs fields_of Accepted FitPlan FitLeaf FitColumns FitList columns_of
leaf_good C k (scan t q is es) o fit b R f =
    let names = names_of C t in
    let cs = columns_of names is in
    let e = select-map (scan_field names q) R cs in
    record {
      kept = record { keeps = LeM_refl R; fields = sym e };
      accepted = record {
        resolved = o.resolved;
        as_wide = tt;
        few = rw (← e) (let s = select_short R (map (scan_field names q) cs) in let m = o.few in omega arith);
        distinct = rw (← e) (clear-select R o.distinct);
      };
      fit = (fit.0, fit.1, (let s = select_short R cs in let m = columns-few C k t fit.0 is fit.2 in omega arith, All_select R (columns-below C.version names is fit.2)), fit.3);
    }
leaf_good C k (empty one cs) o fit b R f = record { kept = record { keeps = fit-ones f; fields = sym (select-ones (fit_self cs)) }; accepted = o; fit = fit }

-- a merged list in place of the upper list
pub merged_items : {house : Bool} {v : Version} {fs : List Pair} {js is ks : List Item} → Items v (map item_pair is) js → Items v fs is → Step house js is ks → Items v fs ks
unfolding FitList
merged_items {v = v} {fs} {js} {is} {ks} u l s =
    record {
      resolved = step-resolved fs u.resolved l.resolved s;
      own = subst⁻¹ (FieldsOk v) (step-pairs s) u.own;
      fit = (let e = ap length (step-pairs s) in let m = u.fit.0 in omega (arith, length-map ks item_pair, length-map js item_pair), step_fits u.fit.1 l.fit.1 s);
    }

measured-result : (C : Catalogue) {fs : List Pair} {R : Mask} (ks : List Item) {w : Walked} → Result C fs R w → Result C fs R (measured ks w)
unfolding measured
measured-result C ks r = record { kept = record { keeps = r.kept.keeps; fields = r.kept.fields }; accepted = r.accepted; fit = r.fit }

-- a node that is no projection
node_good : (C : Catalogue) → Sound C.version → (h : Unary) (key : List ℕ) {fs : List Pair} → FieldsOk C.version fs → Resolved (each_passes (unary_exprs h) fs) → FieldsOk C.version (unary_fields h fs) → FitUnary C.version h
    → (go : Option (List Item) → Go) → Good C fs (go none) → (q : Option (List Item)) → Pending C.version (unary_fields h fs) q → Good C (pending_fields (unary_fields h fs) q) (node_walk C h key fs go q)
unfolding node_walk
node_good C laws h key below k own fit go g q pq = pend_good C q pq _ (unary_good C laws key below (go none) g h k own fit)

module _ (house : Bool) (m : ℕ) (C : Catalogue) where
  -- the list goes on down where the step made one, and stops over the lower list where it did not
  merged_good : (js is : List Item) {fs : List Pair} → Items C.version (map item_pair is) js → Items C.version fs is → (go : Option (List Item) → Go)
      → ((ks : List Item) → Items C.version fs ks → Good C (map item_pair ks) (go (some ks)))
      → (r : Option (List Item)) → merge_step house m js is ≡ r → Good C (map item_pair js) (merged r (λ ks. go (some ks)) (pend C (some js) (map item_pair is) (go (some is))))
  unfolding merged
  merged_good js is u l go g none e = pend_good C (some js) u (go (some is)) (g is l)
  merged_good js is {fs} u l go g (some ks) e = λ b R f.
      let s = step house m js is ks e in
      measured-result C ks (subst (λ fs'. Result C fs' R (go (some ks) b R)) (step-pairs s) (g ks (merged_items u l s) b R (subst⁻¹ (Fit R) (step-pairs s) f)))

  unary-walk : Sound C.version → (h : Unary) (key : List ℕ) {fs : List Pair} → FieldsOk C.version fs → Resolved (each_passes (unary_exprs h) fs) → FieldsOk C.version (unary_fields h fs) → FitUnary C.version h
      → (go : Option (List Item) → Go) → ((q : Option (List Item)) → Pending C.version fs q → Good C (pending_fields fs q) (go q))
      → (q : Option (List Item)) → Pending C.version (unary_fields h fs) q → Good C (pending_fields (unary_fields h fs) q) (unary_walk (merge_step house m) C h key fs go q)
  unfolding unary_walk unary_fields unary_exprs FitUnary
  unary-walk laws (projection is) key below k own fit go g none pq = g (some is) (record { resolved = k; own = own; fit = fit })
  unary-walk laws (projection is) key below k own fit go g (some js) pq =
      merged_good js is pq (record { resolved = k; own = own; fit = fit }) go (λ ks i. g (some ks) i) (merge_step house m js is) refl
  unary-walk laws (filter e) key below k own fit go g q pq = node_good C laws (filter e) key below k own fit go (g none tt) q pq
  unary-walk laws (sort ks) key below k own fit go g q pq = node_good C laws (sort ks) key below k own fit go (g none tt) q pq
  unary-walk laws (limit s n) key below k own fit go g q pq = node_good C laws (limit s n) key below k own fit go (g none tt) q pq
  unary-walk laws (aggregate gs vs) key below k own fit go g q pq = node_good C laws (aggregate gs vs) key below k own fit go (g none tt) q pq
  unary-walk laws (window ws) key below k own fit go g q pq = node_good C laws (window ws) key below k own fit go (g none tt) q pq
  unary-walk laws (subquery_alias x) key below k own fit go g q pq = node_good C laws (subquery_alias x) key below k own fit go (g none tt) q pq
  unary-walk laws distinct key below k own fit go g q pq = node_good C laws distinct key below k own fit go (g none tt) q pq

  -- ── plans ─────────────────────────────────────────────────────────────────────────────────

  pub walk_good : FitCatalogue C → (p : Plan) → Accepted C p → FitPlan C p → (q : Option (List Item)) → Pending C.version (fields_of C p) q → Good C (pending_fields (fields_of C p) q) (walk (merge_step house m) C p q)
  unfolding walk fields_of Accepted FitPlan
  walk_good k (leaf h) o fit q pq = pend_good C q pq _ (leaf_good C k h o fit)
  walk_good k (unary h p) o fit q pq =
      unary-walk (sound k.version_is) h (key_of C p) (plan-fields C k p o.0 fit.1) o.1.resolved (record { few = o.1.few; distinct = o.1.distinct; pairs = unary-pairs C.version h fit.0 (fields_of C p) (field-pairs C k p fit.1) }) fit.0 _
      (λ q pq. walk_good k p o.0 fit.1 q pq) q pq
  walk_good k (binary h p₁ p₂) o fit q pq =
      pend_good C q pq _
      (binary_good C (sound k.version_is) h (plan-fields C k p₁ o.0 fit.1) (plan-fields C k p₂ o.1 fit.2) o.2 fit.0 _ _ (λ b R f. walk_good k p₁ o.0 fit.1 none tt b R f) (λ b R f. walk_good k p₂ o.1 fit.2 none tt b R f))
