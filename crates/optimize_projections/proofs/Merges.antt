-- A projection on its way down: what is known of its list, and what a step of merging says of the walk. Assumes nothing.
use mathlib.Core.Path.{◌≡◌, refl, sym, ap, subst, subst⁻¹, ◌∙◌}
use mathlib.Core.Logic.{inl}
use mathlib.Core.Bool.{Bool, true, false, ◌||◌}
use mathlib.Core.List.{List, map}
use mathlib.Core.Option.{Option, none, some}
use Prim.Native.Nat.{ℕ, ◌+◌, ◌<◌, ◌≤◌}
use native.Mathlib.Omega.{arith}
use borrow.Author.Tests.{le-ltb}
use lib.ListN.{length, length-map}
use Rattle.cpl.specs.Accept.{each_passes}
use Rattle.cpl.specs.Exprs.{item_tags, plan_tags, unary_exprs, unary_tags}
use Rattle.cpl.specs.Fields.{fields_of, unary_fields}
use Rattle.cpl.specs.Limits.{Version, max_tags}
use Rattle.cpl.specs.Lists.{Fit}
use Rattle.cpl.specs.Plan.{Catalogue, Item, Pair, Plan, Unary, projection, filter, sort, limit, aggregate, window, subquery_alias, distinct, item_expr, item_pair, unary}
use Rattle.cpl.specs.ReadPlan.{Head, h0, h1, h2}
use Rattle.cpl.specs.Tests.{sum_of}
use Rattle.cpl.specs.Writable.{FitList, FitPlan, FitUnary}
use Rattle.cpl.specs.Accepted.{Accepted, Resolved}
use Rattle.cpl.proofs.Lists.{Fit-length, length-Fit}
use Rattle.versions.proofs.Small.{small}
use Rattle.rules.specs.Mask.{Mask}
use Rattle.rules.specs.Merge.{Merge, merge_step}
use Rattle.rules.specs.Rewrite as rules
use Rattle.rules.specs.Rewrite.{measured, merged, node_walk, pend, too_long, unary_walk, walk}
use Rattle.rules.specs.Items.{FieldsOk, Items}
use Rattle.rules.proofs.MergeTidy.{step, step-pairs}
use Rattle.rules.proofs.Results.{merged_items, plan-fields}
use Rattle.required_indices.specs.Request.{flag_of}
use Rattle.required_indices.specs.declared.RequiredIndices.{RequiredIndices}
use Rattle.arena.specs.Rows.{RowsOk, items_at}
use Rattle.arena.proofs.Same.{items-length}
use Rattle.tree.specs.Node.{node_at}
use Rattle.tree.specs.Shows.{Shows, Stands}
use Rattle.tree.specs.Tree.{Arrays, head_of, lent, plan_at, right_of}
use Rattle.tree.specs.declared.Node.{Node}
use Rattle.tree.specs.declared.Node.TheVariants.{Projection, Filter, Sort, Limit, Aggregate, Window, SubqueryAlias, Union, Distinct, Join, Scan, Empty}
use Rattle.tree.proofs.Plans.{taken}
use Rattle.lookup.specs.Standing.{Standing}
use Rattle.result.specs.Result.{Results}
use Rattle.merge.specs.Step as merge
use Rattle.jobs.specs.Asked.{Other}
use Rattle.jobs.specs.Job.{NoProjection}
use Rattle.walk_steps.specs.Steps.{ListOk, pending_items}
use Rattle.walk_steps.specs.declared.Pending.{Pending}
use Rattle.walk_steps.specs.declared.Used.{Used}
use Rattle.std.proofs.Common.{Result, Err}
use Rattle.arena.specs.declared.Full.{Full}
use Rattle.walk_steps.specs.declared.Walked.{Walked}
use Rattle.optimize_projections.specs.Walk.{After, Before, BeforeList, ListAfter, PutAfter, WalkIs, merge_by}
use Rattle.optimize_projections.specs.declared.Settings.{Settings}

-- a list that can be put is no longer than its version allows
pub items-few : {v : Version} {fs : List Pair} {js : List Item} → Items v fs js → length js ≤ v.max_items
unfolding FitList
items-few i = i.fit.0

-- ── node k is a projection ──────────────────────────────────────────────────────────────────

module _ {cells rows nodes fields widths : List ℕ} (z : Standing cells rows nodes fields widths) (k : ℕ) (l : k < z.count) (first n : ℕ) (e : Projection first n ≡ node_at nodes k) where
  abbrev a : Arrays
  a = lent cells rows nodes

  abbrev lower : List Item
  lower = items_at rows cells first n

  shown : Shows a z.count k (Projection first n)
  shown = (taken e).shows z.C cells rows z.count z.tree l

  pub lower_rows : RowsOk rows cells first n
  lower_rows = shown.1

  pub lower_plan : plan_at a k ≡ unary (projection (items_at rows cells first n)) (plan_at a (k + 1))
  lower_plan = shown.0.plan

  pub lower_below : k + 1 < z.count
  lower_below = shown.0.below

  pub lower_pairs : map item_pair (items_at rows cells first n) ≡ fields_of z.C (plan_at a k)
  unfolding fields_of unary_fields
  lower_pairs = sym (ap (fields_of z.C) lower_plan)

  pub lower_tags : sum_of item_tags (items_at rows cells first n) ≤ max_tags
  unfolding plan_tags unary_tags
  lower_tags = let t : plan_tags (unary (projection lower) (plan_at a (k + 1))) ≤ max_tags = subst (λ (p : Plan). plan_tags p ≤ max_tags) lower_plan (z.tree.each k l).tags in omega arith

  lower_fit : FitPlan z.C (unary (projection lower) (plan_at a (k + 1)))
  lower_fit = subst (FitPlan z.C) lower_plan (z.tree.each k l).fit

  lower_accepted : Accepted z.C (unary (projection lower) (plan_at a (k + 1)))
  lower_accepted = subst (Accepted z.C) lower_plan (z.accepted k l)

  pub lower_items : Items z.C.version (fields_of z.C (plan_at a (k + 1))) (items_at rows cells first n)
  unfolding Accepted FitPlan FitUnary unary_exprs
  lower_items =
      record {
        resolved = lower_accepted.1.resolved;
        own = subst⁻¹ (FieldsOk z.C.version) lower_pairs (plan-fields z.C z.tables (plan_at a k) (z.accepted k l) (z.tree.each k l).fit);
        fit = lower_fit.0;
      }

  -- a list over node k reads its items
  pub lower_reads : {js : List Item} → Items z.C.version (fields_of z.C (plan_at a k)) js → merge.Reads js (items_at rows cells first n)
  lower_reads {js} i = record { clear = lower_items.own.distinct; resolved = subst⁻¹ (λ (fs : List Pair). Resolved (each_passes (map item_expr js) fs)) lower_pairs i.resolved }

  pub lower_few : n ≤ 512
  lower_few = omega (arith, items-few lower_items, items-length rows cells first n, (small z.tables.version_is).items-small)

-- ── from a projection with nothing pending ──────────────────────────────────────────────────

-- the list of node k, where it stands in the file
abbrev pub filed : (k first n : ℕ) → Pending
filed k first n = record { top = k; first = first; n = n; scratch = false }

pub fit-pairs : {R : Mask} (js : List Item) {fs : List Pair} → map item_pair js ≡ fs → Fit R fs → Fit R js
fit-pairs {R} js e f = length-Fit R js (Fit-length f ∙ ap length (sym e) ∙ length-map js item_pair)

module _ {cells rows nodes fields widths keys : List ℕ} (arows acells : List ℕ) {r : Results} {k : ℕ} {request : RequiredIndices} {u : Used} (first n : ℕ) (e : Projection first n ≡ node_at nodes k) where
  abbrev pub file_list : Before cells rows nodes fields widths keys r k request u → BeforeList cells rows nodes fields widths keys arows acells r (k + 1) (filed k first n) request u
  file_list b =
      record {
        standing = b.standing;
        keyed = b.keyed;
        within = lower_below b.standing k b.within first n e;
        ready = b.ready;
        list = record { rows_ok = lower_rows b.standing k b.within first n e; tags = lower_tags b.standing k b.within first n e; few = lower_few b.standing k b.within first n e };
        items = lower_items b.standing k b.within first n e;
        top = b.within;
        pairs = lower_pairs b.standing k b.within first n e;
        R = b.R;
        fit = fit-pairs (items_at rows cells first n) (lower_pairs b.standing k b.within first n e) b.fit;
        asks = b.asks;
      }

  load_walk : (M : Merge) (b : Before cells rows nodes fields widths keys r k request u) →
      walk M b.standing.C (plan_at (lent cells rows nodes) k) none (flag_of request) b.R
      ≡ walk M b.standing.C (plan_at (lent cells rows nodes) (k + 1)) (some (items_at rows cells first n)) (flag_of request) b.R
  unfolding walk unary_walk
  load_walk M b = ap (λ (p : Plan). walk M b.standing.C p none (flag_of request) b.R) (lower_plan b.standing k b.within first n e)

  pub load_after : {s : Settings} {r' : Results} {w : Result Walked Full} → ListAfter s cells rows nodes fields widths keys arows acells r r' (k + 1) (filed k first n) request u w
      → After s cells rows nodes fields widths keys r r' k request u w
  load_after {s} {r'} {w} x = record {
    is = λ b. subst (λ (v : rules.Walked). WalkIs b.standing.C (lent cells rows nodes) b.standing.count r r' u v w) (sym (load_walk (merge_by s) b)) (x.is (file_list b));
  }

-- ── no step ─────────────────────────────────────────────────────────────────────────────────

abbrev pub HeadOther : Head → Type 0
HeadOther (h0 h) = Unit {0}
HeadOther (h1 h) = NoProjection h
HeadOther (h2 h) = Unit {0}

other-head : (a : Arrays) (n : Node) → Other n → HeadOther (head_of a n)
other-head a (Projection f n) o = absurd o
other-head a (Filter r) o = tt
other-head a (Sort f n) o = tt
other-head a (Limit s n) o = tt
other-head a (Aggregate f g v) o = tt
other-head a (Window f n) o = tt
other-head a (SubqueryAlias q) o = tt
other-head a (Union r) o = tt
other-head a Distinct o = tt
other-head a (Join j) o = tt
other-head a (Scan s) o = tt
other-head a (Empty b f n) o = tt

module _ (M : Merge) (C : Catalogue) (js : List Item) (b : Bool) (R : Mask) where
  -- the list is put over the plan as it is
  abbrev pub Over : Plan → Type 0
  Over p = walk M C p (some js) b R ≡ pend C (some js) (fields_of C p) (walk M C p none) b R

  over-unary : (h : Unary) → NoProjection h → (p : Plan) → Over (unary h p)
  unfolding walk unary_walk node_walk pend fields_of
  over-unary (projection is) o p = absurd o
  over-unary (filter e) o p = refl
  over-unary (sort ks) o p = refl
  over-unary (limit s n) o p = refl
  over-unary (aggregate gs vs) o p = refl
  over-unary (window ws) o p = refl
  over-unary (subquery_alias q) o p = refl
  over-unary distinct o p = refl

  over-head : (a : Arrays) (count k right : ℕ) (h : Head) → HeadOther h → Stands a count k right h → Over (plan_at a k)
  unfolding walk pend fields_of
  over-head a count k right (h0 h) o x = subst⁻¹ Over x refl
  over-head a count k right (h1 h) o x = subst⁻¹ Over x.plan (over-unary h o (plan_at a (k + 1)))
  over-head a count k right (h2 h) o x = subst⁻¹ Over x.plan refl

  over-other : (cells rows nodes : List ℕ) (count k : ℕ) (n : Node) → Other n → Shows (lent cells rows nodes) count k n → Over (plan_at (lent cells rows nodes) k)
  over-other cells rows nodes count k n o x = over-head (lent cells rows nodes) count k (right_of n) (head_of (lent cells rows nodes) n) (other-head (lent cells rows nodes) n o) x.0

  -- a step that stops, and one that makes a list
  over_stop : (is : List Item) → M js is ≡ none → (p : Plan) → Over (unary (projection is) p)
  unfolding walk unary_walk fields_of unary_fields merged
  over_stop is e p = ap (λ (o : Option (List Item)). merged o (λ ks. walk M C p (some ks)) (pend C (some js) (map item_pair is) (walk M C p (some is))) b R) e

  step-walk : (is ks : List Item) → M js is ≡ some ks → (p : Plan) → walk M C (unary (projection is) p) (some js) b R ≡ measured ks (walk M C p (some ks) b R)
  unfolding walk unary_walk merged
  step-walk is ks e p = ap (λ (o : Option (List Item)). merged o (λ ks. walk M C p (some ks)) (pend C (some js) (map item_pair is) (walk M C p (some is))) b R) e

  short_walk : (is ks : List Item) → M js is ≡ some ks → sum_of item_tags ks ≤ max_tags → (p : Plan) → walk M C (unary (projection is) p) (some js) b R ≡ walk M C p (some ks) b R
  unfolding measured too_long
  short_walk is ks e t p =
      step-walk is ks e p
      ∙ ap (λ (o : Bool). record { plan = (walk M C p (some ks) b R).plan; kept = (walk M C p (some ks) b R).kept; overlong = o || (walk M C p (some ks) b R).overlong }) (le-ltb max_tags (sum_of item_tags ks) t)

  long-walk : (is ks : List Item) → M js is ≡ some ks → too_long ks ≡ true → (p : Plan) → (walk M C (unary (projection is) p) (some js) b R).overlong ≡ true
  unfolding measured
  long-walk is ks e t p = ap (λ (w : rules.Walked). w.overlong) (step-walk is ks e p) ∙ ap (λ (o : Bool). o || (walk M C p (some ks) b R).overlong) t

-- ── a pending list at node k ────────────────────────────────────────────────────────────────

-- the merged list, at the front of the scratch arrays
abbrev pub merged_list : Pending → Pending
merged_list l = record { top = l.top; first = 0; n = l.n; scratch = true }

module _ (s : Settings) {cells rows nodes fields widths keys arows acells : List ℕ} {r : Results} {k : ℕ} {l : Pending} {request : RequiredIndices} {u : Used} where
  -- what is said of the list put over the plan as it is, is said of the pending list
  over-after : ((b : BeforeList cells rows nodes fields widths keys arows acells r k l request u) →
      Over (merge_by s) b.standing.C (pending_items l rows cells arows acells) (flag_of request) b.R (plan_at (lent cells rows nodes) k))
      → {r' : Results} {w : Result Walked Full} → PutAfter s cells rows nodes fields widths keys arows acells r r' k l request u w → ListAfter s cells rows nodes fields widths keys arows acells r r' k l request u w
  over-after e {r'} {w} x = record { is = λ b. subst (λ (v : rules.Walked). WalkIs b.standing.C (lent cells rows nodes) b.standing.count r r' u v w) (sym (e b)) (x.is b) }

  pub other_after : {n : Node} → n ≡ node_at nodes k → Other n → {r' : Results} {w : Result Walked Full} → PutAfter s cells rows nodes fields widths keys arows acells r r' k l request u w
      → ListAfter s cells rows nodes fields widths keys arows acells r r' k l request u w
  other_after {n} e o =
      over-after (λ b. over-other (merge_by s) b.standing.C (pending_items l rows cells arows acells) (flag_of request) b.R cells rows nodes b.standing.count k n o ((taken e).shows b.standing.C cells rows b.standing.count b.standing.tree b.within))

  -- ── node k is a projection ────────────────────────────────────────────────────────────────

  module _ (first n : ℕ) (e : Projection first n ≡ node_at nodes k) where
    pub stop_after : merge_step s.house s.mask (pending_items l rows cells arows acells) (items_at rows cells first n) ≡ none
        → {r' : Results} {w : Result Walked Full} → PutAfter s cells rows nodes fields widths keys arows acells r r' k l request u w → ListAfter s cells rows nodes fields widths keys arows acells r r' k l request u w
    stop_after q =
        over-after (λ b.
        subst⁻¹ (Over (merge_by s) b.standing.C (pending_items l rows cells arows acells) (flag_of request) b.R) (lower_plan b.standing k b.within first n e)
        (over_stop (merge_by s) b.standing.C (pending_items l rows cells arows acells) (flag_of request) b.R (items_at rows cells first n) q (plan_at (lent cells rows nodes) (k + 1))))

    pub over-large : merge.Over s.house s.mask (pending_items l rows cells arows acells) (items_at rows cells first n) → {h : Full} {r' : Results}
        → ListAfter s cells rows nodes fields widths keys arows acells r r' k l request u (Err h)
    over-large o {h} {r'} = record {
      is = λ b.
          inl (ap (λ (p : Plan). (walk (merge_by s) b.standing.C p (some (pending_items l rows cells arows acells)) (flag_of request) b.R).overlong) (lower_plan b.standing k b.within first n e)
          ∙ long-walk (merge_by s) b.standing.C (pending_items l rows cells arows acells) (flag_of request) b.R (items_at rows cells first n) o.list o.step o.long (plan_at (lent cells rows nodes) (k + 1)));
    }

    -- the list ks goes on down, standing as l' says
    module _ (l' : Pending) (arows' acells' : List ℕ) (q : merge_step s.house s.mask (pending_items l rows cells arows acells) (items_at rows cells first n) ≡ some (pending_items l' rows cells arows' acells'))
        (top : l'.top ≡ l.top) (ok : ListOk l' rows cells arows' acells') where
      abbrev pub down_before : BeforeList cells rows nodes fields widths keys arows acells r k l request u → BeforeList cells rows nodes fields widths keys arows' acells' r (k + 1) l' request u
      down_before b =
          let i = step s.house s.mask (pending_items l rows cells arows acells) (items_at rows cells first n) (pending_items l' rows cells arows' acells') q in
          record {
            standing = b.standing;
            keyed = b.keyed;
            within = lower_below b.standing k b.within first n e;
            ready = b.ready;
            list = ok;
            items = merged_items (subst⁻¹ (λ (fs : List Pair). Items b.standing.C.version fs (pending_items l rows cells arows acells)) (lower_pairs b.standing k b.within first n e) b.items) (lower_items b.standing k b.within first n e) i;
            top = subst⁻¹ (λ (t : ℕ). t < b.standing.count) top b.top;
            pairs = step-pairs i ∙ b.pairs ∙ ap (λ (t : ℕ). fields_of b.standing.C (plan_at (lent cells rows nodes) t)) (sym top);
            R = b.R;
            fit = fit-pairs (pending_items l' rows cells arows' acells') (step-pairs i) (length-Fit b.R _ (Fit-length b.fit ∙ sym (length-map (pending_items l rows cells arows acells) item_pair)));
            asks = b.asks;
          }

      pub down_after : {r' : Results} {w : Result Walked Full} → ListAfter s cells rows nodes fields widths keys arows' acells' r r' (k + 1) l' request u w
          → ListAfter s cells rows nodes fields widths keys arows acells r r' k l request u w
      down_after {r'} {w} x = record {
        is = λ b.
            subst⁻¹ (λ (v : rules.Walked). WalkIs b.standing.C (lent cells rows nodes) b.standing.count r r' u v w)
            (ap (λ (p : Plan). walk (merge_by s) b.standing.C p (some (pending_items l rows cells arows acells)) (flag_of request) b.R) (lower_plan b.standing k b.within first n e)
            ∙ short_walk (merge_by s) b.standing.C (pending_items l rows cells arows acells) (flag_of request) b.R (items_at rows cells first n) (pending_items l' rows cells arows' acells') q ok.tags (plan_at (lent cells rows nodes) (k + 1)))
            (x.is (down_before b));
      }
