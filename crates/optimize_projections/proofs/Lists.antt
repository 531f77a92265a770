-- The pending list over node k: its items at the request, over the node asked for the columns they use. Assumes nothing.
use mathlib.Core.Path.{◌≡◌, refl, sym, ap, subst, subst⁻¹, ◌∙◌}
use mathlib.Core.Logic.{inl, inr, ⊎_elim}
use mathlib.Core.Bool.{Bool, false}
use mathlib.Core.List.{List, [], ◌∷◌, map}
use mathlib.Core.Option.{none, some}
use Prim.Native.Nat.{ℕ, ◌+◌, ◌*◌, ◌^◌, ◌<◌, ◌≤◌}
use native.Mathlib.Omega.{arith}
use lib.ListN.{length, length-map}
use Rattle.cpl.specs.Exprs.{expr_tags, item_tags, plan_tags, unary_tags}
use Rattle.cpl.specs.Fields.{fields_of}
use Rattle.cpl.specs.Lists.{Fit}
use Rattle.cpl.specs.Plan.{Catalogue, Item, Pair, Plan, bare, named, item_expr, item_pair}
use Rattle.cpl.specs.Tests.{all_b, sum_of}
use Rattle.cpl.proofs.Lists.{Fit-length}
use Rattle.rules.specs.Mask.{Mask, select}
use Rattle.rules.specs.Rules.{over_child, projection_job, used}
use Rattle.rules.specs.Rewrite as rules
use Rattle.rules.specs.Rewrite.{Go, input, pend, run_job, walk}
use Rattle.rules.proofs.Asked.{used-fit}
use Rattle.rules.proofs.Masks.{select_short}
use Rattle.required_indices.specs.Request.{Asks, flag_of, set_of}
use Rattle.required_indices.specs.declared.RequiredIndices.{RequiredIndices}
use Rattle.arena.specs.Kept.{Kept}
use Rattle.arena.proofs.Kept.{kept_refl}
use Rattle.arena.proofs.Same.{items-length}
use Rattle.arena_build.specs.Lists.{nodes_of}
use Rattle.tree.specs.Tree.{Arrays, lent, plan_at}
use Rattle.lookup.specs.Fields.{first_at, row_at, width_at}
use Rattle.lookup.specs.Standing.{Standing}
use Rattle.lookup.proofs.Standing.{row_in, row_is, row-long}
use Rattle.result.specs.Result.{Results}
use Rattle.result.specs.Records.{Grown, WfResults, results}
use Rattle.result.proofs.Grow.{wf-grown, wf-more}
use Rattle.projections.specs.Lists.{FieldsIn, is_bare}
use Rattle.projections.specs.Tops.{Held, ListIs}
use Rattle.projections.specs.declared.Selection.{Selection}
use Rattle.projections.specs.declared.Selection.TheVariants as selection
use Rattle.projections.proofs.Tops.{copies_held, held_grown, held_more, items_kept, named_differ, select_sum}
use Rattle.walk_steps.specs.Steps.{FieldsFor, ListPut, Picked, PickedIs, Putting, SelectionIs, kept_pending, pending_items, side}
use Rattle.walk_steps.specs.declared.Chosen.{Chosen}
use Rattle.walk_steps.specs.declared.Pending.{Pending}
use Rattle.walk_steps.specs.declared.Used.{Used}
use Rattle.std.proofs.Common.{Result, Ok, Err}
use Rattle.arena.specs.declared.Full.{Full}
use Rattle.walk_steps.specs.declared.Walked.{Walked}
use Rattle.optimize_projections.specs.Walk.{After, Before, BeforeList, More, PutAfter, Ready, Stands, TooLarge, WalkIs, merge_by}
use Rattle.optimize_projections.specs.declared.Settings.{Settings}
use Rattle.optimize_projections.proofs.Ends.{based, child_nodes, child_tags, grown-refl, more-refl, over-walk}
use Rattle.optimize_projections.proofs.Inputs.{narrowed, node_good, node_kept}
use Rattle.optimize_projections.proofs.Merges.{items-few}

-- ── a request of some fields of a node ──────────────────────────────────────────────────────

module _ {cells rows nodes fields widths : List ℕ} (z : Standing cells rows nodes fields widths) (j : ℕ) (l : j < z.count) where
  pub fields_in : {r : RequiredIndices} {R : Mask} → Asks r R → length R ≡ length (fields_of z.C (plan_at (lent cells rows nodes) j)) → FieldsIn fields (first_at widths j) (width_at widths j) r
  fields_in {r} x e = record { inside = row_in z j l refl refl; within = subst (λ (n : ℕ). set_of r < 2 ^ n) (e ∙ sym (row-long z j l refl refl)) x.within }

-- ── a request of items of the list ──────────────────────────────────────────────────────────

module _ {cells rows nodes fields widths keys arows acells : List ℕ} {r : Results} {k : ℕ} {l : Pending} {request : RequiredIndices} {u : Used}
    (b : BeforeList cells rows nodes fields widths keys arows acells r k l request u) where
  pub request_within : set_of request < 2 ^ l.n
  request_within =
      subst (λ (n : ℕ). set_of request < 2 ^ n) (Fit-length b.fit ∙ items-length (side l.scratch arows rows) (side l.scratch acells cells) l.first l.n) b.asks.within

  pub top-fields : FieldsIn fields (first_at widths l.top) (width_at widths l.top) request
  top-fields = fields_in b.standing l.top b.top b.asks (Fit-length b.fit ∙ sym (length-map (pending_items l rows cells arows acells) item_pair) ∙ ap length b.pairs)

-- ── kept items ──────────────────────────────────────────────────────────────────────────────

item-nodes : (i : Item) → expr_tags (item_expr i) ≤ item_tags i
unfolding item_tags expr_tags item_expr
item-nodes (bare c) = omega arith
item-nodes (named c e) = omega arith

nodes-tags : (js : List Item) → nodes_of js ≤ sum_of item_tags js
unfolding nodes_of sum_of
nodes-tags [] = omega arith
nodes-tags (j ∷ js) = omega (arith, item-nodes j, nodes-tags js)

-- items that are not all bare are put
named-tags : (C : Catalogue) (js : List Item) (p : Plan) → all_b is_bare js ≡ false → plan_tags (over_child C js p) ≡ sum_of item_tags js + plan_tags p
unfolding over_child plan_tags unary_tags
named-tags C js p e = rw (named_differ js (fields_of C p) e) refl

-- the rules' plan: the kept items over the input asked for the columns they use
pend-is : (C : Catalogue) (js : List Item) (fs : List Pair) (go : Go) (b : Bool) (R : Mask) →
    pend C (some js) fs go b R
    ≡ record { plan = over_child C (select R js) (go false (used (map item_expr (select R js)) fs)).plan; kept = R; overlong = (go false (used (map item_expr (select R js)) fs)).overlong }
unfolding pend run_job projection_job input
pend-is C js fs go b R = refl

-- ── the items copied, where they are not all bare ───────────────────────────────────────────

module _ {C : Catalogue} {a : Arrays} {count : ℕ} {s items cells : List ℕ} {u : Used} (y : Ready C a count (results s items cells) u) (js : List Item) (items₁ cells₁ : List ℕ) (u₁ : Used) where
  taken_more : (t : Selection) → SelectionIs js u items cells items₁ cells₁ u₁ t → More u u₁
  taken_more selection.Columns d = rw d.1 (more-refl u)
  taken_more (selection.Items row n) d =
      let e₁ = ap (λ (v : Used). v.records) d.2 in
      let e₂ = ap (λ (v : Used). v.rows) d.2 in
      record { records = omega arith; rows = omega (arith, d.1); cells = omega (arith, d.3.listing.grown) }

  taken-records : (t : Selection) → SelectionIs js u items cells items₁ cells₁ u₁ t → u₁.records ≡ u.records
  taken-records selection.Columns d = ap (λ (v : Used). v.records) d.1
  taken-records (selection.Items row n) d = ap (λ (v : Used). v.records) d.2

  taken-grown : (t : Selection) → SelectionIs js u items cells items₁ cells₁ u₁ t → Grown u.records u.rows u.cells (results s items cells) (results s items₁ cells₁)
  taken-grown selection.Columns d = rw (d.2, d.3) (grown-refl u.records u.rows u.cells (results s items cells))
  taken-grown (selection.Items row n) d =
      record { records = kept_refl _ s; items = subst (λ (x : ℕ). Kept (x * 4) items items₁) d.1 d.3.listing.rows_kept; cells = d.3.listing.kept }

  pub taken-ready : (t : Selection) → SelectionIs js u items cells items₁ cells₁ u₁ t → Ready C a count (results s items₁ cells₁) u₁
  taken-ready selection.Columns d = rw (d.1, d.2, d.3) y
  taken-ready (selection.Items row n) d =
      let m = taken_more (selection.Items row n) d in
      let g = taken-grown (selection.Items row n) d in
      let e₁ = taken-records (selection.Items row n) d in
      let e₂ = ap (λ (v : Used). v.rows) d.2 in
      record {
        wf = subst⁻¹ (λ (x : ℕ). WfResults C a count (results s items₁ cells₁) x u₁.rows u₁.cells) e₁ (wf-more u₁.rows u₁.cells m.rows m.cells (wf-grown C a count u.records u.rows u.cells g y.wf));
        records_long = y.records_long;
        cells_long = omega (arith, y.cells_long, g.cells.long);
        room = record {
          behind = omega (arith, d.3.behind);
          rows_fit = rw (g.items.long, g.cells.long) y.room.rows_fit;
          few = omega (arith, y.room.few, g.cells.long);
          wf = d.3.listing.wf;
        };
      }

  -- the cells that were taken are among the tags of the projection
  taken-cells : (t : Selection) → SelectionIs js u items cells items₁ cells₁ u₁ t → (D : Catalogue) (p : Plan) → u₁.cells + plan_tags p ≤ u.cells + plan_tags (over_child D js p)
  taken-cells selection.Columns d D p = omega (arith, ap (λ (v : Used). v.cells) d.1, child_tags D js p)
  taken-cells (selection.Items row n) d D p = omega (arith, d.3.listing.grown, nodes-tags js, named-tags D js p d.0)

-- what is too large behind the copied items is too large with them
shift : (v u : Used) (o : Bool) (n n' t t' : ℕ) → v.records ≡ u.records → v.cells + t ≤ u.cells + t' → n ≤ n' → TooLarge v o n t → TooLarge u o n' t'
shift v u o n n' t t' e f g x = ⊎_elim (λ d. inl d) (λ y. ⊎_elim (λ d. inr (inl (omega arith))) (λ d. inr (inr (omega arith))) y) x

-- ── the list over node k ────────────────────────────────────────────────────────────────────

module _ {cells rows nodes fields widths keys arows acells sr items icells : List ℕ} {k : ℕ} {l : Pending} {request : RequiredIndices} {u : Used} (items₁ icells₁ : List ℕ) where
  module _ (b : BeforeList cells rows nodes fields widths keys arows acells (results sr items icells) k l request u) where
    -- the request's items
    kept_is : kept_pending l request rows cells arows acells ≡ select b.R (pending_items l rows cells arows acells)
    kept_is = items_kept (side l.scratch arows rows) (side l.scratch acells cells) l.first l.n b.asks b.fit

  module _ (s : Settings) where
    -- the rules' plan of the list
    abbrev list_walk : BeforeList cells rows nodes fields widths keys arows acells (results sr items icells) k l request u → rules.Walked
    list_walk b =
        pend b.standing.C (some (pending_items l rows cells arows acells)) (fields_of b.standing.C (plan_at (lent cells rows nodes) k)) (walk (merge_by s) b.standing.C (plan_at (lent cells rows nodes) k) none) (flag_of request)
        b.R

    -- and of the node beneath it
    abbrev node_walk : BeforeList cells rows nodes fields widths keys arows acells (results sr items icells) k l request u → rules.Walked
    node_walk b =
        walk (merge_by s) b.standing.C (plan_at (lent cells rows nodes) k) none false
        (used (map item_expr (select b.R (pending_items l rows cells arows acells))) (fields_of b.standing.C (plan_at (lent cells rows nodes) k)))

    list-walk : (b : BeforeList cells rows nodes fields widths keys arows acells (results sr items icells) k l request u) →
        list_walk b ≡ record { plan = over_child b.standing.C (select b.R (pending_items l rows cells arows acells)) (node_walk b).plan; kept = b.R; overlong = (node_walk b).overlong }
    list-walk b =
        pend-is b.standing.C (pending_items l rows cells arows acells) (fields_of b.standing.C (plan_at (lent cells rows nodes) k)) (walk (merge_by s) b.standing.C (plan_at (lent cells rows nodes) k) none)
        (flag_of request) b.R

    -- there was no room for the items
    pub copies_large : {g h : Full} → Picked (kept_pending l request rows cells arows acells) (row_at fields (first_at widths k) (width_at widths k)) u items icells items₁ icells₁ (Err g) → {r' : Results}
        → PutAfter s cells rows nodes fields widths keys arows acells (results sr items icells) r' k l request u (Err h)
    copies_large {g} {h} q {r'} = record {
      is = λ b.
          let ks : List Item = select b.R (pending_items l rows cells arows acells) in
          let t : Picked ks (row_at fields (first_at widths k) (width_at widths k)) u items icells items₁ icells₁ (Err g) =
          subst (λ (js : List Item). Picked js (row_at fields (first_at widths k) (width_at widths k)) u items icells items₁ icells₁ (Err g)) (kept_is b) q in
          subst⁻¹ (λ (v : rules.Walked). WalkIs b.standing.C (lent cells rows nodes) b.standing.count (results sr items icells) r' u v (Err h)) (list-walk b)
          (inr (inr (omega (arith, t.1, nodes-tags ks, named-tags b.standing.C ks (node_walk b).plan t.0, b.ready.cells_long))));
    }

  module _ (c : Chosen) (q : PickedIs (kept_pending l request rows cells arows acells) (row_at fields (first_at widths k) (width_at widths k)) u items icells items₁ icells₁ c) where
    module _ (b : BeforeList cells rows nodes fields widths keys arows acells (results sr items icells) k l request u) where
      abbrev Q : Mask
      Q = used (map item_expr (select b.R (pending_items l rows cells arows acells))) (fields_of b.standing.C (plan_at (lent cells rows nodes) k))

      pub asks_q : Asks c.ask Q
      asks_q =
          subst (λ (gs : List Pair). Asks c.ask (used (map item_expr (select b.R (pending_items l rows cells arows acells))) gs)) (row_is b.standing k b.within refl refl)
          (subst (λ (ks : List Item). Asks c.ask (used (map item_expr ks) (row_at fields (first_at widths k) (width_at widths k)))) (kept_is b) q.asks)

      pub chosen : SelectionIs (select b.R (pending_items l rows cells arows acells)) u items icells items₁ icells₁ c.used c.list
      chosen = subst (λ (ks : List Item). SelectionIs ks u items icells items₁ icells₁ c.used c.list) (kept_is b) q.taken

      abbrev pub input-before : Before cells rows nodes fields widths keys (results sr items₁ icells₁) k c.ask c.used
      input-before =
          record {
            standing = b.standing;
            keyed = b.keyed;
            within = b.within;
            ready = taken-ready b.ready (select b.R (pending_items l rows cells arows acells)) items₁ icells₁ c.used c.list chosen;
            R = used (map item_expr (select b.R (pending_items l rows cells arows acells))) (fields_of b.standing.C (plan_at (lent cells rows nodes) k));
            fit = used-fit (map item_expr (select b.R (pending_items l rows cells arows acells))) (fields_of b.standing.C (plan_at (lent cells rows nodes) k));
            asks = asks_q;
          }

    module _ (s : Settings) where
      node_asked : {sr₂ items₂ icells₂ : List ℕ} {w : Result Walked Full} → After s cells rows nodes fields widths keys (results sr items₁ icells₁) (results sr₂ items₂ icells₂) k c.ask c.used w
          → (b : BeforeList cells rows nodes fields widths keys arows acells (results sr items icells) k l request u)
          → WalkIs b.standing.C (lent cells rows nodes) b.standing.count (results sr items₁ icells₁) (results sr₂ items₂ icells₂) c.used (node_walk s b) w
      node_asked {sr₂} {items₂} {icells₂} {w} x b =
          subst (λ (f : Bool).
          WalkIs b.standing.C (lent cells rows nodes) b.standing.count (results sr items₁ icells₁) (results sr₂ items₂ icells₂) c.used
          (walk (merge_by s) b.standing.C (plan_at (lent cells rows nodes) k) none f
          (used (map item_expr (select b.R (pending_items l rows cells arows acells))) (fields_of b.standing.C (plan_at (lent cells rows nodes) k)))) w) q.flag
          (x.is (input-before b))

      node-fit : (b : BeforeList cells rows nodes fields widths keys arows acells (results sr items icells) k l request u) → Fit (node_walk s b).kept (fields_of b.standing.C (plan_at (lent cells rows nodes) k))
      node-fit b = node_kept b.standing s k b.within false (used-fit (map item_expr (select b.R (pending_items l rows cells arows acells))) (fields_of b.standing.C (plan_at (lent cells rows nodes) k)))

      -- the node beneath is too large
      pub put_large : {sr₂ items₂ icells₂ : List ℕ} {g h : Full} → After s cells rows nodes fields widths keys (results sr items₁ icells₁) (results sr₂ items₂ icells₂) k c.ask c.used (Err g)
          → PutAfter s cells rows nodes fields widths keys arows acells (results sr items icells) (results sr₂ items₂ icells₂) k l request u (Err h)
      put_large {sr₂} {items₂} {icells₂} {g} {h} x = record {
        is = λ b.
            let ks : List Item = select b.R (pending_items l rows cells arows acells) in
            let m = taken-records b.ready ks items₁ icells₁ c.used c.list (chosen b) in
            let t = taken-cells b.ready ks items₁ icells₁ c.used c.list (chosen b) b.standing.C (node_walk s b).plan in
            subst⁻¹ (λ (p : rules.Walked). WalkIs b.standing.C (lent cells rows nodes) b.standing.count (results sr items icells) (results sr₂ items₂ icells₂) u p (Err h)) (list-walk s b)
            (shift c.used u (node_walk s b).overlong _ _ _ _ m t (child_nodes b.standing.C ks (node_walk s b).plan) (node_asked x b));
      }

      module _ {sr₂ items₂ icells₂ : List ℕ} {w : Walked} (x : After s cells rows nodes fields widths keys (results sr items₁ icells₁) (results sr₂ items₂ icells₂) k c.ask c.used (Ok w)) where
        pub list-fields : BeforeList cells rows nodes fields widths keys arows acells (results sr items icells) k l request u → FieldsIn fields (first_at widths k) (width_at widths k) w.kept
        list-fields b = fields_in b.standing k b.within (node_asked x b).1 (Fit-length (node-fit b))

        -- how the kept items are put
        list-is : (b : BeforeList cells rows nodes fields widths keys arows acells (results sr items icells) k l request u) (rec : ℕ) (n : Used)
            → Stands b.standing.C (lent cells rows nodes) b.standing.count (results sr items₁ icells₁) (results sr₂ items₂ icells₂) c.used (node_walk s b).plan rec n
            → (t : Selection) → SelectionIs (select b.R (pending_items l rows cells arows acells)) u items icells items₁ icells₁ c.used t
            → ListIs b.standing.C (lent cells rows nodes) b.standing.count (results sr₂ items₂ icells₂) n.rows n.cells fields l.top (first_at widths l.top) (width_at widths l.top) k (first_at widths k) (width_at widths k)
            (pending_items l rows cells arows acells) (select b.R (pending_items l rows cells arows acells)) t
        list-is b rec n y selection.Columns d =
            record { bare = d.0; node = b.top; fields_are = b.pairs; row = row_is b.standing l.top b.top refl refl; input_row = row_is b.standing k b.within refl refl }
        list-is b rec n y (selection.Items row m) d =
            let ks : List Item = select b.R (pending_items l rows cells arows acells) in
            let long : length (pending_items l rows cells arows acells) ≡ l.n = items-length (side l.scratch arows rows) (side l.scratch acells cells) l.first l.n in
            let e = ap (λ (v : Used). v.rows) d.2 in
            record {
              named = d.0;
              held =
                  held_more
                  (held_grown
                  (subst⁻¹ (λ (x : ℕ). Held b.standing.C.version (results sr items₁ icells₁) x c.used.cells row m ks) e
                  (copies_held b.standing.C.version sr d.3 (omega (arith, select_short b.R (pending_items l rows cells arows acells), items-few b.items)) (omega (arith, select_sum item_tags b.R (pending_items l rows cells arows acells), b.list.tags))))
                  y.grown)
                  n.rows n.cells y.more.rows y.more.cells;
            }

        pub put_after : {sr₃ : List ℕ} (v : Result Walked Full) → Putting sr₂ sr₃ c.list fields l.top (first_at widths l.top) (width_at widths l.top) request (first_at widths k) (width_at widths k) w v
            → PutAfter s cells rows nodes fields widths keys arows acells (results sr items icells) (results sr₃ items₂ icells₂) k l request u v
        put_after {sr₃} v p = record {
          is = λ b.
              let ks : List Item = select b.R (pending_items l rows cells arows acells) in
              let g = node_good b.standing s k b.within false (used-fit (map item_expr ks) (fields_of b.standing.C (plan_at (lent cells rows nodes) k))) in
              let y = node_asked x b in
              subst⁻¹ (λ (o : rules.Walked). WalkIs b.standing.C (lent cells rows nodes) b.standing.count (results sr items icells) (results sr₃ items₂ icells₂) u o v) (list-walk s b)
              (over-walk (based (taken_more b.ready ks items₁ icells₁ c.used c.list (chosen b)) (taken-records b.ready ks items₁ icells₁ c.used c.list (chosen b))
              (taken-grown b.ready ks items₁ icells₁ c.used c.list (chosen b)) y.0) sr₃ (over_child b.standing.C ks) p.t v
              (omega (arith, y.0.tags, taken-cells b.ready ks items₁ icells₁ c.used c.list (chosen b) b.standing.C (node_walk s b).plan)) b.asks y.2
              (p.on_top.covers b.standing.C (lent cells rows nodes) b.standing.count items₂ icells₂ w.used.rows w.used.cells k (node_walk s b).kept b.R (pending_items l rows cells arows acells)
              (narrowed (node_walk s b) y.0 b.within (node-fit b) g.kept.fields) y.1 b.asks b.fit (list-is b w.root w.used y.0 c.list (chosen b))) p.over);
        }

      module _ {sr₂ items₂ icells₂ : List ℕ} (w : Result Walked Full) (x : After s cells rows nodes fields widths keys (results sr items₁ icells₁) (results sr₂ items₂ icells₂) k c.ask c.used w) where
        pub input_fields : BeforeList cells rows nodes fields widths keys arows acells (results sr items icells) k l request u → FieldsFor fields (first_at widths k) (width_at widths k) w
        input_fields b = by w x
          where
            by : (v : Result Walked Full) → After s cells rows nodes fields widths keys (results sr items₁ icells₁) (results sr₂ items₂ icells₂) k c.ask c.used v → FieldsFor fields (first_at widths k) (width_at widths k) v
            by (Ok v) y = list-fields y b
            by (Err e) y = tt

        pub list_put : {sr₃ : List ℕ} (v : Result Walked Full) → ListPut sr₂ sr₃ c.list fields l.top (first_at widths l.top) (width_at widths l.top) request (first_at widths k) (width_at widths k) w v
            → PutAfter s cells rows nodes fields widths keys arows acells (results sr items icells) (results sr₃ items₂ icells₂) k l request u v
        list_put {sr₃} v p = by w x p
          where
            by : (z : Result Walked Full) → After s cells rows nodes fields widths keys (results sr items₁ icells₁) (results sr₂ items₂ icells₂) k c.ask c.used z
                → ListPut sr₂ sr₃ c.list fields l.top (first_at widths l.top) (width_at widths l.top) request (first_at widths k) (width_at widths k) z v
                → PutAfter s cells rows nodes fields widths keys arows acells (results sr items icells) (results sr₃ items₂ icells₂) k l request u v
            by (Ok z) y d = put_after y v d
            by (Err e) y d = rw (d.0, d.1) (put_large y)
