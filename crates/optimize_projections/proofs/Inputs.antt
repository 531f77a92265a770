-- An input asked and topped up; both inputs of a node. Assumes nothing.
use mathlib.Core.Path.{◌≡◌, refl, sym, ap, subst, ◌∙◌}
use mathlib.Core.Bool.{Bool, true, false, cond, ◌||◌}
use mathlib.Core.List.{List}
use mathlib.Core.Option.{none}
use Prim.Native.Nat.{ℕ, ◌+◌, ◌<◌}
use native.Mathlib.Omega.{arith}
use Rattle.cpl.specs.Exprs.{plan_nodes, plan_tags}
use Rattle.cpl.specs.Fields.{fields_of}
use Rattle.cpl.specs.Lists.{Fit}
use Rattle.cpl.specs.Plan.{Catalogue}
use Rattle.rules.specs.Mask.{Mask, select}
use Rattle.rules.specs.Rules.{top_up}
use Rattle.rules.specs.Rewrite as rules
use Rattle.rules.specs.Rewrite.{input, walk}
use Rattle.rules.proofs.Inputs.{Result}
use Rattle.rules.proofs.Masks.{LeM_fit}
use Rattle.rules.proofs.Results.{walk_good}
use Rattle.required_indices.specs.Request.{Asks, flag_of}
use Rattle.required_indices.specs.declared.RequiredIndices.{RequiredIndices}
use Rattle.std.specs.Prelude as std
use Rattle.std.proofs.Common.{Ok, Err}
use Rattle.arena.specs.declared.Full.{Full}
use Rattle.tree.specs.Tree.{Arrays, lent, plan_at}
use Rattle.lookup.specs.Standing.{Standing}
use Rattle.jobs.specs.declared.Job.{Job}
use Rattle.jobs.specs.declared.Todo.{Todo}
use Rattle.jobs.specs.declared.Todo.TheVariants as todos
use Rattle.result.specs.Result.{Results}
use Rattle.result.specs.Records.{results}
use Rattle.result.proofs.Grow.{result-grown}
use Rattle.projections.specs.Tops.{Narrowed}
use Rattle.walk_steps.specs.Steps.{ToppedIs}
use Rattle.walk_steps.specs.declared.Inputs.{Inputs}
use Rattle.walk_steps.specs.declared.Used.{Used}
use Rattle.walk_steps.specs.declared.Walked.{Walked}
use Rattle.optimize_projections.specs.Walk.{After, Before, BeforeInputs, InputAfter, InputAsked, InputsAfter, InputsAsked, InputsIs, NoInputs, Stands, TooLarge, TwoIs, WalkIs, input_walk, merge_by, one_walked}
use Rattle.optimize_projections.specs.declared.Settings.{Settings}
use Rattle.optimize_projections.proofs.Ends.{based, grown-refl, grown_trans, large-after, large_up, more-refl, more_trans, over-walk, top-nodes, top-tags}

-- ── the rules' plan of an accepted node ─────────────────────────────────────────────────────

module _ {cells rows nodes fields widths : List ℕ} (z : Standing cells rows nodes fields widths) (s : Settings) (k : ℕ) (l : k < z.count) (b : Bool) {R : Mask}
    (f : Fit R (fields_of z.C (plan_at (lent cells rows nodes) k))) where
  pub node_good : Result z.C (fields_of z.C (plan_at (lent cells rows nodes) k)) R (walk (merge_by s) z.C (plan_at (lent cells rows nodes) k) none b R)
  node_good = walk_good s.house s.mask z.C z.tables (plan_at (lent cells rows nodes) k) (z.accepted k l) (z.tree.each k l).fit none tt b R f

  pub node_kept : Fit (walk (merge_by s) z.C (plan_at (lent cells rows nodes) k) none b R).kept (fields_of z.C (plan_at (lent cells rows nodes) k))
  node_kept = LeM_fit node_good.kept.keeps f

-- a rewritten plan with its kept fields
pub narrowed : {C : Catalogue} {a : Arrays} {count : ℕ} {r r' : Results} {u v : Used} (w : rules.Walked) {rec k : ℕ} → Stands C a count r r' u w.plan rec v → k < count
    → Fit w.kept (fields_of C (plan_at a k)) → fields_of C w.plan ≡ select w.kept (fields_of C (plan_at a k)) → Narrowed C a count r' v.records v.rows v.cells rec k w.kept
narrowed {C} w x l f e = record { wf = x.ready.wf; below = x.below; node = l; fits = f; fields = ap (fields_of C) x.plan ∙ e }

-- ── topped up ───────────────────────────────────────────────────────────────────────────────

module _ (C : Catalogue) (a : Arrays) (count : ℕ) (r : Results) (s items cells : List ℕ) (u : Used) (w : rules.Walked) (k : ℕ) {ask : RequiredIndices} {R : Mask} (l : k < count)
    (f : Fit R (fields_of C (plan_at a k))) (asks : Asks ask R) (fk : Fit w.kept (fields_of C (plan_at a k))) (e : fields_of C w.plan ≡ select w.kept (fields_of C (plan_at a k))) where
  pub topped_walk : (v : Walked) → WalkIs C a count r (results s items cells) u w (Ok v) → (s' : List ℕ) (v' : std.Result Walked Full) (topped : Bool) → ToppedIs s s' k ask (Ok v) v' topped
      → WalkIs C a count r (results s' items cells) u (record { plan = input C (fields_of C (plan_at a k)) topped R w.plan; kept = cond topped R w.kept; overlong = w.overlong }) v'
  unfolding input
  topped_walk v x s' v' false d = rw (d.0, d.1) x
  topped_walk v y s' v' true t =
      over-walk (based (more-refl u) refl (grown-refl u.records u.rows u.cells r) y.0) s' (top_up C (fields_of C (plan_at a k)) R) t.t v'
      (omega (arith, y.0.tags, top-tags C (fields_of C (plan_at a k)) R w.plan)) asks y.2
      (t.on_top.covers C a count items cells v.used.rows v.used.cells w.kept R (narrowed w y.0 l fk e) y.1 asks f) t.over

  pub topped-large : (topped : Bool) → TooLarge u w.overlong (plan_nodes w.plan) (plan_tags w.plan)
      → TooLarge u w.overlong (plan_nodes (input C (fields_of C (plan_at a k)) topped R w.plan)) (plan_tags (input C (fields_of C (plan_at a k)) topped R w.plan))
  unfolding input
  topped-large false y = y
  topped-large true y = large_up u (plan_nodes w.plan) _ (plan_tags w.plan) _ (λ o. o) (top-nodes C (fields_of C (plan_at a k)) R w.plan) (top-tags C (fields_of C (plan_at a k)) R w.plan) y

-- over what is too large no projection is put
nothing_put : {s s' : List ℕ} (k : ℕ) (ask : RequiredIndices) {e : Full} {w : std.Result Walked Full} (topped : Bool) → ToppedIs s s' k ask (Err e) w topped → (s' ≡ s) × (w ≡ Err e)
nothing_put k ask false d = d
nothing_put k ask true d = d

-- ── two inputs ──────────────────────────────────────────────────────────────────────────────

or_first : {o : Bool} (q : Bool) → o ≡ true → o || q ≡ true
or_first q e = rw e refl

or_second : (o : Bool) {q : Bool} → q ≡ true → o || q ≡ true
or_second true e = refl
or_second false e = e

module _ (C : Catalogue) (a : Arrays) (count : ℕ) (r r₁ r₂ : Results) (u : Used) (w₁ w₂ : rules.Walked) where
  -- the first is too large
  pub first-large : {g h : Full} → WalkIs C a count r r₁ u w₁ (Err g) → TwoIs C a count r r₂ u w₁ w₂ (Err h)
  first-large x = large_up u (plan_nodes w₁.plan) _ (plan_tags w₁.plan) _ (or_first w₂.overlong) (omega arith) (omega arith) x

  -- the second, walked after the first
  module _ (v : Walked) (x : WalkIs C a count r r₁ u w₁ (Ok v)) where
    pub both : (v₂ : Walked) → WalkIs C a count r₁ r₂ v.used w₂ (Ok v₂) → TwoIs C a count r r₂ u w₁ w₂ (Ok (record { first = v.root; second = v₂.root; used = v₂.used; kept = v.kept }))
    both v₂ y = (
      record {
        first = result-grown C a count v.used.records v.used.rows v.used.cells y.0.grown x.0.ready.wf v.root x.0.below ∙ x.0.plan;
        first_below = omega (arith, x.0.below, y.0.more.records);
        second = y.0.plan;
        second_below = y.0.below;
        nodes = omega (arith, x.0.nodes, y.0.nodes);
        tags = omega (arith, x.0.tags, y.0.tags);
        more = more_trans x.0.more y.0.more;
        grown = grown_trans x.0.more.records x.0.more.rows x.0.more.cells x.0.grown y.0.grown;
        ready = y.0.ready;
      },
      rw (x.2, y.2) refl,
    )

    pub second-large : {g h : Full} → WalkIs C a count r₁ r₂ v.used w₂ (Err g) → TwoIs C a count r r₂ u w₁ w₂ (Err h)
    second-large y = large_up u _ _ _ _ (λ e. or_second w₁.overlong e) (omega arith) (omega arith) (large-after u v.used (plan_nodes w₁.plan) (plan_tags w₁.plan) (plan_nodes w₂.plan) (plan_tags w₂.plan) x.0.nodes x.0.tags y)

-- ── what is asked of the inputs ─────────────────────────────────────────────────────────────

module _ {cells rows nodes fields widths keys : List ℕ} {r : Results} {k : ℕ} {j : Job} {u : Used} where
  -- what is asked of the first input, and of the second
  abbrev one-asked : (b : BeforeInputs cells rows nodes fields widths keys r k j u) (t : Todo) → InputAsked b.standing.C (lent cells rows nodes) b.standing.count (k + 1) j.ask b.Q
      → Before cells rows nodes fields widths keys r (k + 1) j.ask u
  one-asked b t a = record { standing = b.standing; keyed = b.keyed; within = a.within; ready = b.ready; R = b.Q; fit = a.fit; asks = a.asks }

  abbrev pub same-before : j.todo ≡ todos.Same → BeforeInputs cells rows nodes fields widths keys r k j u → Before cells rows nodes fields widths keys r (k + 1) j.ask u
  same-before e b = one-asked b todos.Same (subst (InputsAsked b.standing.C (lent cells rows nodes) b.standing.count k j b.Q b.P) e b.asked)

  abbrev pub one-before : (topped : Bool) → j.todo ≡ todos.One topped → BeforeInputs cells rows nodes fields widths keys r k j u → Before cells rows nodes fields widths keys r (k + 1) j.ask u
  one-before topped e b = one-asked b (todos.One topped) (subst (InputsAsked b.standing.C (lent cells rows nodes) b.standing.count k j b.Q b.P) e b.asked)

  module _ (right : ℕ) (e : j.todo ≡ todos.Two right) where
    pub two-asked : (b : BeforeInputs cells rows nodes fields widths keys r k j u) → InputsAsked b.standing.C (lent cells rows nodes) b.standing.count k j b.Q b.P (todos.Two right)
    two-asked b = subst (InputsAsked b.standing.C (lent cells rows nodes) b.standing.count k j b.Q b.P) e b.asked

    abbrev pub first-before : BeforeInputs cells rows nodes fields widths keys r k j u → Before cells rows nodes fields widths keys r (k + 1) j.ask u
    first-before b = one-asked b (todos.Two right) (two-asked b).0

    pub right_above : BeforeInputs cells rows nodes fields widths keys r k j u → k < right
    right_above b = (two-asked b).2

-- ── as the walk's functions say it ──────────────────────────────────────────────────────────

module _ (s : Settings) {cells rows nodes fields widths keys : List ℕ} where
  module _ {r : Results} {sr items icells : List ℕ} {k : ℕ} {ask : RequiredIndices} {u : Used} (topped : Bool) where
    pub topped_after : {v : Walked} {sr' : List ℕ} (w : std.Result Walked Full) → After s cells rows nodes fields widths keys r (results sr items icells) k ask u (Ok v) → ToppedIs sr sr' k ask (Ok v) w topped
        → InputAfter s cells rows nodes fields widths keys r (results sr' items icells) k ask topped u w
    topped_after {v} {sr'} w x d = record {
      is = λ b.
          topped_walk b.standing.C (lent cells rows nodes) b.standing.count r sr items icells u
          (walk (merge_by s) b.standing.C (plan_at (lent cells rows nodes) k) none (flag_of ask) b.R) k b.within b.fit b.asks
          (node_kept b.standing s k b.within (flag_of ask) b.fit) (node_good b.standing s k b.within (flag_of ask) b.fit).kept.fields v (x.is b) sr' w topped d;
    }

    pub topped_large : {g h : Full} → After s cells rows nodes fields widths keys r (results sr items icells) k ask u (Err g)
        → InputAfter s cells rows nodes fields widths keys r (results sr items icells) k ask topped u (Err h)
    topped_large x = record {
      is = λ b.
          topped-large b.standing.C (lent cells rows nodes) b.standing.count r sr items icells u
          (walk (merge_by s) b.standing.C (plan_at (lent cells rows nodes) k) none (flag_of ask) b.R) k b.within b.fit b.asks
          (node_kept b.standing s k b.within (flag_of ask) b.fit) (node_good b.standing s k b.within (flag_of ask) b.fit).kept.fields topped (x.is b);
    }

    pub topped_put : {sr' : List ℕ} (v w : std.Result Walked Full) → After s cells rows nodes fields widths keys r (results sr items icells) k ask u v → ToppedIs sr sr' k ask v w topped
        → InputAfter s cells rows nodes fields widths keys r (results sr' items icells) k ask topped u w
    topped_put (Ok v) w x d = topped_after w x d
    topped_put (Err e) w x d = let p = nothing_put k ask topped d in rw (p.0, p.1) (topped_large x)

  module _ {r : Results} {k : ℕ} {j : Job} {u : Used} where
    module _ (right : ℕ) (e : j.todo ≡ todos.Two right) where
      -- what is said of both is said by the job
      by_two : (b : BeforeInputs cells rows nodes fields widths keys r k j u) (r' : Results) (i : std.Result Inputs Full)
          → TwoIs b.standing.C (lent cells rows nodes) b.standing.count r r' u (input_walk (merge_by s) b.standing.C (plan_at (lent cells rows nodes) (k + 1)) (flag_of j.ask) true b.Q) (input_walk (merge_by s) b.standing.C (plan_at (lent cells rows nodes) right) (flag_of j.second) true b.P) i
          → InputsIs (merge_by s) b.standing.C (lent cells rows nodes) b.standing.count r r' u k j b.Q b.P i j.todo
      by_two b r' i = subst (InputsIs (merge_by s) b.standing.C (lent cells rows nodes) b.standing.count r r' u k j b.Q b.P i) (sym e)

      -- the first input was walked, and is too large
      pub first_too_large : {r₁ : Results} {g h : Full} → InputAfter s cells rows nodes fields widths keys r r₁ (k + 1) j.ask true u (Err g) → InputsAfter s cells rows nodes fields widths keys r r₁ k j u (Err h)
      first_too_large {r₁} {g} {h} x = record {
        is = λ b.
            by_two b r₁ (Err h)
            (first-large b.standing.C (lent cells rows nodes) b.standing.count r r₁ r₁ u (input_walk (merge_by s) b.standing.C (plan_at (lent cells rows nodes) (k + 1)) (flag_of j.ask) true b.Q)
            (input_walk (merge_by s) b.standing.C (plan_at (lent cells rows nodes) right) (flag_of j.second) true b.P) {g = g} {h = h} (x.is (first-before right e b)));
      }

      module _ {r₁ : Results} {w : Walked} (x : InputAfter s cells rows nodes fields widths keys r r₁ (k + 1) j.ask true u (Ok w)) where
        abbrev pub second-before : BeforeInputs cells rows nodes fields widths keys r k j u → Before cells rows nodes fields widths keys r₁ right j.second w.used
        second-before b =
            record { standing = b.standing; keyed = b.keyed; within = (two-asked right e b).1.within; ready = (x.is (first-before right e b)).0.ready; R = b.P; fit = (two-asked right e b).1.fit; asks = (two-asked right e b).1.asks }

        pub two-after : {r₂ : Results} {w₂ : Walked} → InputAfter s cells rows nodes fields widths keys r₁ r₂ right j.second true w.used (Ok w₂)
            → InputsAfter s cells rows nodes fields widths keys r r₂ k j u (Ok (record { first = w.root; second = w₂.root; used = w₂.used; kept = w.kept }))
        two-after {r₂} {w₂} y = record {
          is = λ b.
              by_two b r₂ (Ok (record { first = w.root; second = w₂.root; used = w₂.used; kept = w.kept }))
              (both b.standing.C (lent cells rows nodes) b.standing.count r r₁ r₂ u (input_walk (merge_by s) b.standing.C (plan_at (lent cells rows nodes) (k + 1)) (flag_of j.ask) true b.Q)
              (input_walk (merge_by s) b.standing.C (plan_at (lent cells rows nodes) right) (flag_of j.second) true b.P) w (x.is (first-before right e b)) w₂ (y.is (second-before b)));
        }

        pub second_too_large : {r₂ : Results} {g h : Full} → InputAfter s cells rows nodes fields widths keys r₁ r₂ right j.second true w.used (Err g)
            → InputsAfter s cells rows nodes fields widths keys r r₂ k j u (Err h)
        second_too_large {r₂} {g} {h} y = record {
          is = λ b.
              by_two b r₂ (Err h)
              (second-large b.standing.C (lent cells rows nodes) b.standing.count r r₁ r₂ u (input_walk (merge_by s) b.standing.C (plan_at (lent cells rows nodes) (k + 1)) (flag_of j.ask) true b.Q)
              (input_walk (merge_by s) b.standing.C (plan_at (lent cells rows nodes) right) (flag_of j.second) true b.P) w (x.is (first-before right e b)) {g = g} {h = h} (y.is (second-before b)));
        }

    -- one input
    module _ {r₁ : Results} where
      pub same_after : j.todo ≡ todos.Same → {w : Walked} {i : Inputs} → one_walked i ≡ w → InputAfter s cells rows nodes fields widths keys r r₁ (k + 1) j.ask false u (Ok w) → InputsAfter s cells rows nodes fields widths keys r r₁ k j u (Ok i)
      same_after e {w} {i} d x = record {
        is = λ b.
            subst (InputsIs (merge_by s) b.standing.C (lent cells rows nodes) b.standing.count r r₁ u k j b.Q b.P (Ok i)) (sym e)
            (subst (λ (v : Walked). WalkIs b.standing.C (lent cells rows nodes) b.standing.count r r₁ u (input_walk (merge_by s) b.standing.C (plan_at (lent cells rows nodes) (k + 1)) (flag_of j.ask) false b.Q) (Ok v)) (sym d) (x.is (same-before e b)));
      }

      pub same_large : j.todo ≡ todos.Same → {g h : Full} → InputAfter s cells rows nodes fields widths keys r r₁ (k + 1) j.ask false u (Err g) → InputsAfter s cells rows nodes fields widths keys r r₁ k j u (Err h)
      same_large e {h = h} x = record { is = λ b. subst (InputsIs (merge_by s) b.standing.C (lent cells rows nodes) b.standing.count r r₁ u k j b.Q b.P (Err h)) (sym e) (x.is (same-before e b)) }

      pub one_after : (topped : Bool) → j.todo ≡ todos.One topped → {w : Walked} {i : Inputs} → one_walked i ≡ w → InputAfter s cells rows nodes fields widths keys r r₁ (k + 1) j.ask topped u (Ok w) → InputsAfter s cells rows nodes fields widths keys r r₁ k j u (Ok i)
      one_after topped e {w} {i} d x = record {
        is = λ b.
            subst (InputsIs (merge_by s) b.standing.C (lent cells rows nodes) b.standing.count r r₁ u k j b.Q b.P (Ok i)) (sym e)
            (subst (λ (v : Walked). WalkIs b.standing.C (lent cells rows nodes) b.standing.count r r₁ u (input_walk (merge_by s) b.standing.C (plan_at (lent cells rows nodes) (k + 1)) (flag_of j.ask) topped b.Q) (Ok v)) (sym d) (x.is (one-before topped e b)));
      }

      pub one_large : (topped : Bool) → j.todo ≡ todos.One topped → {g h : Full} → InputAfter s cells rows nodes fields widths keys r r₁ (k + 1) j.ask topped u (Err g) → InputsAfter s cells rows nodes fields widths keys r r₁ k j u (Err h)
      one_large topped e {h = h} x = record { is = λ b. subst (InputsIs (merge_by s) b.standing.C (lent cells rows nodes) b.standing.count r r₁ u k j b.Q b.P (Err h)) (sym e) (x.is (one-before topped e b)) }

    -- none
    pub leaf-after : j.todo ≡ todos.Leaf → (i : std.Result Inputs Full) → NoInputs u i → InputsAfter s cells rows nodes fields widths keys r r k j u i
    leaf-after e i d = record { is = λ b. subst (InputsIs (merge_by s) b.standing.C (lent cells rows nodes) b.standing.count r r u k j b.Q b.P i) (sym e) (d, refl) }

    pub nothing-after : j.todo ≡ todos.Nothing → (i : std.Result Inputs Full) → NoInputs u i → InputsAfter s cells rows nodes fields widths keys r r k j u i
    nothing-after e i d = record { is = λ b. subst (InputsIs (merge_by s) b.standing.C (lent cells rows nodes) b.standing.count r r u k j b.Q b.P i) (sym e) (d, refl) }
