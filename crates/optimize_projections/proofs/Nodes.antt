-- A node that is no projection: what is asked of its inputs, and what it becomes over them. Assumes nothing.
use mathlib.Core.Path.{◌≡◌, refl, sym, ap, ap₂, subst, ◌∙◌}
use mathlib.Core.Bool.{Bool, true, false, cond, ◌||◌}
use mathlib.Core.List.{List, []}
use mathlib.Core.Option.{none}
use Prim.Native.Nat.{ℕ, suc, ◌+◌, ◌<◌}
use native.Mathlib.Omega.{arith}
use lib.ListN.{length}
use Rattle.cpl.specs.Exprs.{plan_nodes, plan_tags}
use Rattle.cpl.specs.Fields.{fields_of}
use Rattle.cpl.specs.Lists.{Fit}
use Rattle.cpl.specs.Plan.{Binary, Catalogue, Pair, Plan, Unary, binary, leaf, unary}
use Rattle.cpl.specs.ReadPlan.{Head}
use Rattle.cpl.proofs.Lists.{Fit-length}
use Rattle.rules.specs.Keys.{key_of}
use Rattle.rules.specs.Mask.{Mask}
use Rattle.rules.specs.Merge.{Merge}
use Rattle.rules.specs.Rules.{binary_kept, leaf_kept, leaf_rule, left_ask, right_ask}
use Rattle.rules.specs.Rewrite as rules
use Rattle.rules.specs.Rewrite.{walk}
use Rattle.required_indices.specs.Request.{Asks, flag_of, set_of}
use Rattle.required_indices.specs.declared.RequiredIndices.{RequiredIndices}
use Rattle.std.proofs.Common.{Result, Ok, Err}
use Rattle.arena.specs.declared.Full.{Full}
use Rattle.tree.specs.Node.{node_at}
use Rattle.tree.specs.Tree.{Arrays, head_of, lent, plan_at}
use Rattle.tree.specs.declared.Node.{Node}
use Rattle.tree.specs.declared.Node.TheVariants.{Projection, Filter, Sort, Limit, Aggregate, Window, SubqueryAlias, Union, Distinct, Join, Scan, Empty}
use Rattle.result.specs.Result.{Results, kept_node, nothing_left, result_at, unary_part}
use Rattle.result.specs.Records.{Grown, HeadSet, InputsBelow, KeptOk, results, stands_for}
use Rattle.result.specs.declared.Record.TheVariants as records
use Rattle.jobs.specs.Asked.{Asked, Other}
use Rattle.jobs.specs.Job.{AtLeaf, AtNode, AtOne, AtTwo, InputIs, JobAt, KeptOf}
use Rattle.jobs.specs.declared.Job.{Job}
use Rattle.jobs.specs.declared.Todo.{Todo}
use Rattle.jobs.specs.declared.Todo.TheVariants as todos
use Rattle.walk_steps.specs.Steps.{DonePut, LeftFor, NodePut, OnePut, PutAs, SameAs}
use Rattle.walk_steps.specs.declared.Inputs.{Inputs}
use Rattle.walk_steps.specs.declared.Used.{Used}
use Rattle.walk_steps.specs.declared.Walked.{Walked}
use Rattle.optimize_projections.specs.Walk.{After, Before, BeforeInputs, InputAsked, InputsAfter, InputsAsked, InputsIs, Ready, TwoIs, WalkIs, input_walk, merge_by, one_walked}
use Rattle.optimize_projections.specs.declared.Settings.{Settings}
use Rattle.optimize_projections.proofs.Ends.{grown-refl, large_up, more-refl}
use Rattle.optimize_projections.proofs.Inputs.{node_kept}
use Rattle.optimize_projections.proofs.Puts.{Behind, ask-walk, done-walk, leaf-walk, put_walk, two-walk}

-- ── what is asked of the inputs ─────────────────────────────────────────────────────────────

pub record Wanted (C : Catalogue) (a : Arrays) (count k : ℕ) (j : Job) (t : Todo) : Type 0 where
  pub Q : Mask
  pub P : Mask
  pub asked : InputsAsked C a count k j Q P t

module _ (C : Catalogue) (a : Arrays) (count k : ℕ) (node : Node) (b : Bool) (R : Mask) (j : Job) where
  one_wanted : (x : Unary) {topped : Bool} {f : Plan → Plan} → k + 1 < count → (i : InputIs C x (key_of C (plan_at a (k + 1))) (fields_of C (plan_at a (k + 1))) b R topped f j) → InputAsked C a count (k + 1) j.ask i.Q
  one_wanted x l i = record { within = l; fit = i.fit; asks = i.asks }

  abbrev pub wanted : (t : Todo) → AtNode C a count k node b R j t → Wanted C a count k j t
  wanted todos.Leaf x = record { Q = []; P = []; asked = tt }
  wanted todos.Nothing x = record { Q = []; P = []; asked = tt }
  wanted todos.Same x = record { Q = x.job.Q; P = []; asked = record { within = x.input.below; fit = x.job.fit; asks = x.job.asks } }
  wanted (todos.One topped) x = record { Q = x.job.Q; P = []; asked = record { within = x.input.below; fit = x.job.fit; asks = x.job.asks } }
  wanted (todos.Two right) x =
      record {
        Q = left_ask x.h (fields_of C (plan_at a (k + 1))) (fields_of C (plan_at a right)) R;
        P = right_ask x.h (fields_of C (plan_at a (k + 1))) (fields_of C (plan_at a right)) R;
        asked = (
          record { within = omega (arith, x.inputs.after, x.inputs.below); fit = x.job.fit; asks = x.job.asks },
          record { within = x.inputs.below; fit = x.job.second_fit; asks = x.job.second_asks },
          omega (arith, x.inputs.after),
        );
      }

  pub left : (t : Todo) → AtNode C a count k node b R j t → LeftFor j t
  left todos.Leaf x = tt
  left todos.Nothing x = tt
  left todos.Same x = record { fields = fields_of C (plan_at a (k + 1)); left = x.job.left; is = x.job.rest }
  left (todos.One topped) x = record { fields = fields_of C (plan_at a (k + 1)); left = x.job.left; is = x.job.rest }
  left (todos.Two right) x = tt

-- ── a node over its inputs ──────────────────────────────────────────────────────────────────

-- the fields that are left of an input
input-kept : (t : Bool) {Q K : Mask} {fs : List Pair} → Fit Q fs → Fit K fs → length (cond t Q K) ≡ length fs
input-kept true f g = Fit-length f
input-kept false f g = Fit-length g

module _ (M : Merge) (C : Catalogue) (a : Arrays) (count : ℕ) (r : Results) (s items cells : List ℕ) (u : Used) (k : ℕ) (l : k < count) (node : Node) (is : node ≡ node_at a.nodes k) (b : Bool) (R : Mask)
    (j : Job) (w : Result Walked Full) (s' : List ℕ) where
  head_at : {h : Head} → head_of a node ≡ h → head_of a (node_at a.nodes k) ≡ h
  head_at e = ap (head_of a) (sym is) ∙ e

  kept-means : (f g set : ℕ) (p q : Plan) {h : Head} → head_of a node ≡ h → stands_for C a (results s items cells) set (records.Kept k f g) p q ≡ kept_node C set h p q
  kept-means f g set p q e = ap (λ (h : Head). kept_node C set h p q) (head_at e)

  kept-ok : (f g set n : ℕ) {h : Head} → head_of a node ≡ h → InputsBelow n f g h → HeadSet C set h → KeptOk C a count n set k f g
  kept-ok f g set n e x y = record { node = l; inputs = subst (InputsBelow n f g) (sym (head_at e)) x; within = subst (HeadSet C set) (sym (head_at e)) y }

  nothing-taken : Ready C a count r u → results s items cells ≡ r → Behind C a count r s items cells u u 0 0
  nothing-taken y q = record {
    nodes = omega arith;
    tags = omega arith;
    more = more-refl u;
    grown = subst (λ (z : Results). Grown u.records u.rows u.cells r z) (sym q) (grown-refl u.records u.rows u.cells r);
    ready = subst (λ (z : Results). Ready C a count z u) (sym q) y;
  }

  -- no input
  at_leaf : Ready C a count r u → results s items cells ≡ r → AtLeaf C a k node R j → PutAs s s' u (records.Kept k 0 0) (set_of j.set) j.kept w → WalkIs C a count r (results s' items cells) u (walk M C (plan_at a k) none b R) w
  unfolding plan_nodes plan_tags
  at_leaf y q x d =
      rw (x.plan, leaf-walk M C x.h b R)
      (put_walk C a count r s items cells u u 0 0 (nothing-taken y q) (records.Kept k 0 0) (set_of j.set) (kept-ok 0 0 (set_of j.set) u.records x.head tt x.job.set)
      (record { plan = leaf (leaf_rule C x.h R); kept = leaf_kept x.h R; overlong = false })
      (kept-means 0 0 (set_of j.set) (result_at C a (results s items cells) 0) (result_at C a (results s items cells) 0) x.head ∙ ap leaf x.job.part) refl (omega arith) refl x.job.kept s' w d)

  -- "None of either left: one-row Empty with no fields."
  at_nothing : Ready C a count r u → results s items cells ≡ r → AtOne C a count k node b R j todos.Nothing → PutAs s s' u records.Nothing (set_of j.set) j.kept w
      → WalkIs C a count r (results s' items cells) u (walk M C (plan_at a k) none b R) w
  unfolding plan_nodes plan_tags
  at_nothing y q x d =
      rw (x.input.plan, done-walk M C x.h x.other (plan_at a (k + 1)) b R x.job.job)
      (put_walk C a count r s items cells u u 0 0 (nothing-taken y q) records.Nothing (set_of j.set) tt (record { plan = nothing_left; kept = x.job.K; overlong = false }) refl refl (omega arith) refl
      x.job.kept s' w d)

  -- ── one input ─────────────────────────────────────────────────────────────────────────────

  module _ (fits : (f : Bool) (Q : Mask) → Fit Q (fields_of C (plan_at a (k + 1))) → Fit (walk M C (plan_at a (k + 1)) none f Q).kept (fields_of C (plan_at a (k + 1)))) where
    -- the fields that are left
    left-asks : (h : Unary) {topped : Bool} {node : Plan → Plan} (x : InputIs C h (key_of C (plan_at a (k + 1))) (fields_of C (plan_at a (k + 1))) b R topped node j) {of kept : RequiredIndices} → KeptOf j of kept
        → Asks of (input_walk M C (plan_at a (k + 1)) (flag_of j.ask) topped x.Q).kept → Asks kept (x.left (input_walk M C (plan_at a (k + 1)) (flag_of j.ask) topped x.Q).kept)
    left-asks h {topped} x d e =
        d.asks (fields_of C (plan_at a (k + 1))) x.left (input_walk M C (plan_at a (k + 1)) (flag_of j.ask) topped x.Q).kept x.rest
        (input-kept topped x.fit (fits (flag_of j.ask) x.Q x.fit)) e

    module _ (i : Inputs) where
      at_same : (x : AtOne C a count k node b R j todos.Same)
          → WalkIs C a count r (results s items cells) u (input_walk M C (plan_at a (k + 1)) (flag_of j.ask) false x.job.Q) (Ok (one_walked i))
          → (s' ≡ s) × SameAs j i w → WalkIs C a count r (results s' items cells) u (walk M C (plan_at a k) none b R) w
      at_same x y d = by w d.1
        where
          by : (v : Result Walked Full) → SameAs j i v → WalkIs C a count r (results s' items cells) u (walk M C (plan_at a k) none b R) v
          by (Ok v) q = rw (x.input.plan, ask-walk M C x.h x.other (plan_at a (k + 1)) b R x.job.job, d.0, q.0, q.1) (y.0, left-asks x.h x.job q.2 y.1, y.2)
          by (Err e) q = absurd q

      at_one : (topped : Bool) (x : AtOne C a count k node b R j (todos.One topped))
          → WalkIs C a count r (results s items cells) u (input_walk M C (plan_at a (k + 1)) (flag_of j.ask) topped x.job.Q) (Ok (one_walked i))
          → OnePut s s' k j i w → WalkIs C a count r (results s' items cells) u (walk M C (plan_at a k) none b R) w
      unfolding plan_nodes plan_tags
      at_one topped x y d =
          let q = input_walk M C (plan_at a (k + 1)) (flag_of j.ask) topped x.job.Q in
          rw (x.input.plan, ask-walk M C x.h x.other (plan_at a (k + 1)) b R x.job.job)
          (put_walk C a count r s items cells u i.used (plan_nodes q.plan) (plan_tags q.plan)
          (record { nodes = y.0.nodes; tags = y.0.tags; more = y.0.more; grown = y.0.grown; ready = y.0.ready }) (records.Kept k i.first i.second) (set_of j.set)
          (kept-ok i.first i.second (set_of j.set) i.used.records x.head y.0.below x.job.set)
          (record { plan = unary (unary_part (set_of j.set) x.h) q.plan; kept = x.job.left q.kept; overlong = q.overlong })
          (kept-means i.first i.second (set_of j.set) (result_at C a (results s items cells) i.first) (result_at C a (results s items cells) i.second) x.head ∙ ap (unary (unary_part (set_of j.set) x.h)) y.0.plan)
          refl (omega arith) y.2 (left-asks x.h x.job d.left y.1) s' w d.put)

  -- ── two inputs ────────────────────────────────────────────────────────────────────────────

  abbrev first_walk : Binary → ℕ → rules.Walked
  first_walk h right = input_walk M C (plan_at a (k + 1)) true true (left_ask h (fields_of C (plan_at a (k + 1))) (fields_of C (plan_at a right)) R)

  abbrev second_walk : Binary → ℕ → rules.Walked
  second_walk h right = input_walk M C (plan_at a right) true true (right_ask h (fields_of C (plan_at a (k + 1))) (fields_of C (plan_at a right)) R)

  two_by : (right : ℕ) (x : AtTwo C a count k node R right j) (i : Inputs) → TwoIs C a count r (results s items cells) u (first_walk x.h right) (second_walk x.h right) (Ok i)
      → PutAs s s' i.used (records.Kept k i.first i.second) (set_of j.set) j.kept w → WalkIs C a count r (results s' items cells) u (walk M C (plan_at a k) none b R) w
  unfolding plan_nodes plan_tags
  two_by right x i y d =
      let p = first_walk x.h right in
      let q = second_walk x.h right in
      rw (x.inputs.plan, two-walk M C x.h (plan_at a (k + 1)) (plan_at a right) b R)
      (put_walk C a count r s items cells u i.used (plan_nodes p.plan + plan_nodes q.plan) (plan_tags p.plan + plan_tags q.plan)
      (record { nodes = y.0.nodes; tags = y.0.tags; more = y.0.more; grown = y.0.grown; ready = y.0.ready }) (records.Kept k i.first i.second) (set_of j.set)
      (kept-ok i.first i.second (set_of j.set) i.used.records x.head (y.0.first_below, y.0.second_below) tt)
      (record { plan = binary x.h p.plan q.plan; kept = binary_kept x.h (fields_of C (plan_at a (k + 1))) (fields_of C (plan_at a right)) R; overlong = p.overlong || q.overlong })
      (kept-means i.first i.second (set_of j.set) (result_at C a (results s items cells) i.first) (result_at C a (results s items cells) i.second) x.head ∙ ap₂ (binary x.h) y.0.first y.0.second)
      refl (omega arith) y.1 x.job.kept s' w d)

  -- what is said of the inputs, by the flags of what they were asked
  by_flags : (right : ℕ) (x : AtTwo C a count k node R right j) (r' : Results) (end : Result Inputs Full)
      → TwoIs C a count r r' u (input_walk M C (plan_at a (k + 1)) (flag_of j.ask) true (left_ask x.h (fields_of C (plan_at a (k + 1))) (fields_of C (plan_at a right)) R))
      (input_walk M C (plan_at a right) (flag_of j.second) true (right_ask x.h (fields_of C (plan_at a (k + 1))) (fields_of C (plan_at a right)) R)) end
      → TwoIs C a count r r' u (first_walk x.h right) (second_walk x.h right) end
  by_flags right x r' end y =
      subst (λ (f : Bool). TwoIs C a count r r' u (first_walk x.h right) (input_walk M C (plan_at a right) f true (right_ask x.h (fields_of C (plan_at a (k + 1))) (fields_of C (plan_at a right)) R)) end) x.job.second_flag
      (subst (λ (f : Bool). TwoIs C a count r r' u (input_walk M C (plan_at a (k + 1)) f true (left_ask x.h (fields_of C (plan_at a (k + 1))) (fields_of C (plan_at a right)) R))
      (input_walk M C (plan_at a right) (flag_of j.second) true (right_ask x.h (fields_of C (plan_at a (k + 1))) (fields_of C (plan_at a right)) R)) end) x.job.flag y)

  -- ── by what is to be done ─────────────────────────────────────────────────────────────────

  pub at_node : Ready C a count r u → ((f : Bool) (Q : Mask) → Fit Q (fields_of C (plan_at a (k + 1))) → k + 1 < count → Fit (walk M C (plan_at a (k + 1)) none f Q).kept (fields_of C (plan_at a (k + 1))))
      → (i : Inputs) (t : Todo) (x : AtNode C a count k node b R j t)
      → InputsIs M C a count r (results s items cells) u k j (wanted C a count k node b R j t x).Q (wanted C a count k node b R j t x).P (Ok i) t → DonePut s s' k j i w t
      → WalkIs C a count r (results s' items cells) u (walk M C (plan_at a k) none b R) w
  at_node ready fits i todos.Leaf x y d = at_leaf ready y.1 x (rw (y.0.0, y.0.1, y.0.2) at d)
  at_node ready fits i todos.Nothing x y d = at_nothing ready y.1 x (rw y.0.2 at d)
  at_node ready fits i todos.Same x y d = at_same (λ f Q g. fits f Q g x.input.below) i x y d
  at_node ready fits i (todos.One topped) x y d = at_one (λ f Q g. fits f Q g x.input.below) i topped x y d
  at_node ready fits i (todos.Two right) x y d = two_by right x i (by_flags right x (results s items cells) (Ok i) y) d

  -- where an input is too large, so is the node
  pub at_large : (r' : Results) (g h : Full) (t : Todo) (x : AtNode C a count k node b R j t)
      → InputsIs M C a count r r' u k j (wanted C a count k node b R j t x).Q (wanted C a count k node b R j t x).P (Err g) t
      → WalkIs C a count r r' u (walk M C (plan_at a k) none b R) (Err h)
  unfolding plan_nodes plan_tags
  at_large r' g h todos.Leaf x y = absurd y.0
  at_large r' g h todos.Nothing x y = absurd y.0
  at_large r' g h todos.Same x y = rw (x.input.plan, ask-walk M C x.h x.other (plan_at a (k + 1)) b R x.job.job) y
  at_large r' g h (todos.One topped) x y =
      let q = input_walk M C (plan_at a (k + 1)) (flag_of j.ask) topped x.job.Q in
      rw (x.input.plan, ask-walk M C x.h x.other (plan_at a (k + 1)) b R x.job.job)
      (large_up u (plan_nodes q.plan) (suc (plan_nodes q.plan)) (plan_tags q.plan) (plan_tags (unary (unary_part (set_of j.set) x.h) q.plan)) (λ o. o) (omega arith) (omega arith) y)
  at_large r' g h (todos.Two right) x y =
      let p = first_walk x.h right in
      let q = second_walk x.h right in
      rw (x.inputs.plan, two-walk M C x.h (plan_at a (k + 1)) (plan_at a right) b R)
      (large_up u (plan_nodes p.plan + plan_nodes q.plan) (suc (plan_nodes p.plan + plan_nodes q.plan)) (plan_tags p.plan + plan_tags q.plan)
      (plan_tags (binary x.h p.plan q.plan)) (λ o. o) (omega arith) (omega arith) (by_flags right x r' (Err g) y))

-- what is no Projection
pub other : (n : Node) → ((f m : ℕ) → n ≡ Projection f m → ⊥) → Other n
other (Projection f m) o = o f m refl
other (Filter r) o = tt
other (Sort f m) o = tt
other (Limit x m) o = tt
other (Aggregate f g v) o = tt
other (Window f m) o = tt
other (SubqueryAlias q) o = tt
other (Union r) o = tt
other Distinct o = tt
other (Join j) o = tt
other (Scan x) o = tt
other (Empty b f m) o = tt

-- ── as the walk's functions say it ──────────────────────────────────────────────────────────

module _ {cells rows nodes fields widths keys : List ℕ} {r : Results} {k : ℕ} {request : RequiredIndices} {u : Used} {node : Node} (is : node ≡ node_at nodes k) (o : Other node) where
  abbrev pub other-asked : Before cells rows nodes fields widths keys r k request u → Asked cells rows fields widths keys node k request
  other-asked b = record { nodes = nodes; standing = b.standing; keyed = b.keyed; within = b.within; is = is; other = o; R = b.R; fit = b.fit; asks = b.asks }

  module _ {j : Job} (q : JobAt cells rows fields widths keys node k request j) where
    abbrev pub inputs-before : Before cells rows nodes fields widths keys r k request u → BeforeInputs cells rows nodes fields widths keys r k j u
    inputs-before b =
        let x = wanted b.standing.C (lent cells rows nodes) b.standing.count k node (flag_of request) b.R j j.todo (q.is (other-asked b)) in
        record { standing = b.standing; keyed = b.keyed; within = b.within; ready = b.ready; Q = x.Q; P = x.P; asked = x.asked }

    pub inputs-left : Before cells rows nodes fields widths keys r k request u → LeftFor j j.todo
    inputs-left b = left b.standing.C (lent cells rows nodes) b.standing.count k node (flag_of request) b.R j j.todo (q.is (other-asked b))

    pub node-after : {s : Settings} {sr items icells : List ℕ} {i : Inputs} → InputsAfter s cells rows nodes fields widths keys r (results sr items icells) k j u (Ok i) → {sr' : List ℕ} (w : Result Walked Full)
        → DonePut sr sr' k j i w j.todo → After s cells rows nodes fields widths keys r (results sr' items icells) k request u w
    node-after {s} {sr} {items} {icells} {i} x {sr'} w d = record {
      is = λ b.
          at_node (merge_by s) b.standing.C (lent cells rows nodes) b.standing.count r sr items icells u k b.within node is (flag_of request) b.R j w sr' b.ready
          (λ f Q g l. node_kept b.standing s (k + 1) l f g) i j.todo (q.is (other-asked b)) (x.is (inputs-before b)) d;
    }

    pub node-large : {s : Settings} {r' : Results} {g h : Full} → InputsAfter s cells rows nodes fields widths keys r r' k j u (Err g) → After s cells rows nodes fields widths keys r r' k request u (Err h)
    node-large {s} {r'} {g} {h} x = record {
      is = λ b.
          at_large (merge_by s) b.standing.C (lent cells rows nodes) b.standing.count r [] [] [] u k b.within node is (flag_of request) b.R j (Err h) [] r' g h
          j.todo (q.is (other-asked b)) (x.is (inputs-before b));
    }

    pub node_put : {s : Settings} {sr items icells : List ℕ} (i : Result Inputs Full) → InputsAfter s cells rows nodes fields widths keys r (results sr items icells) k j u i → {sr' : List ℕ} (w : Result Walked Full)
        → NodePut sr sr' k j i w j.todo → After s cells rows nodes fields widths keys r (results sr' items icells) k request u w
    node_put (Ok i) x w d = node-after x w d
    node_put (Err e) x w d = rw (d.0, d.1) (node-large x)
