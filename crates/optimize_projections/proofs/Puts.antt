-- A node's record put over its inputs', and what the rules say of a node over its inputs. Assumes nothing.
use mathlib.Core.Path.{◌≡◌, refl, ap, ◌∙◌}
use mathlib.Core.Logic.{inl, inr}
use mathlib.Core.Bool.{Bool, true, false}
use mathlib.Core.List.{List}
use mathlib.Core.Option.{none}
use Prim.Native.Nat.{ℕ, suc, ◌+◌, ◌*◌, ◌≤◌}
use native.Mathlib.Omega.{arith}
use lib.ListN.{length}
use Rattle.cpl.specs.Exprs.{plan_nodes, plan_tags}
use Rattle.cpl.specs.Fields.{fields_of}
use Rattle.cpl.specs.Plan.{Binary, Catalogue, Leaf, Plan, Unary, projection, filter, sort, limit, aggregate, window, subquery_alias, distinct, leaf, unary, binary}
use Rattle.rules.specs.Keys.{key_of}
use Rattle.rules.specs.Mask.{Mask}
use Rattle.rules.specs.Merge.{Merge}
use Rattle.rules.specs.Rules as rules
use Rattle.rules.specs.Rules.{Job, binary_kept, leaf_kept, leaf_rule, left_ask, right_ask, unary_job}
use Rattle.rules.specs.Rewrite as rewriting
use Rattle.rules.specs.Rewrite.{binary_walk, input, leaf_walk, node_walk, pend, run_job, unary_walk, walk}
use Rattle.required_indices.specs.Request.{Asks}
use Rattle.required_indices.specs.declared.RequiredIndices.{RequiredIndices}
use Rattle.std.proofs.Common.{Result, Ok, Err}
use Rattle.arena.specs.declared.Full.{Full}
use Rattle.tree.specs.Tree.{Arrays}
use Rattle.result.specs.Result.{Results, record_n, result_at}
use Rattle.result.specs.Records.{Grown, RecordOk, first_of, results, second_of, stands_for}
use Rattle.result.specs.declared.Record.{Record}
use Rattle.result.proofs.Grow.{pushed_grown, pushed_result, pushed_wf}
use Rattle.jobs.specs.Job.{NoProjection}
use Rattle.walk_steps.specs.Steps.{PutAs}
use Rattle.walk_steps.specs.declared.Used.{Used}
use Rattle.walk_steps.specs.declared.Walked.{Walked}
use Rattle.optimize_projections.specs.Walk.{More, Ready, WalkIs, input_walk}
use Rattle.optimize_projections.proofs.Ends.{grown_trans}

-- ── a record put behind n records and at most t cells that were taken for its inputs ────────

pub record Behind (C : Catalogue) (a : Arrays) (count : ℕ) (r : Results) (s items cells : List ℕ) (u v : Used) (n t : ℕ) : Type 0 where
  pub nodes : v.records ≡ u.records + n
  pub tags : v.cells ≤ u.cells + t
  pub more : More u v
  pub grown : Grown u.records u.rows u.cells r (results s items cells)
  pub ready : Ready C a count (results s items cells) v

module _ (C : Catalogue) (a : Arrays) (count : ℕ) (r : Results) (s items cells : List ℕ) (u v : Used) (n t : ℕ) (b : Behind C a count r s items cells u v n t)
    (x : Record) (set : ℕ) (ok : RecordOk C a count (results s items cells) v.rows v.cells v.records set x) (w : rewriting.Walked)
    (means : stands_for C a (results s items cells) set x (result_at C a (results s items cells) (first_of x)) (result_at C a (results s items cells) (second_of x)) ≡ w.plan)
    (one_more : plan_nodes w.plan ≡ suc n) (no_less : t ≤ plan_tags w.plan) (fine : w.overlong ≡ false) {kept : RequiredIndices} (asks : Asks kept w.kept) (s' : List ℕ) where
  pub put_walk : (end : Result Walked Full) → PutAs s s' v x set kept end → WalkIs C a count r (results s' items cells) u w end
  put_walk (Ok i) p =
      let room : v.records * record_n + record_n ≤ length s = omega (arith, b.ready.records_long, p.3) in
      rw (p.0, p.1, p.2) (
        record {
          plan = pushed_result b.ready.wf room p.4 ok ∙ means;
          below = omega arith;
          nodes = omega (arith, b.nodes);
          tags = omega (arith, b.tags);
          more = record { records = omega (arith, b.more.records); rows = b.more.rows; cells = b.more.cells };
          grown = grown_trans b.more.records b.more.rows b.more.cells b.grown (pushed_grown b.ready.wf room p.4 ok);
          ready = record {
            wf = pushed_wf b.ready.wf room p.4 ok;
            records_long = omega (arith, b.ready.records_long, p.4.kept.long);
            cells_long = b.ready.cells_long;
            room = b.ready.room;
          };
        },
        asks,
        fine,
      )
  put_walk (Err e) p = inr (inl (omega (arith, b.nodes, p.0)))

-- ── the rules at a node ─────────────────────────────────────────────────────────────────────

module _ (M : Merge) (C : Catalogue) where
  pub leaf-walk : (h : Leaf) (b : Bool) (R : Mask) → walk M C (leaf h) none b R ≡ record { plan = leaf (leaf_rule C h R); kept = leaf_kept h R; overlong = false }
  unfolding walk pend leaf_walk
  leaf-walk h b R = refl

  pub node-walk : (h : Unary) → NoProjection h → (p : Plan) (b : Bool) (R : Mask) → walk M C (unary h p) none b R ≡ run_job C (fields_of C p) (unary_job C h (key_of C p) (fields_of C p) b R) (walk M C p none)
  unfolding walk unary_walk node_walk pend
  node-walk (projection is) o p b R = absurd o
  node-walk (filter e) o p b R = refl
  node-walk (sort ks) o p b R = refl
  node-walk (limit s n) o p b R = refl
  node-walk (aggregate gs vs) o p b R = refl
  node-walk (window ws) o p b R = refl
  node-walk (subquery_alias q) o p b R = refl
  node-walk distinct o p b R = refl

  -- a job that asks the input
  pub ask-walk : (h : Unary) → NoProjection h → (p : Plan) (b : Bool) (R : Mask) {f : Bool} {Q : Mask} {topped : Bool} {node : Plan → Plan} {left : Mask → Mask}
      → unary_job C h (key_of C p) (fields_of C p) b R ≡ rules.ask f Q topped node left
      → walk M C (unary h p) none b R ≡ record { plan = node (input_walk M C p f topped Q).plan; kept = left (input_walk M C p f topped Q).kept; overlong = (input_walk M C p f topped Q).overlong }
  unfolding run_job
  ask-walk h o p b R e = node-walk h o p b R ∙ ap (λ (j : Job). run_job C (fields_of C p) j (walk M C p none)) e

  pub done-walk : (h : Unary) → NoProjection h → (p : Plan) (b : Bool) (R : Mask) {q : Plan} {K : Mask} → unary_job C h (key_of C p) (fields_of C p) b R ≡ rules.done q K
      → walk M C (unary h p) none b R ≡ record { plan = q; kept = K; overlong = false }
  unfolding run_job
  done-walk h o p b R e = node-walk h o p b R ∙ ap (λ (j : Job). run_job C (fields_of C p) j (walk M C p none)) e

  pub two-walk : (h : Binary) (p q : Plan) (b : Bool) (R : Mask) →
      walk M C (binary h p q) none b R
      ≡ (let w₁ = input_walk M C p true true (left_ask h (fields_of C p) (fields_of C q) R) in
      let w₂ = input_walk M C q true true (right_ask h (fields_of C p) (fields_of C q) R) in
      record { plan = binary h w₁.plan w₂.plan; kept = binary_kept h (fields_of C p) (fields_of C q) R; overlong = mathlib.Core.Bool.◌||◌ w₁.overlong w₂.overlong })
  unfolding walk pend binary_walk input
  two-walk h p q b R = refl
