-- Results that grow step by step, results that are too large, and a projection put on top of one. Assumes nothing.
use mathlib.Core.Path.{◌≡◌, subst}
use mathlib.Core.Logic.{inl, inr, ⊎_elim}
use mathlib.Core.Bool.{Bool, true, false, cond}
use mathlib.Core.List.{List, map}
use Prim.Native.Nat.{ℕ, ◌+◌, ◌*◌, ◌≤◌}
use native.Mathlib.Omega.{arith}
use lib.Dec.{ltb}
use lib.ListN.{length}
use Rattle.cpl.specs.Exprs.{plan_nodes, plan_tags}
use Rattle.cpl.specs.Fields.{fields_of}
use Rattle.cpl.specs.Plan.{Catalogue, Item, Pair, Plan, bare, projection, unary}
use Rattle.rules.specs.Mask.{Mask, count_m, select}
use Rattle.rules.specs.Rules.{over_child, same_columns, top_up}
use Rattle.required_indices.specs.Request.{Asks}
use Rattle.required_indices.specs.declared.RequiredIndices.{RequiredIndices}
use Rattle.std.proofs.Common.{Result, Ok, Err}
use Rattle.arena.specs.declared.Full.{Full}
use Rattle.arena.proofs.Kept.{kept_refl, kept_trans}
use Rattle.tree.specs.Tree.{Arrays}
use Rattle.result.specs.Result.{Results, record_n, result_at}
use Rattle.result.specs.Records.{Grown, results}
use Rattle.projections.specs.Tops.{OnTop, TopAnswer}
use Rattle.projections.specs.declared.Topped.{Topped}
use Rattle.walk_steps.specs.Steps.{Over}
use Rattle.walk_steps.specs.declared.Used.{Used}
use Rattle.walk_steps.specs.declared.Walked.{Walked}
use Rattle.optimize_projections.specs.Walk.{More, Ready, Stands, TooLarge, WalkIs}

-- ── growing ─────────────────────────────────────────────────────────────────────────────────

pub grown-refl : (n m k : ℕ) (r : Results) → Grown n m k r r
grown-refl n m k r = record { records = kept_refl (n * record_n) r.records; items = kept_refl (m * 4) r.items; cells = kept_refl (k * 3) r.cells }

pub grown_trans : {n m k n' m' k' : ℕ} {r r₁ r₂ : Results} → n ≤ n' → m ≤ m' → k ≤ k' → Grown n m k r r₁ → Grown n' m' k' r₁ r₂ → Grown n m k r r₂
grown_trans p q s g h =
    record {
      records = kept_trans (omega arith) g.records h.records;
      items = kept_trans (omega arith) g.items h.items;
      cells = kept_trans (omega arith) g.cells h.cells;
    }

pub more-refl : (u : Used) → More u u
more-refl u = record { records = omega arith; rows = omega arith; cells = omega arith }

pub more_trans : {u v w : Used} → More u v → More v w → More u w
more_trans p q = record { records = omega (arith, p.records, q.records); rows = omega (arith, p.rows, q.rows); cells = omega (arith, p.cells, q.cells) }

-- ── too large ───────────────────────────────────────────────────────────────────────────────

pub large_up : (u : Used) {o o' : Bool} (n n' t t' : ℕ) → (o ≡ true → o' ≡ true) → n ≤ n' → t ≤ t' → TooLarge u o n t → TooLarge u o' n' t'
large_up u n n' t t' f p q x = ⊎_elim (λ e. inl (f e)) (λ y. ⊎_elim (λ l. inr (inl (omega arith))) (λ l. inr (inr (omega arith))) y) x

-- what is too large behind n records and at most t cells more
pub large-after : (u v : Used) {o : Bool} (n t n' t' : ℕ) → v.records ≡ u.records + n → v.cells ≤ u.cells + t → TooLarge v o n' t' → TooLarge u o (n + n') (t + t')
large-after u v n t n' t' p q x = ⊎_elim (λ e. inl e) (λ y. ⊎_elim (λ l. inr (inl (omega (arith, p)))) (λ l. inr (inr (omega (arith, q)))) y) x

-- ── tags of a projection on top ─────────────────────────────────────────────────────────────

over-tags : (b : Bool) (is : List Item) (p : Plan) → plan_tags p ≤ plan_tags (cond b p (unary (projection is) p))
unfolding plan_tags
over-tags true is p = omega arith
over-tags false is p = omega arith

top-cond : (b : Bool) (is : List Item) (p : Plan) → plan_tags p ≤ plan_tags (cond b (unary (projection is) p) p)
unfolding plan_tags
top-cond true is p = omega arith
top-cond false is p = omega arith

pub child_tags : (C : Catalogue) (js : List Item) (p : Plan) → plan_tags p ≤ plan_tags (over_child C js p)
unfolding over_child
child_tags C js p = over-tags (same_columns js (fields_of C p)) js p

pub top-tags : (C : Catalogue) (fs : List Pair) (R : Mask) (p : Plan) → plan_tags p ≤ plan_tags (top_up C fs R p)
unfolding top_up
top-tags C fs R p = top-cond (ltb (count_m R) (length (fields_of C p))) (map bare (select R fs)) p

over-nodes : (b : Bool) (is : List Item) (p : Plan) → plan_nodes p ≤ plan_nodes (cond b p (unary (projection is) p))
unfolding plan_nodes
over-nodes true is p = omega arith
over-nodes false is p = omega arith

top-cond-nodes : (b : Bool) (is : List Item) (p : Plan) → plan_nodes p ≤ plan_nodes (cond b (unary (projection is) p) p)
unfolding plan_nodes
top-cond-nodes true is p = omega arith
top-cond-nodes false is p = omega arith

pub child_nodes : (C : Catalogue) (js : List Item) (p : Plan) → plan_nodes p ≤ plan_nodes (over_child C js p)
unfolding over_child
child_nodes C js p = over-nodes (same_columns js (fields_of C p)) js p

pub top-nodes : (C : Catalogue) (fs : List Pair) (R : Mask) (p : Plan) → plan_nodes p ≤ plan_nodes (top_up C fs R p)
unfolding top_up
top-nodes C fs R p = top-cond-nodes (ltb (count_m R) (length (fields_of C p))) (map bare (select R fs)) p

-- ── a projection on top ─────────────────────────────────────────────────────────────────────

-- a plan that stands, whatever cells were taken for it
pub record Based (C : Catalogue) (a : Arrays) (count : ℕ) (r r' : Results) (u : Used) (p : Plan) (rec : ℕ) (v : Used) : Type 0 where
  pub plan : result_at C a r' rec ≡ p
  pub nodes : v.records ≡ u.records + plan_nodes p
  pub more : More u v
  pub grown : Grown u.records u.rows u.cells r r'
  pub ready : Ready C a count r' v

-- it stands behind rows and cells that were taken before
pub based : {C : Catalogue} {a : Arrays} {count : ℕ} {r r₁ r₂ : Results} {u u₁ : Used} {p : Plan} {rec : ℕ} {v : Used} → More u u₁ → u₁.records ≡ u.records
    → Grown u.records u.rows u.cells r r₁ → Stands C a count r₁ r₂ u₁ p rec v → Based C a count r r₂ u p rec v
based m e g x =
    record {
      plan = x.plan;
      nodes = omega (arith, x.nodes);
      more = more_trans m x.more;
      grown = grown_trans m.records m.rows m.cells g x.grown;
      ready = x.ready;
    }

module _ {C : Catalogue} {a : Arrays} {count : ℕ} {r : Results} {s items cells : List ℕ} {u v : Used} {p : Plan} {rec : ℕ}
    (x : Based C a count r (results s items cells) u p rec v) (s' : List ℕ) where
  put_on : {p' : Plan} {made more : ℕ} → OnTop C a count (results s items cells) (results s' items cells) v.records v.rows v.cells p' p made more
      → v.cells ≤ u.cells + plan_tags p' → Stands C a count r (results s' items cells) u p' made (record { records = more; rows = v.rows; cells = v.cells })
  put_on o t =
      record {
        plan = o.result;
        below = o.below;
        nodes = omega (arith, x.nodes, o.nodes);
        tags = t;
        more = record { records = omega (arith, x.nodes, o.nodes); rows = x.more.rows; cells = x.more.cells };
        grown = grown_trans x.more.records x.more.rows x.more.cells x.grown o.grown;
        ready = record { wf = o.wf; records_long = omega (arith, x.ready.records_long, o.grown.records.long); cells_long = x.ready.cells_long; room = x.ready.room };
      }

  -- what the plan became by f, as the projection's answer says
  pub over-walk : (f : Plan → Plan) (t : Result Topped Full) (w : Result Walked Full) {ask : RequiredIndices} {K : Mask} {o : Bool} → v.cells ≤ u.cells + plan_tags (f p) → Asks ask K → o ≡ false
      → TopAnswer C a count (results s items cells) (results s' items cells) v.records v.rows v.cells (f (result_at C a (results s items cells) rec)) (result_at C a (results s items cells) rec) t
      → Over t v ask w → WalkIs C a count r (results s' items cells) u (record { plan = f p; kept = K; overlong = o }) w
  over-walk f t w {ask} {K} {o} l k e answer d =
      by t (subst (λ (q : Plan). TopAnswer C a count (results s items cells) (results s' items cells) v.records v.rows v.cells (f q) q t) x.plan answer) d
    where
      by : (t : Result Topped Full) → TopAnswer C a count (results s items cells) (results s' items cells) v.records v.rows v.cells (f p) p t → Over t v ask w
          → WalkIs C a count r (results s' items cells) u (record { plan = f p; kept = K; overlong = o }) w
      by (Ok t) y q = rw q (put_on y l, k, e)
      by (Err g) y q = rw q (inr (inl (omega (arith, x.nodes, y.tight))))
