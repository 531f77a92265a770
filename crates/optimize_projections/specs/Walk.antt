-- What the walk says: the plan that it makes is the one that the rules give, or the result is too large.
use Rattle.std.specs.Prelude.{◌≡◌, ◌⊎◌, Result, Ok, Err, Bool, true, false, cond, ◌||◌, List, map, ℕ, ◌+◌, ◌*◌, ◌<◌, ◌≤◌, length}
use Rattle.std.proofs.Math.Option.{none, some}
use Rattle.cpl.specs.Exprs.{plan_nodes, plan_tags}
use Rattle.cpl.specs.Fields.{fields_of}
use Rattle.cpl.specs.Limits.{max_nodes, max_tags}
use Rattle.cpl.specs.Lists.{Fit}
use Rattle.cpl.specs.Plan.{Catalogue, Plan, item_pair}
use Rattle.rules.specs.Mask.{Mask}
use Rattle.rules.specs.Merge.{Merge, merge_step}
use Rattle.rules.specs.Rewrite as rules
use Rattle.rules.specs.Rewrite.{input, walk}
use Rattle.rules.specs.Items.{Items}
use Rattle.required_indices.specs.Request.{Asks, flag_of}
use Rattle.required_indices.specs.declared.RequiredIndices.{RequiredIndices}
use Rattle.arena.specs.declared.Full.{Full}
use Rattle.tree.specs.Tree.{Arrays, lent, plan_at}
use Rattle.lookup.specs.Standing.{Standing}
use Rattle.result.specs.Result.{Results, record_n, result_at}
use Rattle.result.specs.Records.{Grown, WfResults}
use Rattle.jobs.specs.Asked.{AllKeys}
use Rattle.jobs.specs.declared.Job.{Job}
use Rattle.jobs.specs.declared.Todo.{Todo}
use Rattle.jobs.specs.declared.Todo.TheVariants as todos
use Rattle.projections.specs.Lists.{Room}
use Rattle.walk_steps.specs.Steps.{ListOk, pending_items}
use Rattle.walk_steps.specs.declared.Inputs.{Inputs}
use Rattle.walk_steps.specs.declared.Pending.{Pending}
use Rattle.walk_steps.specs.declared.Used.{Used}
use Rattle.walk_steps.specs.declared.Walked.{Walked}
use Rattle.optimize_projections.specs.declared.Settings.{Settings}

-- the merge step of the settings
abbrev pub merge_by : Settings → Merge
merge_by s = merge_step s.house s.mask

-- ── where the result stands ─────────────────────────────────────────────────────────────────

-- the records, rows and cells in use can be gone through and added to: there is room for 256 records and for 4,096 cells, with rows enough
pub record Ready (C : Catalogue) (a : Arrays) (count : ℕ) (r : Results) (u : Used) : Type 0 where
  pub wf : WfResults C a count r u.records u.rows u.cells
  pub records_long : max_nodes * record_n ≤ length r.records
  pub cells_long : max_tags * 3 ≤ length r.cells
  pub room : Room r.items r.cells u.rows u.cells

-- no less is in use than before
pub record More (u v : Used) : Type 0 where
  pub records : u.records ≤ v.records
  pub rows : u.rows ≤ v.rows
  pub cells : u.cells ≤ v.cells

-- ── what is answered ────────────────────────────────────────────────────────────────────────

-- record `rec` stands for p. Each node of p took a record, and no more cells were taken than p has tags.
pub record Stands (C : Catalogue) (a : Arrays) (count : ℕ) (r r' : Results) (u : Used) (p : Plan) (rec : ℕ) (v : Used) : Type 0 where
  pub plan : result_at C a r' rec ≡ p
  pub below : rec < v.records
  pub nodes : v.records ≡ u.records + plan_nodes p
  pub tags : v.cells ≤ u.cells + plan_tags p
  pub more : More u v
  pub grown : Grown u.records u.rows u.cells r r'
  pub ready : Ready C a count r' v

-- "a merge step's list is over 4,096 tags, or the result breaks the node or tag limit", where u was in use before
abbrev pub TooLarge : (u : Used) (overlong : Bool) (nodes tags : ℕ) → Type 0
TooLarge u overlong nodes tags = (overlong ≡ true) ⊎ ((max_nodes < u.records + nodes) ⊎ (max_tags < u.cells + tags))

-- the plan w of the rules, with the fields that are left
abbrev pub WalkIs : (C : Catalogue) (a : Arrays) (count : ℕ) (r r' : Results) (u : Used) (w : rules.Walked) → Result Walked Full → Type 0
WalkIs C a count r r' u w (Ok v) = Stands C a count r r' u w.plan v.root v.used × Asks v.kept w.kept × (w.overlong ≡ false)
WalkIs C a count r r' u w (Err e) = TooLarge u w.overlong (plan_nodes w.plan) (plan_tags w.plan)

-- ── a node, asked for R ─────────────────────────────────────────────────────────────────────

pub record Before (cells rows nodes fields widths keys : List ℕ) (r : Results) (k : ℕ) (request : RequiredIndices) (u : Used) : Type 0 where
  pub standing : Standing cells rows nodes fields widths
  pub keyed : AllKeys standing keys
  pub within : k < standing.count
  pub ready : Ready standing.C (lent cells rows nodes) standing.count r u
  pub R : Mask
  pub fit : Fit R (fields_of standing.C (plan_at (lent cells rows nodes) k))
  pub asks : Asks request R

-- as the rules say of the plan at node k
pub record After (s : Settings) (cells rows nodes fields widths keys : List ℕ) (r r' : Results) (k : ℕ) (request : RequiredIndices) (u : Used) (w : Result Walked Full) : Type 0 where
  pub is : (b : Before cells rows nodes fields widths keys r k request u)
      → WalkIs b.standing.C (lent cells rows nodes) b.standing.count r r' u
      (walk (merge_by s) b.standing.C (plan_at (lent cells rows nodes) k) none (flag_of request) b.R) w

-- ── an input, asked for R and topped up where that is wanted ────────────────────────────────

abbrev pub input_walk : Merge → Catalogue → Plan → (b topped : Bool) → Mask → rules.Walked
input_walk M C p b topped R =
    let w = walk M C p none b R in
    record { plan = input C (fields_of C p) topped R w.plan; kept = cond topped R w.kept; overlong = w.overlong }

pub record InputAfter (s : Settings) (cells rows nodes fields widths keys : List ℕ) (r r' : Results) (k : ℕ) (request : RequiredIndices) (topped : Bool) (u : Used) (w : Result Walked Full) : Type 0 where
  pub is : (b : Before cells rows nodes fields widths keys r k request u)
      → WalkIs b.standing.C (lent cells rows nodes) b.standing.count r r' u
      (input_walk (merge_by s) b.standing.C (plan_at (lent cells rows nodes) k) (flag_of request) topped b.R) w

-- ── a node with a projection still to be put on top, asked for R ────────────────────────────

pub record BeforeList (cells rows nodes fields widths keys arows acells : List ℕ) (r : Results) (k : ℕ) (l : Pending) (request : RequiredIndices) (u : Used) : Type 0 where
  pub standing : Standing cells rows nodes fields widths
  pub keyed : AllKeys standing keys
  pub within : k < standing.count
  pub ready : Ready standing.C (lent cells rows nodes) standing.count r u
  pub list : ListOk l rows cells arows acells
  pub items : Items standing.C.version (fields_of standing.C (plan_at (lent cells rows nodes) k)) (pending_items l rows cells arows acells)
  pub top : l.top < standing.count
  pub pairs : map item_pair (pending_items l rows cells arows acells) ≡ fields_of standing.C (plan_at (lent cells rows nodes) l.top)
  pub R : Mask
  pub fit : Fit R (pending_items l rows cells arows acells)
  pub asks : Asks request R

pub record ListAfter (s : Settings) (cells rows nodes fields widths keys arows acells : List ℕ) (r r' : Results) (k : ℕ) (l : Pending) (request : RequiredIndices) (u : Used) (w : Result Walked Full) : Type 0 where
  pub is : (b : BeforeList cells rows nodes fields widths keys arows acells r k l request u)
      → WalkIs b.standing.C (lent cells rows nodes) b.standing.count r r' u
      (walk (merge_by s) b.standing.C (plan_at (lent cells rows nodes) k) (some (pending_items l rows cells arows acells)) (flag_of request) b.R) w

-- put over node k as it is: no step of merging applies
pub record PutAfter (s : Settings) (cells rows nodes fields widths keys arows acells : List ℕ) (r r' : Results) (k : ℕ) (l : Pending) (request : RequiredIndices) (u : Used) (w : Result Walked Full) : Type 0 where
  pub is : (b : BeforeList cells rows nodes fields widths keys arows acells r k l request u)
      → WalkIs b.standing.C (lent cells rows nodes) b.standing.count r r' u
      (rules.pend b.standing.C (some (pending_items l rows cells arows acells)) (fields_of b.standing.C (plan_at (lent cells rows nodes) k))
      (walk (merge_by s) b.standing.C (plan_at (lent cells rows nodes) k) none) (flag_of request) b.R) w

-- ── the inputs of a node, as its job asks ───────────────────────────────────────────────────

-- input k is asked for Q
pub record InputAsked (C : Catalogue) (a : Arrays) (count k : ℕ) (ask : RequiredIndices) (Q : Mask) : Type 0 where
  pub within : k < count
  pub fit : Fit Q (fields_of C (plan_at a k))
  pub asks : Asks ask Q

abbrev pub InputsAsked : (C : Catalogue) (a : Arrays) (count k : ℕ) (j : Job) (Q P : Mask) → Todo → Type 0
InputsAsked C a count k j Q P todos.Leaf = Unit {0}
InputsAsked C a count k j Q P todos.Nothing = Unit {0}
InputsAsked C a count k j Q P todos.Same = InputAsked C a count (k + 1) j.ask Q
InputsAsked C a count k j Q P (todos.One topped) = InputAsked C a count (k + 1) j.ask Q
InputsAsked C a count k j Q P (todos.Two right) = InputAsked C a count (k + 1) j.ask Q × InputAsked C a count right j.second P × (k < right)

pub record BeforeInputs (cells rows nodes fields widths keys : List ℕ) (r : Results) (k : ℕ) (j : Job) (u : Used) : Type 0 where
  pub standing : Standing cells rows nodes fields widths
  pub keyed : AllKeys standing keys
  pub within : k < standing.count
  pub ready : Ready standing.C (lent cells rows nodes) standing.count r u
  pub Q : Mask
  pub P : Mask
  pub asked : InputsAsked standing.C (lent cells rows nodes) standing.count k j Q P j.todo

-- no input
abbrev pub NoInputs : Used → Result Inputs Full → Type 0
NoInputs u (Ok i) = (i.first ≡ 0) × (i.second ≡ 0) × (i.used ≡ u)
NoInputs u (Err e) = ⊥

-- one input
abbrev pub one_walked : Inputs → Walked
one_walked i = record { root = i.first; used = i.used; kept = i.kept }

abbrev pub one_end : Result Inputs Full → Result Walked Full
one_end (Ok i) = Ok (one_walked i)
one_end (Err e) = Err e

-- both inputs' plans, w₁ and w₂
pub record StandTwo (C : Catalogue) (a : Arrays) (count : ℕ) (r r' : Results) (u : Used) (p q : Plan) (f g : ℕ) (v : Used) : Type 0 where
  pub first : result_at C a r' f ≡ p
  pub first_below : f < v.records
  pub second : result_at C a r' g ≡ q
  pub second_below : g < v.records
  pub nodes : v.records ≡ u.records + (plan_nodes p + plan_nodes q)
  pub tags : v.cells ≤ u.cells + (plan_tags p + plan_tags q)
  pub more : More u v
  pub grown : Grown u.records u.rows u.cells r r'
  pub ready : Ready C a count r' v

abbrev pub TwoIs : (C : Catalogue) (a : Arrays) (count : ℕ) (r r' : Results) (u : Used) (w₁ w₂ : rules.Walked) → Result Inputs Full → Type 0
TwoIs C a count r r' u w₁ w₂ (Ok i) = StandTwo C a count r r' u w₁.plan w₂.plan i.first i.second i.used × (w₁.overlong || w₂.overlong ≡ false)
TwoIs C a count r r' u w₁ w₂ (Err e) =
    TooLarge u (w₁.overlong || w₂.overlong) (plan_nodes w₁.plan + plan_nodes w₂.plan) (plan_tags w₁.plan + plan_tags w₂.plan)

-- what is answered of the inputs of node k, by what is to be done
abbrev pub InputsIs : (M : Merge) (C : Catalogue) (a : Arrays) (count : ℕ) (r r' : Results) (u : Used) (k : ℕ) (j : Job) (Q P : Mask) (i : Result Inputs Full) → Todo → Type 0
InputsIs M C a count r r' u k j Q P i todos.Leaf = NoInputs u i × (r' ≡ r)
InputsIs M C a count r r' u k j Q P i todos.Nothing = NoInputs u i × (r' ≡ r)
InputsIs M C a count r r' u k j Q P i todos.Same = WalkIs C a count r r' u (input_walk M C (plan_at a (k + 1)) (flag_of j.ask) false Q) (one_end i)
InputsIs M C a count r r' u k j Q P i (todos.One topped) = WalkIs C a count r r' u (input_walk M C (plan_at a (k + 1)) (flag_of j.ask) topped Q) (one_end i)
InputsIs M C a count r r' u k j Q P i (todos.Two right) =
    TwoIs C a count r r' u (input_walk M C (plan_at a (k + 1)) (flag_of j.ask) true Q) (input_walk M C (plan_at a right) (flag_of j.second) true P) i

pub record InputsAfter (s : Settings) (cells rows nodes fields widths keys : List ℕ) (r r' : Results) (k : ℕ) (j : Job) (u : Used) (i : Result Inputs Full) : Type 0 where
  pub is : (b : BeforeInputs cells rows nodes fields widths keys r k j u)
      → InputsIs (merge_by s) b.standing.C (lent cells rows nodes) b.standing.count r r' u k j b.Q b.P i j.todo
