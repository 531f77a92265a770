-- What putting a projection on top of a rewritten plan answers.
use Rattle.std.specs.Prelude.{◌≡◌, true, false, List, map, Result, Ok, Err, ℕ, ◌+◌, ◌<◌, ◌≤◌}
use Rattle.cpl.specs.Exprs.{item_tags, plan_nodes}
use Rattle.cpl.specs.Fields.{fields_of}
use Rattle.cpl.specs.Limits.{Version, max_nodes, max_tags}
use Rattle.cpl.specs.Lists.{Fit}
use Rattle.cpl.specs.Plan.{Catalogue, Item, Plan, item_pair}
use Rattle.cpl.specs.Tests.{all_b, sum_of}
use Rattle.rules.specs.Mask.{Mask, select}
use Rattle.rules.specs.Rules.{over_child, top_up}
use Rattle.required_indices.specs.Request.{Asks}
use Rattle.required_indices.specs.declared.RequiredIndices.{RequiredIndices}
use Rattle.arena.specs.Rows.{RowsOk, items_at, root_at}
use Rattle.arena.specs.declared.Full.{Full}
use Rattle.tree.specs.Tree.{Arrays, plan_at}
use Rattle.lookup.specs.Fields.{row_at}
use Rattle.result.specs.Result.{Results, result_at}
use Rattle.result.specs.Records.{Appended, Grown, WfResults, results}
use Rattle.result.specs.declared.Record.{Record}
use Rattle.projections.specs.Lists.{is_bare}
use Rattle.projections.specs.declared.Selection.{Selection}
use Rattle.projections.specs.declared.Selection.TheVariants as selection
use Rattle.projections.specs.declared.Topped.{Topped}

-- a record was put behind those in use, or all 256 are used
abbrev pub PutIs : (s s' : List ℕ) (used : ℕ) → Record → (set : ℕ) → Result Topped Full → Type 0
PutIs s s' used x set (Ok t) = (t.record ≡ used) × (t.used ≡ used + 1) × (used < max_nodes) × Appended s s' used x set
PutIs s s' used x set (Err full) = (max_nodes ≤ used) × (s' ≡ s)

-- ── before ──────────────────────────────────────────────────────────────────────────────────

-- the record stands for node k rewritten: of its fields those of K are left
pub record Narrowed (C : Catalogue) (a : Arrays) (count : ℕ) (r : Results) (used m n rec k : ℕ) (K : Mask) : Type 0 where
  pub wf : WfResults C a count r used m n
  pub below : rec < used
  pub node : k < count
  pub fits : Fit K (fields_of C (plan_at a k))
  pub fields : fields_of C (result_at C a r rec) ≡ select K (fields_of C (plan_at a k))

-- items that stand in the result's own rows, with all that a record of them needs
pub record Held (v : Version) (r : Results) (m n row count : ℕ) (js : List Item) : Type 0 where
  pub means : items_at r.items r.cells row count ≡ js
  pub rows : RowsOk r.items r.cells row count
  pub used : row + count ≤ m
  pub roots : (j : ℕ) → row ≤ j → j < row + count → root_at r.items j < n
  pub few : count ≤ v.max_items
  pub tags : sum_of item_tags js ≤ max_tags

-- ── after ───────────────────────────────────────────────────────────────────────────────────

-- what stood for p' now has p on top, at the record `made`, with at most one record more
pub record OnTop (C : Catalogue) (a : Arrays) (count : ℕ) (r r' : Results) (used m n : ℕ) (p p' : Plan) (made more : ℕ) : Type 0 where
  pub result : result_at C a r' made ≡ p
  pub below : made < more
  pub wf : WfResults C a count r' more m n
  pub grown : Grown used m n r r'
  pub nodes : more + plan_nodes p' ≡ used + plan_nodes p

-- p needs a record more than the 256 that there are
pub record NoRoom (r r' : Results) (used : ℕ) (p p' : Plan) : Type 0 where
  pub same : r' ≡ r
  pub tight : max_nodes + plan_nodes p' < used + plan_nodes p

abbrev pub TopAnswer : (C : Catalogue) (a : Arrays) (count : ℕ) (r r' : Results) (used m n : ℕ) (p p' : Plan) → Result Topped Full → Type 0
TopAnswer C a count r r' used m n p p' (Ok t) = OnTop C a count r r' used m n p p' t.record t.used
TopAnswer C a count r r' used m n p p' (Err full) = NoRoom r r' used p p'

-- whatever tree and result the records are part of. `p` is what is to be made of the input's plan.
abbrev pub Covers : (C : Catalogue) (a : Arrays) (count : ℕ) (s s' items cells : List ℕ) (used m n rec : ℕ) → (Plan → Plan) → Result Topped Full → Type 0
Covers C a count s s' items cells used m n rec p t =
    TopAnswer C a count (results s items cells) (results s' items cells) used m n (p (result_at C a (results s items cells) rec)) (result_at C a (results s items cells) rec) t

-- node k was asked for Q
pub record ToppedUp (s s' : List ℕ) (used rec k : ℕ) (asked kept : RequiredIndices) (t : Result Topped Full) : Type 0 where
  pub covers : (C : Catalogue) (a : Arrays) (count : ℕ) (items cells : List ℕ) (m n : ℕ) (K Q : Mask)
      → Narrowed C a count (results s items cells) used m n rec k K → Asks kept K → Asks asked Q → Fit Q (fields_of C (plan_at a k))
      → Covers C a count s s' items cells used m n rec (top_up C (fields_of C (plan_at a k)) Q) t

-- the kept items js of the list `is`: bare columns, the fields of node `top`; or held in the result's rows. Those fields are `width` from field
-- `start` on, those of the input, node k, `below` from field `lower` on.
pub record AsColumns (C : Catalogue) (a : Arrays) (count : ℕ) (fields : List ℕ) (top start width k lower below : ℕ) (is js : List Item) : Type 0 where
  pub bare : all_b is_bare js ≡ true
  pub node : top < count
  pub fields_are : map item_pair is ≡ fields_of C (plan_at a top)
  pub row : row_at fields start width ≡ fields_of C (plan_at a top)
  pub input_row : row_at fields lower below ≡ fields_of C (plan_at a k)

pub record AsItems (v : Version) (r : Results) (m n row size : ℕ) (js : List Item) : Type 0 where
  pub named : all_b is_bare js ≡ false
  pub held : Held v r m n row size js

abbrev pub ListIs : (C : Catalogue) (a : Arrays) (count : ℕ) (r : Results) (m n : ℕ) (fields : List ℕ) (top start width k lower below : ℕ) (is js : List Item) → Selection → Type 0
ListIs C a count r m n fields top start width k lower below is js selection.Columns = AsColumns C a count fields top start width k lower below is js
ListIs C a count r m n fields top start width k lower below is js (selection.Items row size) = AsItems C.version r m n row size js

pub record ProjectionPut (s s' : List ℕ) (used rec : ℕ) (list : Selection) (fields : List ℕ) (top start width : ℕ) (kept : RequiredIndices) (lower below : ℕ) (input-kept : RequiredIndices) (t : Result Topped Full) : Type 0 where
  pub covers : (C : Catalogue) (a : Arrays) (count : ℕ) (items cells : List ℕ) (m n k : ℕ) (K R : Mask) (is : List Item)
      → Narrowed C a count (results s items cells) used m n rec k K → Asks input-kept K → Asks kept R → Fit R is
      → ListIs C a count (results s items cells) m n fields top start width k lower below is (select R is) list
      → Covers C a count s s' items cells used m n rec (over_child C (select R is)) t
