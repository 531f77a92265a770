-- What a job that was worked out says of the rule of its node.
use Rattle.std.specs.Prelude.{◌≡◌, Bool, true, false, List, ◌++◌, ℕ, ◌+◌, ◌*◌, ◌^◌, ◌<◌, ◌≤◌, T, length}
use Rattle.cpl.specs.Accept.{even}
use Rattle.cpl.specs.Fields.{leaf_fields, unary_fields, binary_fields, fields_of, join_fields}
use Rattle.cpl.specs.Lists.{Fit}
use Rattle.cpl.specs.Plan.{Pair, Expr, Leaf, Unary, projection, filter, sort, limit, aggregate, window, subquery_alias, distinct, Binary, Plan, leaf, unary, Catalogue}
use Rattle.cpl.specs.ReadPlan.{h0, h1, h2}
use Rattle.rules.specs.Keys.{key_of}
use Rattle.rules.specs.Mask.{Mask}
use Rattle.rules.specs.Rules as rules
use Rattle.rules.specs.Rules.{leaf_rule, leaf_kept, unary_job, plus, left_ask, right_ask, binary_kept}
use Rattle.required_indices.specs.Request.{Asks, flag_of, set_of, words_n}
use Rattle.required_indices.specs.declared.RequiredIndices.{RequiredIndices}
use Rattle.tree.specs.Node.{join_is}
use Rattle.tree.specs.Shows.{HasInput, HasInputs}
use Rattle.tree.specs.Tree.{Arrays, head_of, lent, plan_at}
use Rattle.tree.specs.declared.Node.{Node}
use Rattle.tree.specs.declared.JoinType.{JoinType}
use Rattle.tree.specs.declared.JoinType.TheVariants.{Inner, Left, Right, Full, LeftSemi, LeftAnti, RightSemi, RightAnti}
use Rattle.result.specs.Result.{leaf_part, unary_part, nothing_left}
use Rattle.result.specs.Records.{LeafSet, UnarySet}
use Rattle.jobs.specs.Asked.{Asked}
use Rattle.jobs.specs.declared.Job.{Job}
use Rattle.jobs.specs.declared.Todo.{Todo}
use Rattle.jobs.specs.declared.Todo.TheVariants as todos
use Rattle.jobs.specs.declared.Rest.{Rest}
use Rattle.jobs.specs.declared.Rest.TheVariants as rests

-- ── which fields are left ───────────────────────────────────────────────────────────────────

-- those of the input, and behind them the job's set
pub record ThenIs (fs : List Pair) (g : Mask → Mask) (set : RequiredIndices) (width : ℕ) : Type 0 where
  pub S : Mask
  pub wide : width ≡ length fs
  pub few : length fs + length S ≤ words_n * 64
  pub asks : Asks set S
  pub is : (K : Mask) → g K ≡ K ++ S

-- the job's own
pub record OwnIs (g : Mask → Mask) (kept : RequiredIndices) : Type 0 where
  pub L : Mask
  pub asks : Asks kept L
  pub is : (K : Mask) → g K ≡ L

-- of the input's fields K that are left, the node's that are: g K; by a job's set, its own fields and its rest
abbrev pub RestBy : List Pair → (Mask → Mask) → (set kept : RequiredIndices) → Rest → Type 0
RestBy fs g set kept rests.Input = (K : Mask) → g K ≡ K
RestBy fs g set kept (rests.InputThen width) = ThenIs fs g set width
RestBy fs g set kept rests.Own = OwnIs g kept

abbrev pub RestIs : List Pair → (Mask → Mask) → Job → Rest → Type 0
RestIs fs g j rest = RestBy fs g j.set j.kept rest

pub record LeftBy (rest : Rest) (set kept : RequiredIndices) : Type 0 where
  pub fields : List Pair
  pub left : Mask → Mask
  pub is : RestBy fields left set kept rest

abbrev pub Leftover : Job → Type 0
Leftover j = LeftBy j.rest j.set j.kept

pub record KeptBy (rest : Rest) (set kept input out : RequiredIndices) : Type 0 where
  pub asks : (fs : List Pair) (g : Mask → Mask) (K : Mask) → RestBy fs g set kept rest → length K ≡ length fs → Asks input K → Asks out (g K)

abbrev pub KeptOf : Job → (input out : RequiredIndices) → Type 0
KeptOf j input out = KeptBy j.rest j.set j.kept input out

-- ── a node with one input, over the input's key and its fields fs ───────────────────────────

pub record Posed (h : Unary) (fs : List Pair) (r : RequiredIndices) (R : Mask) : Type 0 where
  pub few : length (unary_fields h fs) ≤ words_n * 64
  pub fit : Fit R (unary_fields h fs)
  pub asks : Asks r R

-- nothing is left but the one-row Empty
pub record NothingIs (C : Catalogue) (h : Unary) (key : List ℕ) (fs : List Pair) (b : Bool) (R : Mask) (j : Job) : Type 0 where
  pub K : Mask
  pub job : unary_job C h key fs b R ≡ rules.done nothing_left K
  pub kept : Asks j.kept K

-- the input is asked for Q, with the flag that the rule has
pub record InputIs (C : Catalogue) (h : Unary) (key : List ℕ) (fs : List Pair) (b : Bool) (R : Mask) (topped : Bool) (node : Plan → Plan) (j : Job) : Type 0 where
  pub Q : Mask
  pub left : Mask → Mask
  pub job : unary_job C h key fs b R ≡ rules.ask (flag_of j.ask) Q topped node left
  pub asks : Asks j.ask Q
  pub fit : Fit Q fs
  pub set : UnarySet (set_of j.set) h
  pub rest : RestIs fs left j j.rest

-- the rule's job, by what is to be done
abbrev pub OneIs : Catalogue → Unary → (key : List ℕ) (fs : List Pair) (b : Bool) → Mask → Job → Todo → Type 0
OneIs C h key fs b R j todos.Leaf = ⊥
OneIs C h key fs b R j todos.Nothing = NothingIs C h key fs b R j
OneIs C h key fs b R j todos.Same = InputIs C h key fs b R false (λ p. p) j
OneIs C h key fs b R j (todos.One topped) = InputIs C h key fs b R topped (unary (unary_part (set_of j.set) h)) j
OneIs C h key fs b R j (todos.Two right) = ⊥

pub record OneJob (h : Unary) (key : List ℕ) (fs : List Pair) (r : RequiredIndices) (j : Job) : Type 0 where
  pub is : (C : Catalogue) (R : Mask) → Posed h fs r R → OneIs C h key fs (flag_of r) R j j.todo

-- the input asked with `ask`, whose fields that are left are the node's
pub record Through (ask : RequiredIndices) (topped : Bool) (j : Job) : Type 0 where
  pub todo_is : j.todo ≡ todos.One topped
  pub rest_is : j.rest ≡ rests.Input
  pub ask_is : j.ask ≡ ask

-- ── a node with two inputs, over their fields fl and fr ─────────────────────────────────────

pub record PosedTwo (h : Binary) (fl fr : List Pair) (r : RequiredIndices) (R : Mask) : Type 0 where
  pub as_wide : T (even h fl fr)
  pub few : length (binary_fields h fl fr) ≤ words_n * 64
  pub fit : Fit R (binary_fields h fl fr)
  pub asks : Asks r R

pub record TwoIs (h : Binary) (fl fr : List Pair) (R : Mask) (j : Job) : Type 0 where
  pub asks : Asks j.ask (left_ask h fl fr R)
  pub flag : flag_of j.ask ≡ true
  pub fit : Fit (left_ask h fl fr R) fl
  pub second_asks : Asks j.second (right_ask h fl fr R)
  pub second_flag : flag_of j.second ≡ true
  pub second_fit : Fit (right_ask h fl fr R) fr
  pub kept : Asks j.kept (binary_kept h fl fr R)

pub record TwoJob (h : Binary) (fl fr : List Pair) (r : RequiredIndices) (right : ℕ) (j : Job) : Type 0 where
  pub todo_is : j.todo ≡ todos.Two right
  pub is : (R : Mask) → PosedTwo h fl fr r R → TwoIs h fl fr R j

-- one side of a join: its part of the request and the columns of es, with the flag
pub record Sided (es : List Expr) (fs : List Pair) (part out : RequiredIndices) : Type 0 where
  pub flag : flag_of out ≡ true
  pub asks : (Q : Mask) → Fit Q fs → Asks part Q → Asks out (plus es fs Q)

-- the two sides' sets can be joined
abbrev pub Joinable : JoinType → (left : ℕ) → RequiredIndices → Type 0
Joinable Inner left q = set_of q * 2 ^ left < 2 ^ (words_n * 64)
Joinable Left left q = set_of q * 2 ^ left < 2 ^ (words_n * 64)
Joinable Right left q = set_of q * 2 ^ left < 2 ^ (words_n * 64)
Joinable Full left q = set_of q * 2 ^ left < 2 ^ (words_n * 64)
Joinable LeftSemi left q = Unit {0}
Joinable LeftAnti left q = Unit {0}
Joinable RightSemi left q = Unit {0}
Joinable RightAnti left q = Unit {0}

pub record Joined (t : JoinType) (left : ℕ) (p q out : RequiredIndices) : Type 0 where
  pub asks : (K L : Mask) → left ≡ length K → Asks p K → Asks q L → Asks out (join_fields (join_is t) K L)

-- ── a node with no input ────────────────────────────────────────────────────────────────────

pub record LeafIs (C : Catalogue) (h : Leaf) (R : Mask) (j : Job) : Type 0 where
  pub part : leaf_part C (set_of j.set) h ≡ leaf_rule C h R
  pub set : LeafSet C (set_of j.set) h
  pub kept : Asks j.kept (leaf_kept h R)

pub record LeafJob (h : Leaf) (r : RequiredIndices) (j : Job) : Type 0 where
  pub todo_is : j.todo ≡ todos.Leaf
  pub is : (C : Catalogue) (R : Mask) → Fit R (leaf_fields C h) → Asks r R → LeafIs C h R j

-- ── node k of a plan ────────────────────────────────────────────────────────────────────────

abbrev pub NoProjection : Unary → Type 0
NoProjection (projection is) = ⊥
NoProjection (filter e) = Unit {0}
NoProjection (sort ks) = Unit {0}
NoProjection (limit s n) = Unit {0}
NoProjection (aggregate gs vs) = Unit {0}
NoProjection (window ws) = Unit {0}
NoProjection (subquery_alias q) = Unit {0}
NoProjection distinct = Unit {0}

pub record AtLeaf (C : Catalogue) (a : Arrays) (k : ℕ) (node : Node) (R : Mask) (j : Job) : Type 0 where
  pub h : Leaf
  pub head : head_of a node ≡ h0 h
  pub plan : plan_at a k ≡ leaf h
  pub job : LeafIs C h R j

pub record AtOne (C : Catalogue) (a : Arrays) (count k : ℕ) (node : Node) (b : Bool) (R : Mask) (j : Job) (todo : Todo) : Type 0 where
  pub h : Unary
  pub head : head_of a node ≡ h1 h
  pub input : HasInput a count k h
  pub other : NoProjection h
  pub job : OneIs C h (key_of C (plan_at a (k + 1))) (fields_of C (plan_at a (k + 1))) b R j todo

pub record AtTwo (C : Catalogue) (a : Arrays) (count k : ℕ) (node : Node) (R : Mask) (right : ℕ) (j : Job) : Type 0 where
  pub h : Binary
  pub head : head_of a node ≡ h2 h
  pub inputs : HasInputs a count k right h
  pub job : TwoIs h (fields_of C (plan_at a (k + 1))) (fields_of C (plan_at a right)) R j

-- what is to be done at node k, asked for R with the flag b
abbrev pub AtNode : Catalogue → Arrays → (count k : ℕ) → Node → (b : Bool) → Mask → Job → Todo → Type 0
AtNode C a count k node b R j todos.Leaf = AtLeaf C a k node R j
AtNode C a count k node b R j todos.Nothing = AtOne C a count k node b R j todos.Nothing
AtNode C a count k node b R j todos.Same = AtOne C a count k node b R j todos.Same
AtNode C a count k node b R j (todos.One topped) = AtOne C a count k node b R j (todos.One topped)
AtNode C a count k node b R j (todos.Two right) = AtTwo C a count k node R right j

pub record JobAt (cells rows fields widths keys : List ℕ) (node : Node) (k : ℕ) (r : RequiredIndices) (j : Job) : Type 0 where
  pub is : (q : Asked cells rows fields widths keys node k r)
      → AtNode q.standing.C (lent cells rows q.nodes) q.standing.count k node (flag_of r) q.R j j.todo
