-- What `read_plan` answers is right: a law for each way through it. Assumes nothing.
use Prim.Native.Nat.{ℕ, zero, suc, ◌+◌, ◌*◌, ◌≤◌, ◌<◌}
use mathlib.Core.Path.{◌≡◌, refl, ap, ◌∙◌}
use mathlib.Core.List.{List, [], ◌∷◌, ◌++◌}
use native.Mathlib.Omega.{arith}
use lib.ListN.{length, get_or, set}
use lib.Seq.{sets, set_comm}
use borrow.Author.Tests.{lt-ltb, le-ltb, le-leb, lt-leb}
use Rattle.std.specs.Prelude.{Result, Ok, Err}
use Rattle.cpl.specs.Limits.{Version, IsVersion, max_tags, max_nodes}
use Rattle.cpl.specs.Codes.{CUT, MANY}
use Rattle.cpl.specs.Plan.{Leaf, Unary, Binary, Plan, leaf, unary, binary, Catalogue}
use Rattle.cpl.specs.Exprs.{plan_nodes}
use Rattle.cpl.specs.Read.{Res, ok, bad, and_then, node_tag}
use Rattle.cpl.specs.ReadPlan.{Head, h0, h1, h2, read_head, read_inputs, plan_to}
use Rattle.tree.specs.Layout.{leaf_nodes, leaf_rows_in, unary_cells, unary_rows, unary_nodes, unary_rows_in, binary_cells, binary_rows, binary_nodes, binary_rows_in, expr_nodes, plan_rows_in, plan_cells, plan_rows, plan_table}
use Rattle.versions.specs.Versions.{node_rows}
use Rattle.reader_fields.specs.Answers.{spot}
use Rattle.reader_fields.specs.declared.Spot.{Spot}
use Rattle.reader_fields.proofs.Sets.{sets_then}
use Rattle.reader_heads.specs.Heads.{head_cells, head_rows, head_nodes, head_rows_in, numbers, TookHead}
use Rattle.reader_heads.specs.declared.Node.{Node}
use Rattle.reader.specs.Plans.{TookPlan, ReadsPlan}
use Rattle.reader.specs.declared.Planned.{Planned}
use Rattle.refusals.specs.declared.Refusal.{Refusal}
use Rattle.reader.proofs.Rooms.{plan_adds, leaf_adds, unary_adds, binary_adds}
use Rattle.reader.proofs.Sizes.{unary-cells-long, unary-rows-long, binary-cells-long, binary-rows-long, plan-cells-long, plan-rows-long, table-long}

-- ── stores at places that lie apart, in either order ────────────────────────────────────────

set-sets : (ys l : List ℕ) (i j v : ℕ) → i < j → set (sets l j ys) i v ≡ sets (set l i v) j ys
set-sets [] l i j v h = refl
set-sets (y ∷ ys) l i j v h = set-sets ys (set l j y) i (suc j) v (omega arith) ∙ ap (λ (m : List ℕ). sets m (suc j) ys) (set_comm l j i y v (λ e. omega arith))

sets_comm : (xs ys l : List ℕ) (i j : ℕ) → i + length xs ≤ j → sets (sets l j ys) i xs ≡ sets (sets l i xs) j ys
sets_comm [] ys l i j h = refl
sets_comm (x ∷ xs) ys l i j h = ap (λ (m : List ℕ). sets m (suc i) xs) (set-sets ys l i j x (omega arith)) ∙ sets_comm xs ys (set l i x) (suc i) j (omega arith)

-- ── a node, said of the head that was read ──────────────────────────────────────────────────

record Plain (from : Spot) (c c1 w w1 : List ℕ) (n : ℕ) (x : Res Head) (t : Spot) (h : Head) : Type 0 where
  is : x ≡ ok h t.at t.tags n
  made_is : t.made ≡ from.made + head_nodes h
  row_is : t.row ≡ from.row + head_rows_in h
  cells_are : c1 ≡ sets c (3 * from.made) (head_cells from.made h)
  rows_are : w1 ≡ sets w (4 * from.row) (head_rows from.made h)
  grown : from.tags + head_nodes h ≤ t.tags
  few : t.tags ≤ max_tags

plain : {v : Version} {kind filters : ℕ} {from : Spot} {c c1 w w1 : List ℕ} {n : ℕ} {x : Res Head} {t : Spot} {node : Node} {h : Head} → TookHead v kind filters from c c1 w w1 n x t node h → Plain from c c1 w w1 n x t h
plain a =
    record {
      is = rw a.value_is at a.took.is;
      made_is = rw a.value_is at a.took.made_is;
      row_is = rw a.value_is at a.took.row_is;
      cells_are = rw a.value_is at a.took.cells_are;
      rows_are = rw a.value_is at a.took.rows_are;
      grown = rw a.value_is at a.took.grown;
      few = a.took.few;
    }

-- how far the counts are after a node's own fields, and after a plan
pub head_facts : {v : Version} {kind filters : ℕ} {from : Spot} {c c1 w w1 : List ℕ} {n : ℕ} {x : Res Head} {t : Spot} {node : Node} {h : Head} → TookHead v kind filters from c c1 w w1 n x t node h →
    (t.tags ≤ max_tags) × (from.tags ≤ t.tags) × (from.tags + t.made ≤ from.made + t.tags) × (t.row + from.tags ≤ from.row + node_rows v + t.tags)
head_facts a = let b = plain a in omega (arith, b.made_is, b.row_is, b.grown, b.few, a.few_rows)

plan-some : (p : Plan) → 0 < plan_nodes p
unfolding plan_nodes
plan-some (leaf h) = omega arith
plan-some (unary h p) = omega arith
plan-some (binary h p₁ p₂) = omega arith

pub plan_facts : {v : Version} → IsVersion v → {from : Spot} {k : ℕ} {c c1 w w1 m m1 : List ℕ} {x : Res Plan} {t : Spot} {k' : ℕ} → TookPlan v from k c c1 w w1 m m1 x t k' →
    (t.tags ≤ max_tags) × (from.tags ≤ t.tags) × (from.tags + t.made ≤ from.made + t.tags) × (k < k') × (k' ≤ max_nodes) × (t.row + from.tags + node_rows v * k ≤ from.row + node_rows v * k' + t.tags)
plan_facts known {from} {k} {t = t} {k'} a =
    let adds = plan_adds known from.row t.row k k' from.tags t.tags (plan_rows_in a.plan) (plan_nodes a.plan) (expr_nodes a.plan) a.row_is a.few_rows a.count_is a.grown in (
      a.few_tags,
      omega (arith, a.grown),
      omega (arith, a.made_is, a.grown),
      omega (arith, a.count_is, plan-some a.plan),
      a.few_nodes,
      adds,
    )

-- the reader stands at a spot after so many nodes
abbrev pub planned : Spot → ℕ → Planned
planned t k = record { spot = t; nodes = k }

-- ── one step of the reader ──────────────────────────────────────────────────────────────────

-- a plan is refused, at every depth that the nodes left allow
abbrev pub RefusesPlan : Catalogue → List ℕ → (at tags k code place : ℕ) → Type 0
RefusesPlan C file at tags k code place = (deep : ℕ) → max_nodes < k + deep → plan_to C deep file at tags k ≡ bad code place

module _ (C : Catalogue) (file : List ℕ) (at tags k : ℕ) (l : k ≤ max_nodes) where
  pub plan_cut : length file ≤ at → RefusesPlan C file at tags k CUT at
  unfolding plan_to node_tag
  plan_cut h zero d = absurd (omega arith)
  plan_cut h (suc deep) d = rw (lt-leb (at + 1) (length file) (omega arith))

  pub plan_many : at < length file → max_nodes ≤ k → RefusesPlan C file at tags k MANY at
  unfolding plan_to node_tag
  plan_many h g zero d = absurd (omega arith)
  plan_many h g (suc deep) d = rw (le-leb (at + 1) (length file) (omega arith), le-ltb k max_nodes g)

  module _ (inside : at < length file) (few : k < max_nodes) {t : ℕ} (is : t ≡ get_or file at 0) where
    step : (deep : ℕ) →
        plan_to C (suc deep) file at tags k
        ≡ and_then (read_head C at t file (at + 1) tags (k + 1)) (λ h a u m. read_inputs (λ f a' u' m'. plan_to C deep f a' u' m') h file a u m)
    unfolding plan_to node_tag
    step deep = rw (le-leb (at + 1) (length file) (omega arith), lt-ltb k max_nodes few, is)

    pub plan-head-bad : {code place : ℕ} → read_head C at t file (at + 1) tags (k + 1) ≡ bad code place → RefusesPlan C file at tags k code place
    plan-head-bad e zero d = absurd (omega arith)
    plan-head-bad e (suc deep) d = step deep ∙ rw e

    step-leaf : (deep : ℕ) {h : Leaf} {next used : ℕ} → read_head C at t file (at + 1) tags (k + 1) ≡ ok (h0 h) next used (k + 1) → plan_to C (suc deep) file at tags k ≡ ok (leaf h) next used (k + 1)
    unfolding read_inputs
    step-leaf deep e = step deep ∙ rw e

    step-one : (deep : ℕ) {h : Unary} {next used : ℕ} → read_head C at t file (at + 1) tags (k + 1) ≡ ok (h1 h) next used (k + 1) →
        plan_to C (suc deep) file at tags k ≡ and_then (plan_to C deep file next used (k + 1)) (λ p a u m. ok (unary h p) a u m)
    unfolding read_inputs
    step-one deep e = step deep ∙ rw e

    step-two : (deep : ℕ) {h : Binary} {next used : ℕ} → read_head C at t file (at + 1) tags (k + 1) ≡ ok (h2 h) next used (k + 1) →
        plan_to C (suc deep) file at tags k
        ≡ and_then (plan_to C deep file next used (k + 1)) (λ p₁ a u m. and_then (plan_to C deep file a u m) (λ p₂ a' u' m'. ok (binary h p₁ p₂) a' u' m'))
    unfolding read_inputs
    step-two deep e = step deep ∙ rw e

    pub plan-first-bad : {b : Binary} {next used : ℕ} → read_head C at t file (at + 1) tags (k + 1) ≡ ok (h2 b) next used (k + 1) → {code place : ℕ} → RefusesPlan C file next used (k + 1) code place →
        RefusesPlan C file at tags k code place
    plan-first-bad e h zero d = absurd (omega arith)
    plan-first-bad e h (suc deep) d = step-two deep e ∙ rw (h deep (omega arith))

-- ── the answers of `read_plan` ──────────────────────────────────────────────────────────────

unary-took : {v' : Version} → IsVersion v' → (t k : ℕ) (s u v : Spot) (k' : ℕ) (c c1 c2 w w1 w2 m m1 m2 : List ℕ) (node : Node) (g : Unary) {x : Res Head} {y z : Res Plan} →
    TookHead v' t 0 (spot (s.at + 1) s.tags s.made s.row) c c1 w w1 (k + 1) x u node (h1 g) → m1 ≡ sets m (7 * k) (numbers t 0 s.row node) →
    (d : TookPlan v' u (k + 1) c1 c2 w1 w2 m1 m2 y v k') → z ≡ ok (unary g d.plan) v.at v.tags k' → TookPlan v' s k c c2 w w2 m m2 z v k'
unfolding expr_nodes plan_rows_in plan_nodes plan_cells plan_rows plan_table
unary-took known t k s u v k' c c1 c2 w w1 w2 m m1 m2 node g a f d e =
    let b = plain a in
    let p = d.plan in
    record {
      plan = unary g p;
      is = e;
      made_is = omega (arith, b.made_is, d.made_is);
      row_is = omega (arith, b.row_is, d.row_is);
      count_is = omega (arith, d.count_is);
      cells_are =
          rw (← b.made_is)
          (sets_then (unary_cells s.made g) (plan_cells u.made p) c c1 c2 (3 * s.made) (3 * u.made) b.cells_are d.cells_are (omega (arith, b.made_is, unary-cells-long s.made g)));
      rows_are =
          rw (← b.made_is)
          (sets_then (unary_rows s.made g) (plan_rows u.made p) w w1 w2 (4 * s.row) (4 * u.row) b.rows_are d.rows_are (omega (arith, b.row_is, unary-rows-long s.made g)));
      nodes_are =
          rw (← b.made_is, ← b.row_is, ← a.numbers_are)
          (sets_then (numbers t 0 s.row node) (plan_table (k + 1) u.made u.row p) m m1 m2 (7 * k) (7 * (k + 1)) f d.nodes_are (omega arith));
      grown = omega (arith, b.grown, d.grown);
      few_tags = d.few_tags;
      few_nodes = d.few_nodes;
      few_rows = unary_adds known (unary_rows_in g) (unary_nodes g) (plan_rows_in p) (expr_nodes p) (plan_nodes p) (plan_nodes (unary g p)) a.few_rows d.few_rows (omega arith);
    }

binary-took : {v' : Version} → IsVersion v' → (t k : ℕ) (s u v z : Spot) (k₁ k₂ : ℕ) (c c1 c2 c3 w w1 w2 w3 m m1 m2 m3 : List ℕ) (node : Node) (g : Binary) {x : Res Head} {y₁ y₂ y : Res Plan} →
    TookHead v' t 0 (spot (s.at + 1) s.tags s.made s.row) c c1 w w1 (k + 1) x u node (h2 g) → (d : TookPlan v' u (k + 1) c1 c2 w1 w2 m m1 y₁ v k₁) →
    m2 ≡ sets m1 (7 * k) (numbers t k₁ s.row node) → (d₂ : TookPlan v' v k₁ c2 c3 w2 w3 m2 m3 y₂ z k₂) → y ≡ ok (binary g d.plan d₂.plan) z.at z.tags k₂ →
    TookPlan v' s k c c3 w w3 m m3 y z k₂
unfolding expr_nodes plan_rows_in plan_nodes plan_cells plan_rows plan_table
binary-took known t k s u v z k₁ k₂ c c1 c2 c3 w w1 w2 w3 m m1 m2 m3 node g a d f d₂ e =
    let b = plain a in
    let p = d.plan in
    let q = d₂.plan in
    let N : List ℕ = numbers t k₁ s.row node in
    let T : List ℕ = plan_table (k + 1) u.made u.row p in
    record {
      plan = binary g p q;
      is = e;
      made_is = omega (arith, b.made_is, d.made_is, d₂.made_is);
      row_is = omega (arith, b.row_is, d.row_is, d₂.row_is);
      count_is = omega (arith, d.count_is, d₂.count_is);
      cells_are =
          rw (← b.made_is, ← d.made_is)
          (sets_then (binary_cells s.made g) (plan_cells u.made p ++ plan_cells v.made q) c c1 c3 (3 * s.made) (3 * u.made) b.cells_are
          (sets_then (plan_cells u.made p) (plan_cells v.made q) c1 c2 c3 (3 * u.made) (3 * v.made) d.cells_are d₂.cells_are (omega (arith, d.made_is, plan-cells-long u.made p)))
          (omega (arith, b.made_is, binary-cells-long s.made g)));
      rows_are =
          rw (← b.made_is, ← d.made_is)
          (sets_then (binary_rows s.made g) (plan_rows u.made p ++ plan_rows v.made q) w w1 w3 (4 * s.row) (4 * u.row) b.rows_are
          (sets_then (plan_rows u.made p) (plan_rows v.made q) w1 w2 w3 (4 * u.row) (4 * v.row) d.rows_are d₂.rows_are (omega (arith, d.row_is, plan-rows-long u.made p)))
          (omega (arith, b.row_is, binary-rows-long s.made g)));
      nodes_are =
          rw (← b.made_is, ← b.row_is, ← d.made_is, ← d.row_is, ← d.count_is, ← (a.numbers_are k₁))
          (sets_then N (T ++ plan_table k₁ v.made v.row q) m (sets m (7 * k) N) m3 (7 * k) (7 * (k + 1)) refl
          (sets_then T (plan_table k₁ v.made v.row q) (sets m (7 * k) N) m2 m3 (7 * (k + 1)) (7 * k₁)
          (f ∙ ap (λ (l : List ℕ). sets l (7 * k) N) d.nodes_are ∙ sets_comm N T m (7 * k) (7 * (k + 1)) (omega arith)) d₂.nodes_are
          (omega (arith, d.count_is, table-long (k + 1) u.made u.row p)))
          (omega arith));
      grown = omega (arith, b.grown, d.grown, d₂.grown);
      few_tags = d₂.few_tags;
      few_nodes = d₂.few_nodes;
      few_rows = binary_adds known (binary_rows_in g) (binary_nodes g) (plan_rows_in p) (expr_nodes p) (plan_nodes p) (plan_rows_in q) (expr_nodes q) (plan_nodes q) (plan_nodes (binary g p q)) a.few_rows d.few_rows d₂.few_rows (omega arith);
    }

module _ (h : Binary) (read : ℕ → ℕ → ℕ → Res Plan) {x : Res Plan} {p₁ : Plan} {a u m : ℕ} (e : x ≡ ok p₁ a u m) where
  two_ok : {p₂ : Plan} {a' u' m' : ℕ} → read a u m ≡ ok p₂ a' u' m' → and_then x (λ p₁ a u m. and_then (read a u m) (λ p₂ a' u' m'. ok (binary h p₁ p₂) a' u' m')) ≡ ok (binary h p₁ p₂) a' u' m'
  two_ok f = rw (e, f)

  two-bad : {code place : ℕ} → read a u m ≡ bad code place → and_then x (λ p₁ a u m. and_then (read a u m) (λ p₂ a' u' m'. ok (binary h p₁ p₂) a' u' m')) ≡ bad code place
  two-bad f = rw (e, f)

module _ {v' : Version} (known : IsVersion v') (C : Catalogue) (file : List ℕ) (s : Spot) (k : ℕ) (inside : s.at < length file) (few : k < max_nodes) {t : ℕ} (is : t ≡ get_or file s.at 0) (c c1 w w1 : List ℕ) (u : Spot) (node : Node) where
  pub plan-leaf : (m m1 : List ℕ) (filters : ℕ) (h : Leaf) → TookHead v' t filters (spot (s.at + 1) s.tags s.made s.row) c c1 w w1 (k + 1) (read_head C s.at t file (s.at + 1) s.tags (k + 1)) u node (h0 h) →
      m1 ≡ sets m (7 * k) (numbers t filters s.row node) → ReadsPlan v' C file s k c c1 w w1 m m1 (Ok (planned u (k + 1)))
  unfolding expr_nodes plan_rows_in plan_nodes plan_cells plan_rows plan_table
  plan-leaf m m1 filters h a f zero d = absurd (omega arith)
  plan-leaf m m1 filters h a f (suc deep) d =
      let b = plain a in
      record {
        plan = leaf h;
        is = step-leaf C file s.at s.tags k (omega arith) inside few is deep b.is;
        made_is = b.made_is;
        row_is = b.row_is;
        count_is = refl;
        cells_are = b.cells_are;
        rows_are = b.rows_are;
        nodes_are = f ∙ ap (λ (l : List ℕ). sets m (7 * k) l) a.numbers_are;
        grown = b.grown;
        few_tags = b.few;
        few_nodes = omega arith;
        few_rows = leaf_adds known (leaf_rows_in h) (leaf_nodes h) a.few_rows;
      }

  pub plan-one : (c2 w2 m m1 m2 : List ℕ) (h : Unary) → TookHead v' t 0 (spot (s.at + 1) s.tags s.made s.row) c c1 w w1 (k + 1) (read_head C s.at t file (s.at + 1) s.tags (k + 1)) u node (h1 h) →
      m1 ≡ sets m (7 * k) (numbers t 0 s.row node) → (r : Result Planned Refusal) → ReadsPlan v' C file u (k + 1) c1 c2 w1 w2 m1 m2 r → ReadsPlan v' C file s k c c2 w w2 m m2 r
  plan-one c2 w2 m m1 m2 h a f r q zero d = absurd (omega arith)
  plan-one c2 w2 m m1 m2 h a f (Ok r) q (suc deep) d =
      let b = q deep (omega arith) in
      unary-took known t k s u r.spot r.nodes c c1 c2 w w1 w2 m m1 m2 node h a f b (step-one C file s.at s.tags k (omega arith) inside few is deep (plain a).is ∙ rw b.is)
  plan-one c2 w2 m m1 m2 h a f (Err e) q (suc deep) d = step-one C file s.at s.tags k (omega arith) inside few is deep (plain a).is ∙ rw (q deep (omega arith))

  pub head_read : {h : Head} → TookHead v' t 0 (spot (s.at + 1) s.tags s.made s.row) c c1 w w1 (k + 1) (read_head C s.at t file (s.at + 1) s.tags (k + 1)) u node h →
      read_head C s.at t file (s.at + 1) s.tags (k + 1) ≡ ok h u.at u.tags (k + 1)
  head_read a = (plain a).is

  pub plan-two : (c2 c3 w2 w3 m m1 m2 m3 : List ℕ) (v : Spot) (k₁ : ℕ) (h : Binary) →
      TookHead v' t 0 (spot (s.at + 1) s.tags s.made s.row) c c1 w w1 (k + 1) (read_head C s.at t file (s.at + 1) s.tags (k + 1)) u node (h2 h) →
      ReadsPlan v' C file u (k + 1) c1 c2 w1 w2 m m1 (Ok (planned v k₁)) → m2 ≡ sets m1 (7 * k) (numbers t k₁ s.row node) → (r : Result Planned Refusal) → ReadsPlan v' C file v k₁ c2 c3 w2 w3 m2 m3 r →
      ReadsPlan v' C file s k c c3 w w3 m m3 r
  plan-two c2 c3 w2 w3 m m1 m2 m3 v k₁ h a q f r o zero d = absurd (omega arith)
  plan-two c2 c3 w2 w3 m m1 m2 m3 v k₁ h a q f (Ok r) o (suc deep) d =
      let b = q deep (omega arith) in
      let b₂ = o deep (omega (arith, plan_facts known b)) in
      binary-took known t k s u v r.spot k₁ r.nodes c c1 c2 c3 w w1 w2 w3 m m1 m2 m3 node h a b f b₂
      (step-two C file s.at s.tags k (omega arith) inside few is deep (plain a).is ∙ two_ok h (plan_to C deep file) b.is b₂.is)
  plan-two c2 c3 w2 w3 m m1 m2 m3 v k₁ h a q f (Err e) o (suc deep) d =
      let b = q deep (omega arith) in
      step-two C file s.at s.tags k (omega arith) inside few is deep (plain a).is ∙ two-bad h (plan_to C deep file) b.is (o deep (omega (arith, plan_facts known b)))
