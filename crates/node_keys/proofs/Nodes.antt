-- The key of a node by its kind, and the keys of all nodes. Assumes nothing.
use mathlib.Core.Path.{◌≡◌, refl, sym, ap, subst, ◌∙◌}
use mathlib.Core.Logic.{◌⊎◌, inl, inr, ⊎_elim}
use mathlib.Core.Bool.{Bool, true, false, true≢false}
use mathlib.Core.List.{List, []}
use Prim.Native.Nat.{ℕ, zero, suc, ◌+◌, ◌*◌, ◌≤◌, ◌<◌}
use native.Mathlib.Omega.{arith}
use lib.Dec.{eqb}
use lib.ListN.{length}
use Rattle.cpl.specs.Lists.{All, a[], ◌a∷◌}
use Rattle.cpl.specs.Plan.{Binary, Leaf, Pair, Plan, Unary, empty, names_of, projection, scan}
use Rattle.cpl.specs.ReadPlan.{Head, h0, h1, h2}
use Rattle.cpl.specs.Tests.{any_b}
use Rattle.cpl.specs.Writable.{FitColumns, FitLeaf, FitList, FitPlan, FitUnary}
use Rattle.cpl.proofs.CatalogueTrip.{few-columns}
use Rattle.rules.specs.Keys.{carried, key_of, leaf_key, places_of, unary_key}
use Rattle.versions.proofs.Small.{small}
use Rattle.required_indices.specs.Request.{Holds, set_of, words_n}
use Rattle.required_indices.specs.Set.{has}
use Rattle.required_indices.specs.declared.RequiredIndices.{RequiredIndices}
use Rattle.required_indices.proofs.Members.{has-none, side}
use Rattle.arena.specs.Rows.{RowsOk, item_at, items_at}
use Rattle.tree.specs.Rows.{columns_at, exprs_at, list_at, number_at, one}
use Rattle.tree.specs.Shows.{HasInput, Stands, TakenApart}
use Rattle.tree.specs.Tree.{Arrays, head_of, if?, lent, plan_at, right_of}
use Rattle.tree.specs.declared.Node.{Node}
use Rattle.tree.specs.declared.Node.TheVariants.{Projection, Filter, Sort, Limit, Aggregate, Window, SubqueryAlias, Union, Distinct, Join, Scan, Empty}
use Rattle.tree.specs.declared.JoinNode.{JoinNode}
use Rattle.tree.specs.declared.ScanNode.{ScanNode}
use Rattle.lookup.specs.Fields.{RowIn, first_at, row_at, width_at}
use Rattle.lookup.specs.Standing.{Standing}
use Rattle.lookup.proofs.Lists.{list_length}
use Rattle.lookup.proofs.Standing.{fields-few, row_in, row_is, row-long}
use Rattle.key_sets.specs.Slots.{KeySet, PutKey, SlotIn, TableKeys, node_slot, slot_at}
use Rattle.node_keys.specs.Found.{ColumnsIn}
use Rattle.node_keys.specs.Keys.{HasNone, NodeAsked, NodeKeyIs, NodeKeys, PassesOn, PlanAsked, ProjectionKey, ScanIn, ScanKey}
use Rattle.node_keys.proofs.Steps.{items-list}

-- ── sets and keys ───────────────────────────────────────────────────────────────────────────

-- no key
empty-set : {s : ℕ} {key : List ℕ} → s ≡ 0 → key ≡ [] → KeySet s key
unfolding any_b
empty-set {s} {key} e d = record { members = λ i. ap (λ x. has x i) e ∙ (has-none i ∙ sym (ap (any_b (eqb i)) d)) }

pub key_as : {s t : ℕ} {key key' : List ℕ} → KeySet s key → t ≡ s → key ≡ key' → KeySet t key'
key_as h e d = record { members = λ i. ap (λ x. has x i) e ∙ (h.members i ∙ ap (any_b (eqb i)) d) }

-- ── what each kind does with its input's key ────────────────────────────────────────────────

abbrev Passes : Unary → Type 0
Passes h = (fs : List Pair) (key : List ℕ) → unary_key h fs key ≡ key

abbrev Drops : Unary → Type 0
Drops h = (fs : List Pair) (key : List ℕ) → unary_key h fs key ≡ []

-- a node that passes its input's key on
pub record Through (a : Arrays) (n : Node) : Type 0 where
  pub head : Unary
  pub is : head_of a n ≡ h1 head
  pub passes : Passes head

pub through : (a : Arrays) (n : Node) → PassesOn n → Through a n
unfolding unary_key
through a (Projection f n) p = absurd p
through a (Filter r) p = record { head = _; is = refl; passes = λ fs key. refl }
through a (Sort f n) p = record { head = _; is = refl; passes = λ fs key. refl }
through a (Limit s n) p = record { head = _; is = refl; passes = λ fs key. refl }
through a (Aggregate f g v) p = absurd p
through a (Window f n) p = absurd p
through a (SubqueryAlias q) p = record { head = _; is = refl; passes = λ fs key. refl }
through a (Union r) p = absurd p
through a Distinct p = absurd p
through a (Join j) p = absurd p
through a (Scan s) p = absurd p
through a (Empty b f n) p = absurd p

-- the kinds that pass it on, and those that have none
pub passes : {n : Node}
    → ((r : ℕ) × (n ≡ Filter r)) ⊎ (((f m : ℕ) × (n ≡ Sort f m)) ⊎ (((s m : ℕ) × (n ≡ Limit s m)) ⊎ ((q : ℕ) × (n ≡ SubqueryAlias q)))) → PassesOn n
passes (inl h) = rw h.1 tt
passes (inr (inl h)) = rw h.2 tt
passes (inr (inr (inl h))) = rw h.2 tt
passes (inr (inr (inr h))) = rw h.1 tt

pub has_none : {n : Node}
    → ((f g v : ℕ) × (n ≡ Aggregate f g v)) ⊎ (((f m : ℕ) × (n ≡ Window f m)) ⊎ (((r : ℕ) × (n ≡ Union r)) ⊎ ((n ≡ Distinct) ⊎ (((j : JoinNode) × (n ≡ Join j)) ⊎ ((b : Bool) × (f m : ℕ) × (n ≡ Empty b f m)))))) → HasNone n
has_none (inl h) = rw h.3 tt
has_none (inr (inl h)) = rw h.2 tt
has_none (inr (inr (inl h))) = rw h.1 tt
has_none (inr (inr (inr (inl h)))) = rw h tt
has_none (inr (inr (inr (inr (inl h))))) = rw h.1 tt
has_none (inr (inr (inr (inr (inr h))))) = rw h.3 tt

-- ── a node's key ────────────────────────────────────────────────────────────────────────────

module _ {cells rows nodes fields widths : List ℕ} {k : ℕ} (n : Node) (t : TakenApart nodes k n) where
  stands : {h : Head} (z : Standing cells rows nodes fields widths) → k < z.count → head_of (lent cells rows nodes) n ≡ h → Stands (lent cells rows nodes) z.count k (right_of n) h
  stands z l e = subst (Stands (lent cells rows nodes) z.count k (right_of n)) e (t.shows z.C cells rows z.count z.tree l).0

  module _ {keys : List ℕ} {r : RequiredIndices} where
    pub key-passes : PassesOn n → Holds r (slot_at keys (node_slot (k + 1))) false → NodeKeyIs cells rows nodes fields widths keys k r
    unfolding key_of
    key-passes p o =
        let h = through (lent cells rows nodes) n p in
        record {
          is = λ z l ts ns.
              let i = stands z l h.is in
              key_as (ns.each (k + 1) (omega arith) i.below) o.set (sym (ap (key_of z.C) i.plan ∙ h.passes _ _));
        }

    key_drops : (h : Unary) → head_of (lent cells rows nodes) n ≡ h1 h → Drops h → Holds r 0 false → NodeKeyIs cells rows nodes fields widths keys k r
    unfolding key_of
    key_drops h e p o = record { is = λ z l ts ns. empty-set o.set (ap (key_of z.C) (stands z l e).plan ∙ p _ _) }

    key-binary : (h : Binary) → head_of (lent cells rows nodes) n ≡ h2 h → Holds r 0 false → NodeKeyIs cells rows nodes fields widths keys k r
    unfolding key_of
    key-binary h e o = record { is = λ z l ts ns. empty-set o.set (ap (key_of z.C) (stands z l e).plan) }

    key-empty : (b : Bool) (cs : List Pair) → head_of (lent cells rows nodes) n ≡ h0 (empty b cs) → Holds r 0 false → NodeKeyIs cells rows nodes fields widths keys k r
    unfolding key_of leaf_key
    key-empty b cs e o = record { is = λ z l ts ns. empty-set o.set (ap (key_of z.C) (stands z l e)) }

-- a node that has none
pub key-none : {cells rows nodes fields widths keys : List ℕ} {k : ℕ} {r : RequiredIndices} (n : Node) → TakenApart nodes k n → HasNone n → Holds r 0 false → NodeKeyIs cells rows nodes fields widths keys k r
unfolding unary_key
key-none (Projection f n) t h o = absurd h
key-none (Filter r) t h o = absurd h
key-none (Sort f n) t h o = absurd h
key-none (Limit s n) t h o = absurd h
key-none (Aggregate f g v) t h o = key_drops (Aggregate f g v) t _ refl (λ fs key. refl) o
key-none (Window f n) t h o = key_drops (Window f n) t _ refl (λ fs key. refl) o
key-none (SubqueryAlias q) t h o = absurd h
key-none (Union r) t h o = key-binary (Union r) t _ refl o
key-none Distinct t h o = key_drops Distinct t _ refl (λ fs key. refl) o
key-none (Join j) t h o = key-binary (Join j) t _ refl o
key-none (Scan s) t h o = absurd h
key-none (Empty b f n) t h o = key-empty (Empty b f n) t _ _ refl o

-- ── scans and projections ───────────────────────────────────────────────────────────────────

-- each of a list in rows
all-rows : {A : Type 0} {P : A → Type 0} (read : ℕ → A) (f n : ℕ) → All P (list_at read one f n) → (k : ℕ) → f ≤ k → k < f + n → P (read k)
unfolding list_at
all-rows read f zero a[] k h l = absurd (omega arith)
all-rows {P = P} read f (suc n) (p a∷ ps) k h l =
    ⊎_elim (λ (d : k ≤ f). subst (λ x. P (read x)) (let z : f ≡ k = omega arith in z) p) (λ (d : f < k). all-rows read (f + 1) n ps k (omega arith) (omega arith)) (side k f)

-- a scan's leaf
abbrev scanned : (rows cells : List ℕ) → ScanNode → Leaf
scanned rows cells s = scan s.table s.qualifier (if? s.given (columns_at rows s.first s.n)) (exprs_at rows cells (s.first + s.n) s.filters)

module _ {cells rows nodes fields widths : List ℕ} {k : ℕ} where
  -- what a node's plan is, and that it can be written
  fit_at : (z : Standing cells rows nodes fields widths) (l : k < z.count) {p : Plan} → plan_at (lent cells rows nodes) k ≡ p → FitPlan z.C p
  fit_at z l e = subst (FitPlan z.C) e (z.tree.each k l).fit

  module _ (s : ScanNode) (t : TakenApart nodes k (Scan s)) where
    fit-leaf : (z : Standing cells rows nodes fields widths) → k < z.count → FitLeaf z.C (scanned rows cells s)
    unfolding FitPlan
    fit-leaf z l = fit_at z l (t.shows z.C cells rows z.count z.tree l).0

    pub key-scan : {keys : List ℕ} {r : RequiredIndices} → ScanKey rows keys s r → NodeKeyIs cells rows nodes fields widths keys k r
    unfolding key_of
    key-scan h = record {
      is = λ z l ts ns. key_as (h.is z.C _ z.tables ts (fit-leaf z l)) refl (sym (ap (key_of z.C) (t.shows z.C cells rows z.count z.tree l).0));
    }

    given_in : (z : Standing cells rows nodes fields widths) → k < z.count → (b : Bool) → FitColumns z.C.version (length (names_of z.C s.table)) (if? b (columns_at rows s.first s.n)) → b ≡ true → ColumnsIn rows s.first s.n
    unfolding FitColumns FitList
    given_in z l true g e =
        let v = small z.tables.version_is in
        let few = few-columns z.C z.tables s.table in
        record {
          inside = (t.shows z.C cells rows z.count z.tree l).1.0;
          few = omega (arith, g.0, list_length (number_at rows) one s.first s.n, v.columns-small);
          small = λ i a b. omega (arith, all-rows (number_at rows) s.first s.n g.1 i a b, few, v.columns-small);
        }
    given_in z l false g e = absurd (let z : true ≡ false = sym e in true≢false z)

    pub scan_in : {keys : List ℕ} → NodeAsked cells rows nodes fields widths keys k → ScanIn rows keys s
    unfolding FitLeaf FitList
    scan_in q =
        let z = q.standing in
        let f = fit-leaf z q.within in
        record { table = omega (arith, f.0, z.tables.tables_fit.0, q.room); columns = given_in z q.within s.given f.2 }

  module _ (f n : ℕ) (t : TakenApart nodes k (Projection f n)) where
    has-input : (z : Standing cells rows nodes fields widths) → k < z.count → HasInput (lent cells rows nodes) z.count k (projection (items_at rows cells f n))
    has-input z l = (t.shows z.C cells rows z.count z.tree l).0

    pub key-projection : {keys : List ℕ} {key r : RequiredIndices} {start width : ℕ} → start ≡ first_at widths (k + 1) → width ≡ width_at widths (k + 1) → Holds key (slot_at keys (node_slot (k + 1))) false
        → ProjectionKey key (places_of (row_at fields start width) (items_at rows cells f n)) r → NodeKeyIs cells rows nodes fields widths keys k r
    unfolding key_of unary_key
    key-projection d e o h = record {
      is = λ z l ts ns.
          let i = has-input z l in
          let c = z.C in
          key_as (h.is _ (key_as (ns.each (k + 1) (omega arith) i.below) o.set refl)) refl
          (ap (λ fs. carried (key_of c (plan_at (lent cells rows nodes) (k + 1))) (places_of fs (items_at rows cells f n))) (row_is z (k + 1) i.below d e) ∙ sym (ap (key_of c) i.plan));
    }

    module _ {keys : List ℕ} (q : NodeAsked cells rows nodes fields widths keys k) where
      pub items_in : RowsOk rows cells f n × (n ≤ words_n * 64)
      unfolding FitPlan FitUnary FitList
      items_in =
          let z = q.standing in
          let g = fit_at z q.within (has-input z q.within).plan in
          ((t.shows z.C cells rows z.count z.tree q.within).1, omega (arith, g.0.0, ap length (items-list rows cells f n), list_length (item_at rows cells) one f n, (small z.tables.version_is).items-small))

      pub fields_in : {start width : ℕ} → start ≡ first_at widths (k + 1) → width ≡ width_at widths (k + 1) → RowIn fields start width × (width ≤ words_n * 64)
      fields_in d e =
          let z = q.standing in
          let b = (has-input z q.within).below in
          (row_in z (k + 1) b d e, omega (arith, row-long z (k + 1) b d e, fields-few z (k + 1) b, (small z.tables.version_is).fields-small))

-- ── all nodes, from the last to the first ───────────────────────────────────────────────────

pub record Towards (cells rows nodes fields widths : List ℕ) (count : ℕ) (keys keys' : List ℕ) (k : ℕ) : Type 0 where
  pub upto : k ≤ count
  pub long : length keys' ≡ length keys
  pub is : (z : Standing cells rows nodes fields widths) → count ≡ z.count → TableKeys z.C keys → TableKeys z.C keys' × NodeKeys z k keys'

module _ {cells rows nodes fields widths keys : List ℕ} {count : ℕ} where
  pub towards_asked : {keys' : List ℕ} {k : ℕ} → PlanAsked cells rows nodes fields widths keys count → Towards cells rows nodes fields widths count keys keys' k → (j : ℕ) → j < k → NodeAsked cells rows nodes fields widths keys' j
  towards_asked q t j h = record { standing = q.standing; within = omega (arith, t.upto, q.count_is); room = omega (arith, t.long, q.room) }

  module _ {keys' keys'' : List ℕ} {k : ℕ} {r : RequiredIndices} (j : ℕ) (q : PlanAsked cells rows nodes fields widths keys count) (e : k ≡ j + 1) where
    pub towards_more : Towards cells rows nodes fields widths count keys keys' k → NodeKeyIs cells rows nodes fields widths keys' j r → PutKey keys' keys'' (node_slot j) (set_of r) → Towards cells rows nodes fields widths count keys keys'' j
    towards_more t h p =
        let few = q.standing.tree.few in
        let total = q.count_is in
        let slots : (x : ℕ) → x < 272 → SlotIn keys' x = λ x l. omega (arith, t.long, q.room) in
        record {
          upto = omega (arith, t.upto);
          long = p.long ∙ t.long;
          is = λ z d ts.
              let old = t.is z d ts in
              let here = h.is z (omega (arith, t.upto)) old.0 (subst (λ x. NodeKeys z x keys') e old.1) in (
                record { each = λ x l. key_as (old.0.each x l) (p.others x (slots x (omega arith)) (λ y. omega arith)) refl },
                record {
                  each = λ x a b. ⊎_elim
                      (λ (c : x ≤ j). subst (λ y. KeySet (slot_at keys'' (node_slot y)) (key_of z.C (plan_at (lent cells rows nodes) y))) (let w : j ≡ x = omega arith in w) (key_as here p.here refl))
                      (λ (c : j < x). key_as (old.1.each x (omega arith) b) (p.others (node_slot x) (slots (node_slot x) (omega (arith, z.tree.few))) (λ y. omega arith)) refl)
                      (side x j);
                },
              );
        }
