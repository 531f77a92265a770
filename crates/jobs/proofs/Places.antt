-- What is known at a node of an accepted plan, and what the job of a kind says of it. Assumes nothing.
use mathlib.Core.Path.{◌≡◌, refl, sym, ap, subst, ◌∙◌}
use mathlib.Core.Bool.{Bool, false}
use mathlib.Core.List.{List}
use Prim.Native.Nat.{ℕ, ◌+◌, ◌*◌, ◌<◌, ◌≤◌}
use native.Mathlib.Omega.{arith}
use lib.ListN.{length}
use Rattle.cpl.specs.Fields.{binary_fields, fields_of, leaf_fields, unary_fields}
use Rattle.cpl.specs.Lists.{Fit}
use Rattle.cpl.specs.Plan.{Binary, Catalogue, Leaf, Pair, Unary, empty}
use Rattle.cpl.specs.ReadPlan.{h0, h1, h2}
use Rattle.cpl.specs.Accepted.{Accepted}
use Rattle.rules.specs.Keys.{key_of}
use Rattle.rules.specs.Mask.{Mask}
use Rattle.required_indices.specs.Request.{Holds, flag_of, set_of, words_n}
use Rattle.required_indices.specs.declared.RequiredIndices.{RequiredIndices}
use Rattle.arena.specs.Rows.{pair_at}
use Rattle.tree.specs.Rows.{one, pairs_at}
use Rattle.tree.specs.Shows.{HasInput, HasInputs, Shows, Stands}
use Rattle.tree.specs.Tree.{Arrays, PartsOk, head_of, lent, plan_at, right_of}
use Rattle.tree.specs.declared.Node.{Node}
use Rattle.tree.specs.declared.Node.TheVariants.{Empty}
use Rattle.tree.proofs.Plans.{taken}
use Rattle.lookup.specs.Fields.{first_at, row_at, width_at}
use Rattle.lookup.proofs.Lists.{list_length}
use Rattle.lookup.proofs.Standing.{row_is}
use Rattle.key_sets.specs.Slots.{KeySet, node_slot, slot_at}
use Rattle.requests.specs.Asked.{Below}
use Rattle.requests.proofs.Rows.{row_below, set-fits}
use Rattle.jobs.specs.Asked.{Asked}
use Rattle.jobs.specs.Job.{AtNode, LeafJob, NoProjection, OneIs, OneJob, Posed, PosedTwo, TwoJob}
use Rattle.jobs.specs.declared.Job.{Job}
use Rattle.jobs.specs.declared.Todo.{Todo}
use Rattle.jobs.specs.declared.Todo.TheVariants as todos

-- a job of a node with one input, by what is to be done
by_todo : (C : Catalogue) (a : Arrays) {count k : ℕ} (node : Node) (b : Bool) (R : Mask) (j : Job) {h : Unary} → head_of a node ≡ h1 h → HasInput a count k h → NoProjection h
    → (t : Todo) → OneIs C h (key_of C (plan_at a (k + 1))) (fields_of C (plan_at a (k + 1))) b R j t → AtNode C a count k node b R j t
by_todo C a node b R j {h} e i o todos.Leaf x = absurd x
by_todo C a node b R j {h} e i o todos.Nothing x = record { h = h; head = e; input = i; other = o; job = x }
by_todo C a node b R j {h} e i o todos.Same x = record { h = h; head = e; input = i; other = o; job = x }
by_todo C a node b R j {h} e i o (todos.One topped) x = record { h = h; head = e; input = i; other = o; job = x }
by_todo C a node b R j {h} e i o (todos.Two right) x = absurd x

module _ {cells rows fields widths keys : List ℕ} {node : Node} {k : ℕ} {r : RequiredIndices} (q : Asked cells rows fields widths keys node k r) where
  abbrev C : Catalogue
  C = q.standing.C

  abbrev count : ℕ
  count = q.standing.count

  abbrev arrays : Arrays
  arrays = lent cells rows q.nodes

  -- the fields of node j
  abbrev fields_n : ℕ → List Pair
  fields_n j = fields_of C (plan_at arrays j)

  -- ── the node ──────────────────────────────────────────────────────────────────────────────

  shown : {n : Node} → node ≡ n → Shows arrays count k n
  shown e = subst (λ n. Shows arrays count k n) e ((taken q.is).shows C cells rows count q.standing.tree q.within)

  pub parts : {n : Node} → node ≡ n → PartsOk arrays n
  parts e = (shown e).1

  -- ── no input ──────────────────────────────────────────────────────────────────────────────

  module _ {n : Node} {h : Leaf} (e : node ≡ n) (p : head_of arrays n ≡ h0 h) where
    leaf-plan : plan_at arrays k ≡ Rattle.cpl.specs.Plan.Plan.leaf h
    leaf-plan = subst (λ x. Stands arrays count k (right_of n) x) p (shown e).0

    leaf_fields_lem : fields_n k ≡ leaf_fields C h
    unfolding fields_of
    leaf_fields_lem = ap (fields_of C) leaf-plan

    pub leaf-few : length (leaf_fields C h) ≤ words_n * 64
    leaf-few = subst (λ x. length x ≤ words_n * 64) leaf_fields_lem (set-fits q.standing k q.within)

    pub leaf_at : {j : Job} → LeafJob h r j → AtNode C arrays count k node (flag_of r) q.R j j.todo
    leaf_at {j} o =
        subst (λ t. AtNode C arrays count k node (flag_of r) q.R j t) (sym o.todo_is)
        (record { h = h; head = ap (head_of arrays) e ∙ p; plan = leaf-plan; job = o.is C q.R (subst (λ x. Fit q.R x) leaf_fields_lem q.fit) q.asks })

  module _ {b : Bool} {f n : ℕ} (e : node ≡ Empty b f n) where
    long : n ≡ length (pairs_at rows f n)
    long = sym (list_length (pair_at rows) one f n)

    pub empty-few : n ≤ 512
    unfolding leaf_fields
    empty-few = omega (arith, leaf-few {h = empty b (pairs_at rows f n)} e refl, long)

    pub empty_at : {j : Job} → ((b : Bool) (cs : List Pair) → n ≡ length cs → LeafJob (empty b cs) r j) → AtNode C arrays count k node (flag_of r) q.R j j.todo
    empty_at o = leaf_at e refl (o b (pairs_at rows f n) long)

  -- ── one input ─────────────────────────────────────────────────────────────────────────────

  module _ {n : Node} {h : Unary} (e : node ≡ n) (p : head_of arrays n ≡ h1 h) where
    one_input_lem : HasInput arrays count k h
    one_input_lem = subst (λ x. Stands arrays count k (right_of n) x) p (shown e).0

    one-fields : fields_n k ≡ unary_fields h (fields_n (k + 1))
    unfolding fields_of
    one-fields = ap (fields_of C) one_input_lem.plan

    pub one_key : {slot : ℕ} {key : RequiredIndices} → slot ≡ node_slot (k + 1) → Holds key (slot_at keys slot) false → KeySet (set_of key) (key_of C (plan_at arrays (k + 1)))
    one_key e g = subst (λ s. KeySet s (key_of C (plan_at arrays (k + 1)))) (sym (g.set ∙ ap (slot_at keys) e)) (q.keyed.nodes_have.each (k + 1) (omega arith) one_input_lem.below)

    module _ {f w : ℕ} (ef : f ≡ first_at widths (k + 1)) (ew : w ≡ width_at widths (k + 1)) where
      pub one_below : Below fields f w
      one_below = row_below q.standing (k + 1) one_input_lem.below ef ew

      pub one_posed : Posed h (row_at fields f w) r q.R
      one_posed =
          subst (λ fs. Posed h fs r q.R) (sym (row_is q.standing (k + 1) one_input_lem.below ef ew))
          (record {
            few = subst (λ x. length x ≤ words_n * 64) one-fields (set-fits q.standing k q.within);
            fit = subst (λ x. Fit q.R x) one-fields q.fit;
            asks = q.asks;
          })

      pub one_at : {j : Job} → NoProjection h → OneJob h (key_of C (plan_at arrays (k + 1))) (row_at fields f w) r j → AtNode C arrays count k node (flag_of r) q.R j j.todo
      one_at {j} o job =
          by_todo C arrays node (flag_of r) q.R j (ap (head_of arrays) e ∙ p) one_input_lem o j.todo
          (subst (λ fs. OneIs C h (key_of C (plan_at arrays (k + 1))) fs (flag_of r) q.R j j.todo) (row_is q.standing (k + 1) one_input_lem.below ef ew) (job.is C q.R one_posed))

  -- ── two inputs ────────────────────────────────────────────────────────────────────────────

  module _ {n : Node} {h : Binary} {right : ℕ} (e : node ≡ n) (p : head_of arrays n ≡ h2 h) (er : right_of n ≡ right) where
    two-inputs : HasInputs arrays count k right h
    two-inputs = subst (λ x. HasInputs arrays count k x h) er (subst (λ x. Stands arrays count k (right_of n) x) p (shown e).0)

    left_below : k + 1 < count
    left_below = omega (arith, two-inputs.after, two-inputs.below)

    two_fields : fields_n k ≡ binary_fields h (fields_n (k + 1)) (fields_n right)
    unfolding fields_of
    two_fields = ap (fields_of C) two-inputs.plan

    abbrev Both : Type 0
    Both = PosedTwo h (fields_n (k + 1)) (fields_n right) r q.R

    both : Both
    unfolding Accepted
    both =
        let o = subst (Accepted C) two-inputs.plan (q.standing.accepted k q.within) in
        record {
          as_wide = o.2.as_wide;
          few = subst (λ x. length x ≤ words_n * 64) two_fields (set-fits q.standing k q.within);
          fit = subst (λ x. Fit q.R x) two_fields q.fit;
          asks = q.asks;
        }

    module _ {f w g v : ℕ} (ef : f ≡ first_at widths (k + 1)) (ew : w ≡ width_at widths (k + 1)) (eg : g ≡ first_at widths right) (ev : v ≡ width_at widths right) where
      pub left-row : Below fields f w
      left-row = row_below q.standing (k + 1) left_below ef ew

      pub right-row : Below fields g v
      right-row = row_below q.standing right two-inputs.below eg ev

      pub two_posed : PosedTwo h (row_at fields f w) (row_at fields g v) r q.R
      two_posed = rw (row_is q.standing (k + 1) left_below ef ew, row_is q.standing right two-inputs.below eg ev) both

      pub two_at : {j : Job} → TwoJob h (row_at fields f w) (row_at fields g v) r right j → AtNode C arrays count k node (flag_of r) q.R j j.todo
      two_at {j} job =
          subst (λ t. AtNode C arrays count k node (flag_of r) q.R j t) (sym job.todo_is)
          (record {
            h = h;
            head = ap (head_of arrays) e ∙ p;
            inputs = two-inputs;
            job = rw (row_is q.standing (k + 1) left_below ef ew, row_is q.standing right two-inputs.below eg ev) at (job.is q.R two_posed);
          })
