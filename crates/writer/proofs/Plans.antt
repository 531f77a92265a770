-- A plan from its node and its inputs: its bytes, its tags, its nodes. Assumes nothing.
use mathlib.Core.Path.{◌≡◌, refl, subst, sym, ap, ap₂, ◌∙◌}
use mathlib.Core.Bool.{Bool}
use Rattle.std.proofs.Common.{Option, Some, None}
use mathlib.Core.List.{List, [], ◌++◌, append_assoc, append-nil}
use Prim.Native.Nat.{ℕ, zero, suc, ◌+◌, ◌*◌, ◌-◌, ◌^◌, ◌<◌, ◌≤◌}
use native.Mathlib.Omega.{arith}
use lib.ListN.{length, take, drop, length-append}
use lib.Seq.{length-take-le}
use Rattle.cpl.specs.Bytes.{plan_bytes, unary_bytes}
use Rattle.cpl.specs.Exprs.{plan_nodes, plan_tags}
use Rattle.cpl.specs.Limits.{Version}
use Rattle.cpl.specs.Plan.{Binary, Catalogue, Leaf, Plan, Unary, binary, leaf, unary}
use Rattle.tree.specs.Node.{node_at}
use Rattle.tree.specs.Tree.{Arrays, head_of, lent}
use Rattle.tree.specs.declared.Node.{Node}
use Rattle.tree.specs.declared.Node.TheVariants.{Projection, Filter, Sort, Limit, Aggregate, Window, SubqueryAlias, Union, Distinct, Join, Scan, Empty}
use Rattle.required_indices.specs.Request.{Holds, set_of}
use Rattle.required_indices.specs.declared.RequiredIndices.{RequiredIndices}
use Rattle.versions.specs.Versions.{version_of}
use Rattle.versions.specs.declared.Version as versions
use Rattle.result.specs.Result.{Results, columns_node, kept_node, record_n, result_at, set_at}
use Rattle.result.specs.Records.{InputsBelow, RecordOk, first_of, record_at, results, second_of, stands_for}
use Rattle.result.specs.declared.Record.{Record}
use Rattle.result.specs.declared.Record.TheVariants.{Kept, Columns, Items, Nothing}
use Rattle.result.proofs.Steps.{result-step}
use Rattle.writer_parts.specs.Wrote.{Countable, Counts, Wrote, over}
use Rattle.writer_parts.specs.declared.Size.{Size}
use Rattle.writer_parts.proofs.Over.{fits, length_back, part, so}
use Rattle.writer.specs.Plans.{Shaped, Taken, Writes, cells_of, head_tags, inputs_of, node_inputs, plan_head, plan_of, record_shape, rows_of}
use Rattle.shapes.specs.Shapes.{ShapeOk, shape_bytes, shape_tags}
use Rattle.shapes.specs.declared.Shape.{Shape}
use Rattle.writer.proofs.Records.{Small, Written, record_small, record_taken, record_written}

-- ── a node and its inputs ───────────────────────────────────────────────────────────────────

-- of a second input, where there is one, among the plans R
abbrev pub rest_bytes : Version → (R : ℕ → Plan) → Option ℕ → List ℕ
rest_bytes u R None = []
rest_bytes u R (Some g) = plan_bytes u (R g)

abbrev pub rest_tags : (R : ℕ → Plan) → Option ℕ → ℕ
rest_tags R None = 0
rest_tags R (Some g) = plan_tags (R g)

abbrev pub rest_nodes : (R : ℕ → Plan) → Option ℕ → ℕ
rest_nodes R None = 0
rest_nodes R (Some g) = plan_nodes (R g)

abbrev pub Below : ℕ → Option ℕ → Type 0
Below i None = Unit {0}
Below i (Some g) = g < i

pub record Alone (u : Version) (P : Plan) : Type 0 where
  pub bytes_are : plan_bytes u P ≡ plan_head u P
  pub tags_are : plan_tags P ≡ head_tags P
  pub nodes_are : plan_nodes P ≡ 1

pub record Above (u : Version) (i f : ℕ) (x : Option ℕ) (R : ℕ → Plan) (P : Plan) : Type 0 where
  pub first_below : f < i
  pub second_below : Below i x
  pub bytes_are : plan_bytes u P ≡ plan_head u P ++ (plan_bytes u (R f) ++ rest_bytes u R x)
  pub tags_are : plan_tags P ≡ head_tags P + (plan_tags (R f) + rest_tags R x)
  pub nodes_are : plan_nodes P ≡ suc (plan_nodes (R f) + rest_nodes R x)

-- P is the plan of record i, R that of each
abbrev pub Splits : Version → (i : ℕ) (R : ℕ → Plan) (P : Plan) → Option (ℕ × Option ℕ) → Type 0
Splits u i R P None = Alone u P
Splits u i R P (Some (f, x)) = Above u i f x R P

alone : {u : Version} (h : Leaf) → Alone u (leaf h)
unfolding plan_bytes plan_head plan_tags head_tags plan_nodes
alone h = record { bytes_are = refl; tags_are = refl; nodes_are = refl }

module _ (u : Version) (R : ℕ → Plan) {i f : ℕ} where
  above : (h : Unary) → f < i → Above u i f None R (unary h (R f))
  unfolding plan_bytes plan_head plan_tags head_tags plan_nodes
  above h l =
      record {
        first_below = l;
        second_below = tt;
        bytes_are = ap (unary_bytes u h ++◌) (sym (append-nil (plan_bytes u (R f))));
        tags_are = omega arith;
        nodes_are = omega arith;
      }

  joins : {g : ℕ} (h : Binary) → f < i → g < i → Above u i f (Some g) R (binary h (R f) (R g))
  unfolding plan_bytes plan_head plan_tags head_tags plan_nodes
  joins h l m = record { first_below = l; second_below = m; bytes_are = refl; tags_are = refl; nodes_are = refl }

module _ (u : Version) (C : Catalogue) (a : Arrays) (r : Results) (R : ℕ → Plan) (i s : ℕ) where
  split-node : (n : Node) (f g : ℕ) → InputsBelow i f g (head_of a n) → Splits u i R (kept_node C s (head_of a n) (R f) (R g)) (node_inputs n f g)
  split-node (Projection x n) f g l = above u R _ l
  split-node (Filter x) f g l = above u R _ l
  split-node (Sort x n) f g l = above u R _ l
  split-node (Limit k n) f g l = above u R _ l
  split-node (Aggregate x n m) f g l = above u R _ l
  split-node (Window x n) f g l = above u R _ l
  split-node (SubqueryAlias q) f g l = above u R _ l
  split-node (Union x) f g l = joins u R _ l.0 l.1
  split-node Distinct f g l = above u R _ l
  split-node (Join j) f g l = joins u R _ l.0 l.1
  split-node (Scan x) f g l = alone _
  split-node (Empty b x n) f g l = alone _

  split_record : (count m k : ℕ) (x : Record) → RecordOk C a count r m k i s x →
      Splits u i R (stands_for C a r s x (R (first_of x)) (R (second_of x))) (inputs_of a.nodes x)
  unfolding columns_node
  split_record count m k (Kept old f g) o = split-node (node_at a.nodes old) f g o.inputs
  split_record count m k (Columns old f) o = above u R _ o.input
  split_record count m k (Items row n f) o = above u R _ o.input
  split_record count m k Nothing o = alone _

-- ── lengths ─────────────────────────────────────────────────────────────────────────────────

pub alone_length : {u : Version} {P : Plan} → Alone u P → length (plan_bytes u P) ≡ length (plan_head u P)
alone_length o = ap length o.bytes_are

pub above_length : {u : Version} {i f : ℕ} {x : Option ℕ} {R : ℕ → Plan} {P : Plan} → Above u i f x R P →
    length (plan_bytes u P) ≡ length (plan_head u P) + (length (plan_bytes u (R f)) + length (rest_bytes u R x))
above_length {u} {f = f} {x} {R} {P} o =
    ap length o.bytes_are ∙ length-append (plan_head u P) (plan_bytes u (R f) ++ rest_bytes u R x)
    ∙ omega (arith, length-append (plan_bytes u (R f)) (rest_bytes u R x))

pub two-length : {u : Version} {i f g : ℕ} {x : Option ℕ} {R : ℕ → Plan} {P : Plan} → x ≡ Some g → Above u i f x R P →
    length (plan_bytes u P) ≡ length (plan_head u P) + (length (plan_bytes u (R f)) + length (plan_bytes u (R g)))
two-length {u} {R = R} e o = above_length o ∙ omega (arith, ap (λ (y : Option ℕ). length (rest_bytes u R y)) e)

-- what a plan takes
abbrev size : Version → Plan → Size
size u P = record { bytes = length (plan_bytes u P); tags = plan_tags P }

-- ── the records of a plan that is written ───────────────────────────────────────────────────

-- at most 65,536 bytes and 4,096 tags a node
abbrev Bound : Version → Plan → Type 0
Bound u P = (length (plan_bytes u P) ≤ 65536 * plan_nodes P) × (plan_tags P ≤ 4096 * plan_nodes P)

module _ {version : versions.Version} {cells rows nodes fields widths records items icells : List ℕ} where
  -- the plans of all records
  abbrev pub plans : {i : ℕ} → Writes version cells rows nodes fields widths records items icells i → ℕ → Plan
  plans w = result_at w.standing.C (lent cells rows nodes) (results records items icells)

  module _ {i : ℕ} (w : Writes version cells rows nodes fields widths records items icells i) where
    abbrev rec : Record
    rec = record_at records i

    abbrev made : Results
    made = results records items icells

    abbrev stands : (s : ℕ) → Plan
    stands s = stands_for w.standing.C (lent cells rows nodes) made s rec (plans w (first_of rec)) (plans w (second_of rec))

    abbrev Ok : (s : ℕ) → Type 0
    Ok s = RecordOk w.standing.C (lent cells rows nodes) w.standing.count made w.m w.n i s rec

    is_ok : Ok (set_at records i)
    is_ok = w.wf.each i w.below

    step : plan_of w ≡ stands (set_at records i)
    step = result-step w.standing.C (lent cells rows nodes) made w.standing.count w.m w.n w.used w.wf i w.below

    pub inside : i * record_n + record_n ≤ length records
    inside = omega (arith, w.wf.inside, w.below)

    pub taken : length rows < 2 ^ 64 → Taken nodes rec
    taken h = record_taken w.standing made w.m w.n i (set_at records i) rec h is_ok

    small-head : Small (version_of version) (plan_of w)
    small-head =
        subst (λ (u : Version). Small u (plan_of w)) w.version_is
        (subst (Small w.standing.C.version) (sym step) (record_small w.standing made w.m w.n i _ _ (set_at records i) rec is_ok))

    pub head_countable : Countable (length (plan_head (version_of version) (plan_of w))) (head_tags (plan_of w))
    head_countable = record { bytes_fit = omega (arith, small-head.short); tags_fit = omega (arith, small-head.few_tags) }

    -- a record's head, by its form
    abbrev Head : Shape → Record → (set : ℕ) → Type 0
    Head h x t = Written (version_of version) (plan_of w) h (rows_of rows fields items x) (cells_of cells icells x) t

    written : {t : RequiredIndices} {b : Bool} → Holds t (set_at records i) b → length (rows_of rows fields items rec) < 2 ^ 64 →
        Head (record_shape version.wide version.late nodes widths rec) rec (set_of t)
    written {t} o l =
        let d : Ok (set_of t) = rw o.set is_ok in
        let k : Written (version_of version) (stands (set_of t)) (record_shape version.wide version.late nodes widths rec) (rows_of rows fields items rec) (cells_of cells icells rec) (set_of t) =
        record_written w.standing made w.m w.n i _ _ (version_of version) (set_of t) rec l d in
        rw (step, sym o.set) k

    -- ── its inputs ──
    pub splits : {k : Option (ℕ × Option ℕ)} → k ≡ inputs_of nodes rec → Splits (version_of version) i (plans w) (plan_of w) k
    splits e =
        rw (e, step) (split_record (version_of version) w.standing.C (lent cells rows nodes) made (plans w) i (set_at records i) w.standing.count w.m w.n rec is_ok)

    abbrev pub input : (f : ℕ) → f < i → plan_nodes (plans w f) ≤ plan_nodes (plan_of w) → Writes version cells rows nodes fields widths records items icells f
    input f l s =
        record {
          standing = w.standing;
          version_is = w.version_is;
          used = w.used;
          m = w.m;
          n = w.n;
          wf = w.wf;
          below = omega (arith, l, w.below);
          small = omega (arith, s, w.small);
        }

    abbrev pub first-input : {f : ℕ} {x : Option ℕ} → Above (version_of version) i f x (plans w) (plan_of w) → Writes version cells rows nodes fields widths records items icells f
    first-input {f} o = input f o.first_below (omega (arith, o.nodes_are))

    abbrev pub second-input : {f g : ℕ} {x : Option ℕ} → x ≡ Some g → Above (version_of version) i f x (plans w) (plan_of w) →
        Writes version cells rows nodes fields widths records items icells g
    second-input {f} {g} e o = input g (rw e at o.second_below) (omega (arith, o.nodes_are, ap (rest_nodes (plans w)) e))

  -- ── a bound ──
  bound_by : {i : ℕ} (w : Writes version cells rows nodes fields widths records items icells i) (k : Option (ℕ × Option ℕ)) → Splits (version_of version) i (plans w) (plan_of w) k →
      ((j : ℕ) → j < i → (v : Writes version cells rows nodes fields widths records items icells j) → Bound (version_of version) (plan_of v)) → Bound (version_of version) (plan_of w)
  bound_by w None o go =
      let s = small-head w in
      (omega (arith, s.short, ap length o.bytes_are, o.nodes_are), omega (arith, s.few_tags, o.tags_are, o.nodes_are))
  bound_by w (Some (f, None)) o go =
      let s = small-head w in
      let b = go f o.first_below (first-input w o) in
      (omega (arith, s.short, above_length o, o.nodes_are, b.0), omega (arith, s.few_tags, o.tags_are, o.nodes_are, b.1))
  bound_by w (Some (f, Some g)) o go =
      let s = small-head w in
      let b = go f o.first_below (first-input w o) in
      let c = go g o.second_below (second-input w refl o) in
      (omega (arith, s.short, above_length o, o.nodes_are, b.0, c.0), omega (arith, s.few_tags, o.tags_are, o.nodes_are, b.1, c.1))

  bound : (b i : ℕ) → i < b → (w : Writes version cells rows nodes fields widths records items icells i) → Bound (version_of version) (plan_of w)
  bound zero i l w = absurd (omega arith)
  bound (suc b) i l w = bound_by w (inputs_of nodes (record_at records i)) (splits w refl) (λ j k v. bound b j (omega arith) v)

  -- the bytes and tags of a plan of at most 256 nodes can be counted
  pub countable : {i : ℕ} (w : Writes version cells rows nodes fields widths records items icells i) → Countable (length (plan_bytes (version_of version) (plan_of w))) (plan_tags (plan_of w))
  countable {i} w =
      let b = bound (suc i) i (omega arith) w in
      record { bytes_fit = omega (arith, b.0, w.small); tags_fit = omega (arith, b.1, w.small) }

  -- a plan is as long as its head, or longer
  head_first : {i : ℕ} (w : Writes version cells rows nodes fields widths records items icells i) (k : Option (ℕ × Option ℕ)) → Splits (version_of version) i (plans w) (plan_of w) k →
      length (plan_head (version_of version) (plan_of w)) ≤ length (plan_bytes (version_of version) (plan_of w))
  head_first w None o = omega (arith, alone_length o)
  head_first w (Some (f, x)) o = omega (arith, above_length o)

  pub head_le : {i : ℕ} (w : Writes version cells rows nodes fields widths records items icells i) → length (plan_head (version_of version) (plan_of w)) ≤ length (plan_bytes (version_of version) (plan_of w))
  head_le {i} w = head_first w (inputs_of nodes (record_at records i)) (splits w refl)

-- the head of a record that is written
abbrev pub shaped : {version : versions.Version} {cells rows nodes fields widths records items icells : List ℕ} {i : ℕ} (w : Writes version cells rows nodes fields widths records items icells i) {h : Shape} →
    h ≡ record_shape version.wide version.late nodes widths (record_at records i) → Shaped h cells rows fields records items icells i
shaped {version} {nodes = nodes} {widths = widths} w e = record { version = version; nodes = nodes; widths = widths; writes = w; shape_is = e }

-- a head, once its record and its shape are known
module _ {h : Shape} {cells rows fields records items icells : List ℕ} {i : ℕ} (s : Shaped h cells rows fields records items icells i) where
  pub head_of_lem : {t : RequiredIndices} {b : Bool} {y : Record} {rs cs : List ℕ} → y ≡ record_at records i → rs ≡ rows_of rows fields items y → cs ≡ cells_of cells icells y →
      Holds t (set_at records i) b → length rs < 2 ^ 64 → Written (version_of s.version) (plan_of s.writes) h rs cs (set_of t)
  head_of_lem {rs = rs} {cs} d e f o l =
      let r : rs ≡ rows_of rows fields items (record_at records i) = e ∙ ap (rows_of rows fields items) d in
      let c : cs ≡ cells_of cells icells (record_at records i) = f ∙ ap (cells_of cells icells) d in
      rw (s.shape_is, r, c) (written s.writes o (subst (λ (z : List ℕ). length z < 2 ^ 64) r l))

-- ── a head written, and counted ─────────────────────────────────────────────────────────────

module _ {u : Version} {P : Plan} {h : Shape} {s c : List ℕ} {t : ℕ} (k : Written u P h s c t) where
  pub head-ready : Countable (length (plan_head u P)) (head_tags P) → ShapeOk h s c t × Countable (length (shape_bytes h s c t)) (shape_tags h s c t)
  head-ready o = (k.ok, rw (k.bytes_are, k.tags_are) o)

  pub head-room : {n : ℕ} → length (plan_head u P) ≤ n → ShapeOk h s c t × (length (shape_bytes h s c t) ≤ n)
  head-room l = (k.ok, rw k.bytes_are l)

  pub head-counts : {z : Size} → Counts (length (shape_bytes h s c t)) (shape_tags h s c t) z → Counts (length (plan_head u P)) (head_tags P) z
  head-counts o = rw (sym k.bytes_are, sym k.tags_are) o

  pub head-wrote : {xs out : List ℕ} {a : ℕ} → Wrote (shape_bytes h s c t) xs a out → Wrote (plan_head u P) xs a out
  head-wrote o = so o k.bytes_are refl

-- ── a plan written, and counted ─────────────────────────────────────────────────────────────

pub alone_wrote : {u : Version} {P : Plan} {xs out : List ℕ} {a : ℕ} → Alone u P → Wrote (plan_head u P) xs a out → Wrote (plan_bytes u P) xs a out
alone_wrote o u = so u (sym o.bytes_are) refl

module _ {u : Version} {i f : ℕ} {x : Option ℕ} {R : ℕ → Plan} {P : Plan} where
  one-bytes : x ≡ None → Above u i f x R P → plan_head u P ++ plan_bytes u (R f) ≡ plan_bytes u P
  one-bytes e o = ap (plan_head u P ++◌) (sym (append-nil (plan_bytes u (R f))) ∙ ap (λ (y : Option ℕ). plan_bytes u (R f) ++ rest_bytes u R y) (sym e)) ∙ sym o.bytes_are

  two_bytes : {g : ℕ} → x ≡ Some g → Above u i f x R P → (plan_head u P ++ plan_bytes u (R f)) ++ plan_bytes u (R g) ≡ plan_bytes u P
  two_bytes {g} e o =
      append_assoc (plan_head u P) (plan_bytes u (R f)) (plan_bytes u (R g))
      ∙ ap (λ (y : Option ℕ). plan_head u P ++ (plan_bytes u (R f) ++ rest_bytes u R y)) (sym e) ∙ sym o.bytes_are

  module _ {xs o₁ ys : List ℕ} {a m : ℕ} where
    pub one-wrote : x ≡ None → Above u i f x R P → Wrote (plan_head u P) xs a o₁ → Wrote (plan_bytes u (R f)) (take (length o₁ - a) (drop a o₁)) m ys →
        Wrote (plan_bytes u P) xs (a + m) (take a o₁ ++ (ys ++ drop (length o₁ - a) (drop a o₁)))
    one-wrote e o y v = so (part y v) (one-bytes e o) refl

    pub two-wrote : {g n : ℕ} {o₂ zs : List ℕ} → x ≡ Some g → Above u i f x R P → Wrote (plan_head u P) xs a o₁ →
        Wrote (plan_bytes u (R f)) (take (length o₁ - a) (drop a o₁)) m ys → o₂ ≡ take a o₁ ++ (ys ++ drop (length o₁ - a) (drop a o₁)) →
        Wrote (plan_bytes u (R g)) (take (length o₂ - (a + m)) (drop (a + m) o₂)) n zs →
        Wrote (plan_bytes u P) xs (a + m + n) (take (a + m) o₂ ++ (zs ++ drop (length o₂ - (a + m)) (drop (a + m) o₂)))
    two-wrote e o y v d t = so (part (rw (sym d) at (part y v)) t) (two_bytes e o) refl

  module _ {h a s : Size} (o : Above u i f x R P) (y : Counts (length (plan_head u P)) (head_tags P) h) (v : Counts (length (plan_bytes u (R f))) (plan_tags (R f)) a)
      (z : Counts (h.bytes + a.bytes) (h.tags + a.tags) s) where
    pub one-counts : x ≡ None → Counts (length (plan_bytes u P)) (plan_tags P) s
    one-counts e =
        record {
          bytes_are = omega (arith, y.bytes_are, v.bytes_are, z.bytes_are, above_length o, ap (λ (x' : Option ℕ). length (rest_bytes u R x')) e);
          tags_are = omega (arith, y.tags_are, v.tags_are, z.tags_are, o.tags_are, ap (rest_tags R) e);
        }

    pub two_sum : {g : ℕ} {b : Size} → x ≡ Some g → Counts (length (plan_bytes u (R g))) (plan_tags (R g)) b →
        Counts (s.bytes + b.bytes) (s.tags + b.tags) (size u P)
    two_sum e q =
        record {
          bytes_are = omega (arith, y.bytes_are, v.bytes_are, z.bytes_are, q.bytes_are, two-length e o);
          tags_are = omega (arith, y.tags_are, v.tags_are, z.tags_are, q.tags_are, o.tags_are, ap (rest_tags R) e);
        }

    pub two-counts : {g : ℕ} {b t : Size} → x ≡ Some g → Counts (length (plan_bytes u (R g))) (plan_tags (R g)) b →
        Counts (s.bytes + b.bytes) (s.tags + b.tags) t → Counts (length (plan_bytes u P)) (plan_tags P) t
    two-counts e q x' =
        record { bytes_are = x'.bytes_are ∙ sym (two_sum e q).bytes_are; tags_are = x'.tags_are ∙ sym (two_sum e q).tags_are }

-- there is room for what comes after a part that was lent and came back
abbrev back : (o ys : List ℕ) (a : ℕ) → List ℕ
back o ys a = take a o ++ (ys ++ drop (length o - a) (drop a o))

pub room_after : (o ys : List ℕ) (a m n : ℕ) {k : ℕ} → length o ≡ k → length ys ≡ length (take (length o - a) (drop a o)) → a + (m + n) ≤ k →
    n ≤ length (take (length (back o ys a) - (a + m)) (drop (a + m) (back o ys a)))
room_after o ys a m n d e l = fits (back o ys a) (a + m) n (omega (arith, d, l, length_back a o ys (omega (arith, d, l)) e))

-- the start of a file was copied
pub copy_wrote : {xs ys : List ℕ} (start : ℕ) (file : List ℕ) → start ≤ length file → ys ≡ take start file → Wrote (take start file) xs start (ys ++ drop start xs)
unfolding over
copy_wrote {xs} {ys} start file h e =
    let l : length (take start file) ≡ start = length-take-le start file h in
    record { long = sym l; ends = ap₂ ◌++◌ e (ap (λ (k : ℕ). drop k xs) (sym l)) }
