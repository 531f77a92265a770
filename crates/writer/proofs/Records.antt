-- The head of a record: in segments it is the record's node, byte for byte, and it is short. Assumes nothing.
use mathlib.Core.Path.{◌≡◌, refl, sym, ap, ap₂, subst, ◌∙◌}
use mathlib.Core.Bool.{true, false}
use mathlib.Core.List.{List, [], ◌∷◌, ◌++◌, map, append-nil}
use Prim.Native.Nat.{ℕ, ◌+◌, ◌^◌, ◌<◌, ◌≤◌}
use native.Mathlib.Omega.{arith}
use lib.ListN.{length, length-map}
use Rattle.cpl.specs.Bytes.{bytes, counted_bytes, item_bytes, leaf_bytes, unary_bytes}
use Rattle.cpl.specs.Exprs.{item_tags, leaf_tags, plan_tags, unary_tags}
use Rattle.cpl.specs.Fields.{fields_of}
use Rattle.cpl.specs.Limits.{max_tags}
use Rattle.cpl.specs.Limits as limits
use Rattle.cpl.specs.Plan.{Catalogue, Pair, Plan, bare, projection, unary}
use Rattle.cpl.specs.ReadPlan.{Head, h0, h1, h2}
use Rattle.cpl.specs.Tests.{concat_map, sum_of}
use Rattle.cpl.specs.Writable.{FitLeaf, FitName, FitPlan}
use Rattle.cpl.proofs.Accepted.{few-fields}
use Rattle.rules.specs.Mask.{select}
use Rattle.arena.specs.Rows.{item_at, items_at}
use Rattle.required_indices.specs.Set.{set_mask}
use Rattle.tree.specs.Node.{node_at}
use Rattle.tree.specs.Rows.{list_at, one}
use Rattle.tree.specs.Tree.{Arrays, PartsOk, build, head_of, lent, plan_at, right_of}
use Rattle.tree.specs.declared.Node.{Node}
use Rattle.tree.specs.declared.Node.TheVariants.{Projection, Filter, Sort, Limit, Aggregate, Window, SubqueryAlias, Union, Distinct, Join, Scan, Empty}
use Rattle.tree.proofs.Plans.{plan-step}
use Rattle.lookup.specs.Fields.{field_at, fields_at, first_at, row_at, width_at}
use Rattle.lookup.specs.Standing.{Standing}
use Rattle.versions.proofs.Small as versions
use Rattle.result.specs.Result.{Results, columns_node, kept_node, nothing_left, unary_part}
use Rattle.result.specs.Records.{ColumnsOk, ItemsOk, KeptOk, RecordOk, stands_for}
use Rattle.result.specs.declared.Record.{Record}
use Rattle.result.specs.declared.Record.TheVariants.{Kept, Columns, Items, Nothing}
use Rattle.writer_parts.specs.Lists.{which}
use Rattle.writer_parts.specs.declared.Part.TheVariants.{Field, Item}
use Rattle.writer_parts.proofs.Lists.{counted-length, counted-set-rows, list_length, set-row-tags}
use Rattle.shapes.specs.declared.Segment.TheVariants as segments
use Rattle.shapes.specs.declared.Shape.{Shape}
use Rattle.shapes.specs.Shapes.{ShapeOk, Sums, empty_shape, head_shape, shape_bytes, shape_of, shape_tags}
use Rattle.writer.specs.Plans.{Taken, cells_of, head_tags, plan_head, record_shape, rows_of}
use Rattle.shapes.proofs.Heads.{NodeSet, Numbers, items-list, shape_bytes_lem, shape_tags_lem}
use Rattle.shapes.proofs.Ready.{shape_ok}
use Rattle.writer.proofs.Kept.{Wide, kept-head, kept-tags, node-set}
use Rattle.shapes.proofs.Short.{FitHead, fewer, kept_less, kept_short, own_tags, unary_short}

-- segments that are a plan's own node and that code can write
pub record Written (v : limits.Version) (P : Plan) (h : Shape) (s c : List ℕ) (r : ℕ) : Type 0 where
  pub ok : ShapeOk h s c r
  pub bytes_are : shape_bytes h s c r ≡ plan_head v P
  pub tags_are : shape_tags h s c r ≡ head_tags P

-- a plan's own node of few bytes and tags
pub record Small (v : limits.Version) (P : Plan) : Type 0 where
  pub short : length (plan_head v P) ≤ 65536
  pub few_tags : head_tags P ≤ max_tags

-- ── fields as items ─────────────────────────────────────────────────────────────────────────

bare-tags : (xs : List Pair) → sum_of item_tags (map bare xs) ≡ length xs
unfolding sum_of item_tags
bare-tags [] = refl
bare-tags (x ∷ xs) = omega (arith, bare-tags xs)

bare_sum : (xs : List Pair) → sum_of item_tags (map bare xs) ≡ sum_of (λ (c : Pair). item_tags (bare c)) xs
unfolding sum_of
bare_sum [] = refl
bare_sum (x ∷ xs) = omega (arith, bare_sum xs)

bare_concat : (xs : List Pair) → concat_map item_bytes (map bare xs) ≡ concat_map (λ (c : Pair). item_bytes (bare c)) xs
unfolding concat_map
bare_concat [] = refl
bare_concat (x ∷ xs) = ap (item_bytes (bare x) ++◌) (bare_concat xs)

bare-bytes : (k : ℕ) (xs : List Pair) → counted_bytes k item_bytes (map bare xs) ≡ counted_bytes k (λ (c : Pair). item_bytes (bare c)) xs
unfolding counted_bytes
bare-bytes k xs = ap₂ (λ (n : ℕ) (y : List ℕ). bytes k n ++ y) (length-map xs bare) (bare_concat xs)

-- ── an old node ─────────────────────────────────────────────────────────────────────────────

module _ (C : Catalogue) where
  head-wide : (w : ℕ) (h : Head) (p q : Plan) → length (fields_of C (build h p q)) ≡ w → Wide C w h
  unfolding fields_of
  head-wide w (h0 h) p q e = e
  head-wide w (h1 h) p q e = tt
  head-wide w (h2 h) p q e = tt

  head-fit : (h : Head) (p q : Plan) → FitPlan C (build h p q) → FitHead C h
  unfolding FitPlan
  head-fit (h0 h) p q f = f
  head-fit (h1 h) p q f = f.0
  head-fit (h2 h) p q f = f.0

  head_few : (h : Head) (p q : Plan) → plan_tags (build h p q) ≤ max_tags → own_tags h ≤ max_tags
  unfolding plan_tags
  head_few (h0 h) p q l = l
  head_few (h1 h) p q l = omega arith
  head_few (h2 h) p q l = omega arith

  module _ (a : Arrays) where
    numbers : (n : Node) → FitHead C (head_of a n) → Numbers n
    unfolding FitLeaf FitName
    numbers (Projection f n) o = tt
    numbers (Filter x) o = tt
    numbers (Sort f n) o = tt
    numbers (Limit k n) o = tt
    numbers (Aggregate f g v) o = tt
    numbers (Window f n) o = tt
    numbers (SubqueryAlias q) o = tt
    numbers (Union x) o = tt
    numbers Distinct o = tt
    numbers (Join j) o = tt
    numbers (Scan x) o = omega (arith, o.1.1)
    numbers (Empty b f n) o = tt

    sums : length a.rows < 2 ^ 64 → (n : Node) → PartsOk a n → Sums n
    sums h (Projection f n) o = tt
    sums h (Filter x) o = tt
    sums h (Sort f n) o = tt
    sums h (Limit k n) o = tt
    sums h (Aggregate f g v) o = omega (arith, h, o.0.room)
    sums h (Window f n) o = tt
    sums h (SubqueryAlias q) o = tt
    sums h (Union x) o = tt
    sums h Distinct o = tt
    sums h (Join j) o = tt
    sums h (Scan x) o = omega (arith, h, o.0.room)
    sums h (Empty b f n) o = tt

module _ {cells rows nodes fields widths : List ℕ} (st : Standing cells rows nodes fields widths) (old : ℕ) (l : old < st.count) where
  abbrev a : Arrays
  a = lent cells rows nodes

  abbrev node : Node
  node = node_at nodes old

  abbrev width : ℕ
  width = width_at widths old

  abbrev first : ℕ
  first = first_at widths old

  narrow : versions.Small st.C.version
  narrow = versions.small st.tables.version_is

  plan-is : plan_at a old ≡ build (head_of a node) (plan_at a (old + 1)) (plan_at a (right_of node))
  plan-is = plan-step st.C a st.count st.tree old l

  fields_are : row_at fields first width ≡ fields_of st.C (plan_at a old)
  unfolding fields_at
  fields_are = st.stand old l

  width_is : length (fields_of st.C (plan_at a old)) ≡ width
  width_is = ap length (sym fields_are) ∙ list_length (field_at fields) one first width

  width_few : width ≤ 512
  width_few = omega (arith, few-fields st.C (plan_at a old) (st.accepted old l), width_is, narrow.fields-small)

  wide : Wide st.C width (head_of a node)
  wide =
      head-wide st.C width (head_of a node) (plan_at a (old + 1)) (plan_at a (right_of node))
      (ap (λ (p : Plan). length (fields_of st.C p)) (sym plan-is) ∙ width_is)

  fit : FitHead st.C (head_of a node)
  fit = head-fit st.C (head_of a node) (plan_at a (old + 1)) (plan_at a (right_of node)) (subst (FitPlan st.C) plan-is (st.tree.each old l).fit)

  own-few : own_tags (head_of a node) ≤ max_tags
  own-few =
      head_few st.C (head_of a node) (plan_at a (old + 1)) (plan_at a (right_of node))
      (subst (λ (p : Plan). plan_tags p ≤ max_tags) plan-is (st.tree.each old l).tags)

  pub kept-taken : length rows < 2 ^ 64 → Taken nodes (Kept old 0 0)
  kept-taken h = ((st.tree.each old l).numbers, sums st.C a h node (st.tree.each old l).parts)

  -- ── kept ──
  module _ (p q : Plan) where
    pub kept_small : (s : ℕ) → Small st.C.version (kept_node st.C s (head_of a node) p q)
    kept_small s =
        let b = kept-head st.C width s st.C.version (head_of a node) p q wide in
        let t = kept-tags st.C width s (head_of a node) p q wide in
        let n = kept_less width s (head_of a node) in
        record {
          short = omega (arith, ap length b, kept_short width s st.C narrow width_few (head_of a node) fit, n, own-few);
          few_tags = omega (arith, t, n, own-few);
        }

    pub kept-written : (v : limits.Version) (r : ℕ) {i f g : ℕ} → length rows < 2 ^ 64 → KeptOk st.C a st.count i r old f g →
        Written v (kept_node st.C r (head_of a node) p q) (shape_of v.wide v.late node width) rows cells r
    kept-written v r h o =
        let s : NodeSet width r node = node-set st.C width r a node wide o.within in
        record {
          ok = shape_ok v a r width (omega (arith, width_few)) h node (st.tree.each old l).parts;
          bytes_are = shape_bytes_lem v a r width node s (numbers st.C a node fit) ∙ sym (kept-head st.C width r v (head_of a node) p q wide);
          tags_are = shape_tags_lem v a r width node ∙ sym (kept-tags st.C width r (head_of a node) p q wide);
        }

  -- ── columns ──
  abbrev fs : List Pair
  fs = fields_of st.C (plan_at a old)

  module _ (p : Plan) where
    pub columns-small : (s : ℕ) → Small st.C.version (columns_node fs s p)
    unfolding columns_node plan_head head_tags unary_tags
    columns-small s =
        let xs = select (set_mask (length fs) s) fs in
        let n = fewer (set_mask (length fs) s) fs in
        let e = bare-tags xs in
        record {
          short = omega (arith, unary_short st.C.version narrow (projection (map bare xs)) (omega (arith, length-map xs bare, n, width_is, width_few)), e, n, width_is, width_few);
          few_tags = omega (arith, e, n, width_is, width_few);
        }

    pub columns-written : (v : limits.Version) (r : ℕ) {i f : ℕ} → length fields < 2 ^ 64 → ColumnsOk st.C a st.count i r old f →
        Written v (columns_node fs r p) (head_shape 1 1 (segments.List v.wide Field first width false) segments.Nothing) fields cells r
    unfolding columns_node plan_head head_tags unary_tags unary_bytes bytes
    columns-written v r room o =
        let s : r < 2 ^ width = subst (λ (x : ℕ). r < 2 ^ x) width_is o.within in
        let long = list_length (field_at fields) one first width in
        record {
          ok = record {
            few = omega arith;
            one = record { fits = omega (arith, st.inside old l, room); each = λ k z. omega (arith, st.inside old l) };
            two = tt;
          };
          bytes_are =
              ap (1 ∷◌)
              (append-nil _
              ∙ sym (bare-bytes v.wide (select (set_mask (length fs) r) fs)
              ∙ ap (λ (xs : List Pair). counted_bytes v.wide (λ (c : Pair). item_bytes (bare c)) (select (set_mask (length xs) r) xs)) (sym fields_are)
              ∙ ap (λ (x : ℕ). counted_bytes v.wide (λ (c : Pair). item_bytes (bare c)) (select (set_mask x r) (row_at fields first width))) long
              ∙ counted-set-rows v.wide (which false r) (λ (c : Pair). item_bytes (bare c)) (λ (c : Pair). item_tags (bare c)) (field_at fields) first width refl
              s));
          tags_are =
              (let e : (x : ℕ) → x + 0 ≡ x = λ x. omega arith in e _)
              ∙ sym (bare_sum (select (set_mask (length fs) r) fs)
              ∙ ap (λ (xs : List Pair). sum_of (λ (c : Pair). item_tags (bare c)) (select (set_mask (length xs) r) xs)) (sym fields_are)
              ∙ ap (λ (x : ℕ). sum_of (λ (c : Pair). item_tags (bare c)) (select (set_mask x r) (row_at fields first width))) long
              ∙ set-row-tags (which false r) (λ (c : Pair). item_bytes (bare c)) (λ (c : Pair). item_tags (bare c)) (field_at fields) first width refl);
        }

-- ── items, and nothing ──────────────────────────────────────────────────────────────────────

module _ (C : Catalogue) (r : Results) {m k i row n f : ℕ} (o : ItemsOk C r m k i row n f) (p : Plan) where
  pub items-small : versions.Small C.version → Small C.version (unary (projection (items_at r.items r.cells row n)) p)
  unfolding plan_head head_tags unary_tags
  items-small t =
      let e = ap length (items-list r.items r.cells row n) ∙ list_length (item_at r.items r.cells) one row n in
      record {
        short = omega (arith, unary_short C.version t (projection (items_at r.items r.cells row n)) (omega (arith, e, o.few, t.items-small)), o.tags);
        few_tags = o.tags;
      }

  pub items-written : (v : limits.Version) (t : ℕ) → length r.items < 2 ^ 64 →
      Written v (unary (projection (items_at r.items r.cells row n)) p)
      (head_shape 1 1 (segments.List v.wide Item row n true) segments.Nothing) r.items r.cells t
  unfolding plan_head head_tags unary_part
  items-written v t h =
      let b : Arrays = lent r.cells r.items [] in
      record {
        ok = shape_ok v b t 0 (omega arith) h (Projection row n) o.rows;
        bytes_are = shape_bytes_lem v b t 0 (Projection row n) tt tt;
        tags_are = shape_tags_lem v b t 0 (Projection row n);
      }

nothing-small : (v : limits.Version) → versions.Small v → Small v nothing_left
unfolding plan_head head_tags leaf_bytes leaf_tags counted_bytes concat_map
nothing-small v t = record { short = omega (arith, t.wide-small, counted-length v.wide 0 []); few_tags = omega arith }

nothing_written : (v : limits.Version) (s c : List ℕ) (t : ℕ) → Written v nothing_left (empty_shape v.wide true 0 0) s c t
unfolding plan_head head_tags list_at
nothing_written v s c t =
    let b : Arrays = lent c s [] in
    record {
      ok = record { few = omega arith; one = record { fits = omega arith; each = λ k z. absurd (omega arith) }; two = tt };
      bytes_are = shape_bytes_lem v b t 0 (Empty true 0 0) tt tt;
      tags_are = shape_tags_lem v b t 0 (Empty true 0 0);
    }

-- ── every record ────────────────────────────────────────────────────────────────────────────

module _ {cells rows nodes fields widths : List ℕ} (st : Standing cells rows nodes fields widths) (r : Results) (m k i : ℕ) where
  pub record_taken : (s : ℕ) (x : Record) → length rows < 2 ^ 64 → RecordOk st.C (lent cells rows nodes) st.count r m k i s x → Taken nodes x
  record_taken s (Kept old f g) h o = kept-taken st old o.node h
  record_taken s (Columns old f) h o = tt
  record_taken s (Items row n f) h o = tt
  record_taken s Nothing h o = tt

  module _ (p q : Plan) where
    pub record_small : (s : ℕ) (x : Record) → RecordOk st.C (lent cells rows nodes) st.count r m k i s x →
        Small st.C.version (stands_for st.C (lent cells rows nodes) r s x p q)
    record_small s (Kept old f g) o = kept_small st old o.node p q s
    record_small s (Columns old f) o = columns-small st old o.node p s
    record_small s (Items row n f) o = items-small st.C r o p (versions.small st.tables.version_is)
    record_small s Nothing o = nothing-small st.C.version (versions.small st.tables.version_is)

    pub record_written : (v : limits.Version) (t : ℕ) (x : Record) → length (rows_of rows fields r.items x) < 2 ^ 64 →
        RecordOk st.C (lent cells rows nodes) st.count r m k i t x →
        Written v (stands_for st.C (lent cells rows nodes) r t x p q)
        (record_shape v.wide v.late nodes widths x) (rows_of rows fields r.items x) (cells_of cells r.cells x) t
    record_written v t (Kept old f g) l o = kept-written st old o.node p q v t l o
    record_written v t (Columns old f) l o = columns-written st old o.node p v t l o
    record_written v t (Items row n f) l o = items-written st.C r o p v t l
    record_written v t Nothing l o = nothing_written v rows cells t
