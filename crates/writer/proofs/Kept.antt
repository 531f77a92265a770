-- What a record keeps of an old node, by the number of the node's fields in place of the catalogue. Assumes nothing.
use mathlib.Core.Path.{◌≡◌, refl, sym, ap, subst, ◌∙◌}
use mathlib.Core.Bool.{Bool, true, false}
use mathlib.Core.List.{List}
use mathlib.Core.Option.{Option, none, some}
use Prim.Native.Nat.{ℕ, ◌^◌, ◌<◌}
use lib.ListN.{length, length-map}
use Rattle.cpl.specs.Bytes.{leaf_bytes}
use Rattle.cpl.specs.Fields.{columns_of, leaf_fields, scan_field}
use Rattle.cpl.specs.Exprs.{leaf_tags}
use Rattle.cpl.specs.Limits.{Version}
use Rattle.cpl.specs.Plan.{Catalogue, Expr, Leaf, Plan, empty, names_of, scan}
use Rattle.cpl.specs.Read.{pick}
use Rattle.cpl.specs.ReadPlan.{Head, h0, h1, h2}
use Rattle.cpl.specs.Tests.{iota}
use Rattle.rules.specs.Mask.{select}
use Rattle.rules.specs.Rules.{leaf_rule}
use Rattle.required_indices.specs.Set.{set_mask}
use Rattle.tree.specs.Rows.{list_at, number_at, one, win_at, win_size}
use Rattle.tree.specs.Tree.{Arrays, head_of, if?}
use Rattle.tree.specs.declared.Node.{Node}
use Rattle.tree.specs.declared.Node.TheVariants.{Projection, Filter, Sort, Limit, Aggregate, Window, SubqueryAlias, Union, Distinct, Join, Scan, Empty}
use Rattle.result.specs.Result.{kept_node, leaf_part}
use Rattle.result.specs.Records.{HeadSet}
use Rattle.writer_parts.proofs.Lists.{list_length}
use Rattle.writer.specs.Plans.{head_tags, plan_head}
use Rattle.shapes.specs.Shapes.{kept_bytes, kept_tags, leaf_keeps, scan_columns}
use Rattle.shapes.proofs.Heads.{NodeSet, iota-list}

-- as many fields as the node has: of a scan, as many as its columns
abbrev pub Wide : Catalogue → (width : ℕ) → Head → Type 0
Wide C w (h0 h) = length (leaf_fields C h) ≡ w
Wide C w (h1 h) = Unit {0}
Wide C w (h2 h) = Unit {0}

module _ (C : Catalogue) (w s : ℕ) where
  columns-long : (t q : ℕ) (is : Option (List ℕ)) (es : List Expr) → length (leaf_fields C (scan t q is es)) ≡ length (columns_of (names_of C t) is)
  unfolding leaf_fields
  columns-long t q is es = length-map (columns_of (names_of C t) is) (scan_field (names_of C t) q)

  iota-long : (n : ℕ) → length (iota 0 n) ≡ n
  iota-long n = ap length (iota-list 0 n) ∙ list_length (λ i. i) one 0 n

  same-columns : (t q : ℕ) (is : Option (List ℕ)) (es : List Expr) → length (leaf_fields C (scan t q is es)) ≡ w → columns_of (names_of C t) is ≡ scan_columns w is
  unfolding columns_of
  same-columns t q none es e = ap (iota 0) (sym (columns-long t q none es ∙ iota-long (length (names_of C t))) ∙ e)
  same-columns t q (some is) es e = refl

  leaf-keeps : (h : Leaf) → length (leaf_fields C h) ≡ w → leaf_part C s h ≡ leaf_keeps w s h
  unfolding leaf_part leaf_rule
  leaf-keeps (scan t q is es) e =
      ap (λ (n : ℕ). scan t q (some (select (set_mask n s) (columns_of (names_of C t) is))) es) (columns-long t q is es)
      ∙ ap (λ (xs : List ℕ). scan t q (some (select (set_mask (length xs) s) xs)) es) (same-columns t q is es e)
  leaf-keeps (empty b cs) e = refl

  pub kept-head : (v : Version) (h : Head) (p q : Plan) → Wide C w h → plan_head v (kept_node C s h p q) ≡ kept_bytes v w s h
  unfolding plan_head
  kept-head v (h0 h) p q e = ap (leaf_bytes v) (leaf-keeps h e)
  kept-head v (h1 h) p q e = refl
  kept-head v (h2 h) p q e = refl

  pub kept-tags : (h : Head) (p q : Plan) → Wide C w h → head_tags (kept_node C s h p q) ≡ kept_tags w s h
  unfolding head_tags
  kept-tags (h0 h) p q e = ap leaf_tags (leaf-keeps h e)
  kept-tags (h1 h) p q e = refl
  kept-tags (h2 h) p q e = refl

  -- a set within the head's list is within the node's
  module _ (a : Arrays) where
    scan-set : (b : Bool) (t q f n : ℕ) (es : List Expr) → length (leaf_fields C (scan t q (if? b (list_at (number_at a.rows) one f n)) es)) ≡ w →
        s < 2 ^ length (columns_of (names_of C t) (if? b (list_at (number_at a.rows) one f n))) → s < 2 ^ pick b n w
    unfolding columns_of
    scan-set true t q f n es e h = subst (λ (x : ℕ). s < 2 ^ x) (list_length (number_at a.rows) one f n) h
    scan-set false t q f n es e h = subst (λ (x : ℕ). s < 2 ^ x) (sym (columns-long t q none es) ∙ e) h

    pub node-set : (n : Node) → Wide C w (head_of a n) → HeadSet C s (head_of a n) → NodeSet w s n
    node-set (Projection f n) e h = tt
    node-set (Filter x) e h = tt
    node-set (Sort f n) e h = tt
    node-set (Limit k n) e h = tt
    node-set (Aggregate f g v) e h = tt
    node-set (Window f n) e h = subst (λ (x : ℕ). s < 2 ^ x) (list_length (win_at a.rows a.cells) (win_size a.rows) f n) h
    node-set (SubqueryAlias q) e h = tt
    node-set (Union x) e h = tt
    node-set Distinct e h = tt
    node-set (Join j) e h = tt
    node-set (Scan x) e h = scan-set x.given x.table x.qualifier x.first x.n _ e h
    node-set (Empty b f n) e h = tt
