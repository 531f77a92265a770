-- A projection on top of a rewritten plan, as a record. Assumes nothing.
use mathlib.Core.Path.{◌≡◌, refl, sym, ap, ap₂, subst, ◌∙◌}
use mathlib.Core.Bool.{Bool, true, false, ◌&&◌, true≢false}
use mathlib.Core.List.{List, [], ◌∷◌, map}
use Prim.Native.Nat.{ℕ, suc, ◌+◌, ◌*◌, ◌^◌, ◌<◌, ◌≤◌}
use native.Mathlib.Omega.{arith}
use borrow.Author.Tests.{le-ltb, lt-ltb}
use lib.Count.{ones}
use lib.ListN.{length}
use Rattle.cpl.specs.Exprs.{item_tags, plan_nodes}
use Rattle.cpl.specs.Fields.{fields_of}
use Rattle.cpl.specs.Limits.{Version, max_nodes, max_tags}
use Rattle.cpl.specs.Lists.{Fit}
use Rattle.cpl.specs.Plan.{Catalogue, Item, Pair, Plan, bare, eq_p, item_pair, named, projection, unary}
use Rattle.cpl.specs.Tests.{all_b, sum_of}
use Rattle.cpl.proofs.Lists.{Fit-length, Fit-map, Fit-sym, Fit_trans}
use Rattle.rules.specs.Mask.{Mask, select}
use Rattle.rules.specs.Mask as mask
use Rattle.rules.specs.Rules.{over_child, same_columns, top_up}
use Rattle.rules.proofs.Masks.{length-select, select-map}
use Rattle.required_indices.specs.Request.{Asks, request_mask, set_of}
use Rattle.required_indices.specs.Set.{set_mask}
use Rattle.required_indices.specs.declared.RequiredIndices.{RequiredIndices}
use Rattle.required_indices.proofs.Methods.{len_mask}
use Rattle.arena.specs.Rows.{items_at}
use Rattle.arena.proofs.Kept.{kept-items, kept_refl, kept-root, kept-rows}
use Rattle.arena.proofs.Same.{items-length}
use Rattle.tree.specs.Rows.{one}
use Rattle.tree.specs.Tree.{Arrays, plan_at}
use Rattle.lookup.specs.Fields.{field_at, row_at}
use Rattle.lookup.proofs.Lists.{list_length}
use Rattle.result.specs.Result.{Results, columns_node, record_n, result_at}
use Rattle.result.specs.Records.{Grown, RecordOk, WfResults, first_of, results, second_of, stands_for}
use Rattle.result.specs.declared.Record.{Record}
use Rattle.result.specs.declared.Record.TheVariants.{Columns, Items}
use Rattle.result.proofs.Grow.{pushed_grown, pushed_result, pushed_wf}
use Rattle.projections.specs.Lists.{Copies, is_bare, kept_fields, kept_items, same_b}
use Rattle.projections.specs.Tops.{TopAnswer, AsColumns, Held, Narrowed, ProjectionPut, PutIs, ToppedUp}
use Rattle.projections.specs.declared.Selection.TheVariants as selection
use Rattle.projections.specs.declared.Topped.{Topped}
use Rattle.arena.specs.declared.Full.{Full}
use Rattle.std.proofs.Common.{Result, Ok, Err}

-- ── items ───────────────────────────────────────────────────────────────────────────────────

-- bare columns are compared by their pairs
pub bare-same : (js : List Item) (gs : List Pair) → all_b is_bare js ≡ true → same_columns js gs ≡ same_b (map item_pair js) gs
unfolding all_b is_bare same_columns same_b item_pair
bare-same [] [] e = refl
bare-same [] (g ∷ gs) e = refl
bare-same (bare c ∷ js) [] e = refl
bare-same (named c f ∷ js) [] e = refl
bare-same (bare c ∷ js) (g ∷ gs) e = ap (eq_p c g &&◌) (bare-same js gs e)
bare-same (named c f ∷ js) (g ∷ gs) e = absurd (true≢false (sym e))

pub bare-list : (js : List Item) → all_b is_bare js ≡ true → js ≡ map bare (map item_pair js)
unfolding all_b is_bare item_pair
bare-list [] e = refl
bare-list (bare c ∷ js) e = ap (bare c ∷◌) (bare-list js e)
bare-list (named c f ∷ js) e = absurd (true≢false (sym e))

and_no : (b : Bool) → b && false ≡ false
and_no true = refl
and_no false = refl

-- other items change something
pub named_differ : (js : List Item) (gs : List Pair) → all_b is_bare js ≡ false → same_columns js gs ≡ false
unfolding all_b is_bare same_columns
named_differ [] gs e = absurd (true≢false e)
named_differ (bare c ∷ js) [] e = refl
named_differ (named c f ∷ js) [] e = refl
named_differ (bare c ∷ js) (g ∷ gs) e = ap (eq_p c g &&◌) (named_differ js gs e) ∙ and_no (eq_p c g)
named_differ (named c f ∷ js) (g ∷ gs) e = refl

-- ── plans ───────────────────────────────────────────────────────────────────────────────────

module _ (C : Catalogue) (p : Plan) where
  topped_yes : (fs : List Pair) (Q : Mask) → mask.count_m Q < length (fields_of C p) → top_up C fs Q p ≡ unary (projection (map bare (select Q fs))) p
  unfolding top_up
  topped_yes fs Q h = rw (lt-ltb _ _ h)

  topped_no : (fs : List Pair) (Q : Mask) → length (fields_of C p) ≤ mask.count_m Q → top_up C fs Q p ≡ p
  unfolding top_up
  topped_no fs Q h = rw (le-ltb _ _ h)

  over_yes : (js : List Item) → same_columns js (fields_of C p) ≡ false → over_child C js p ≡ unary (projection js) p
  unfolding over_child
  over_yes js e = rw e

  over_no : (js : List Item) → same_columns js (fields_of C p) ≡ true → over_child C js p ≡ p
  unfolding over_child
  over_no js e = rw e

asked-mask : {r : RequiredIndices} {R : Mask} (n : ℕ) → n ≡ length R → Asks r R → request_mask n r ≡ R
asked-mask {r} n e a = ap (λ (x : ℕ). set_mask x (set_of r)) e ∙ a.mask

columns_are : {r : RequiredIndices} {Q : Mask} (fs : List Pair) (p : Plan) → Asks r Q → Fit Q fs → columns_node fs (set_of r) p ≡ unary (projection (map bare (select Q fs))) p
unfolding columns_node
columns_are {r} fs p a f = ap (λ (M : Mask). unary (projection (map bare (select M fs))) p) (asked-mask (length fs) (sym (Fit-length f)) a)

asks-within : {r : RequiredIndices} {Q : Mask} {fs : List Pair} → Asks r Q → Fit Q fs → set_of r < 2 ^ length fs
asks-within {r} a f = subst (λ (x : ℕ). set_of r < 2 ^ x) (Fit-length f) a.within

-- ── records ─────────────────────────────────────────────────────────────────────────────────

module _ {C : Catalogue} {a : Arrays} {count : ℕ} {s items cells : List ℕ} {used m n : ℕ} (w : WfResults C a count (results s items cells) used m n) where
  -- nothing is put
  stays : {rec : ℕ} {p : Plan} → rec < used → p ≡ result_at C a (results s items cells) rec
      → TopAnswer C a count (results s items cells) (results s items cells) used m n p (result_at C a (results s items cells) rec) (Ok (record { «record» = rec; used = used }))
  stays h e = record {
    result = sym e;
    below = h;
    wf = w;
    grown = record { records = kept_refl _ s; items = kept_refl _ items; cells = kept_refl _ cells };
    nodes = omega (arith, ap plan_nodes e);
  }

  -- a record is put over what stood for p'
  puts : (x : Record) (set : ℕ) (p p' : Plan) (s' : List ℕ) → max_nodes * record_n ≤ length s → RecordOk C a count (results s items cells) m n used set x
      → stands_for C a (results s items cells) set x (result_at C a (results s items cells) (first_of x)) (result_at C a (results s items cells) (second_of x)) ≡ p
      → plan_nodes p ≡ suc (plan_nodes p') → (t : Result Topped Full) → PutIs s s' used x set t → TopAnswer C a count (results s items cells) (results s' items cells) used m n p p' t
  puts x set p p' s' room ok e z (Ok t) d =
      let here : used * record_n + record_n ≤ length s = omega (arith, room, d.2) in
      record {
        result = ap (result_at C a (results s' items cells)) d.0 ∙ pushed_result w here d.3 ok ∙ e;
        below = omega (arith, d.0, d.1);
        wf = subst (λ (y : ℕ). WfResults C a count (results s' items cells) y m n) (sym d.1) (pushed_wf w here d.3 ok);
        grown = pushed_grown w here d.3 ok;
        nodes = omega (arith, d.1, z);
      }
  puts x set p p' s' room ok e z (Err full) d = record { same = ap (λ (y : List ℕ). results y items cells) d.1; tight = omega (arith, d.0, z) }

-- ── top-up ──────────────────────────────────────────────────────────────────────────────────

module _ {C : Catalogue} {a : Arrays} {count : ℕ} {r : Results} {used m n rec k : ℕ} {K : Mask} (w : Narrowed C a count r used m n rec k K) where
  long : {kept : RequiredIndices} → Asks kept K → length (fields_of C (result_at C a r rec)) ≡ ones (set_of kept)
  long b = ap length w.fields ∙ length-select w.fits ∙ sym (len_mask b)

module _ {s : List ℕ} {used rec k : ℕ} {asked kept : RequiredIndices} where
  pub topped_put : {s' : List ℕ} (t : Result Topped Full) → max_nodes * record_n ≤ length s → ones (set_of asked) < ones (set_of kept) → PutIs s s' used (Columns k rec) (set_of asked) t → ToppedUp s s' used rec k asked kept t
  unfolding plan_nodes
  topped_put {s'} t room l d = record {
    covers = λ C a count items cells m n K Q w b c f.
        let p : Plan = result_at C a (results s items cells) rec in
        let fs : List Pair = fields_of C (plan_at a k) in
        let e = topped_yes C p fs Q (omega (arith, l, long w b, len_mask c)) in
        puts w.wf (Columns k rec) (set_of asked) _ p s' room (record { node = w.node; input = w.below; within = asks-within c f }) (columns_are fs p c f ∙ sym e) (ap plan_nodes e) t d;
  }

  pub topped_stays : ones (set_of kept) ≤ ones (set_of asked) → ToppedUp s s used rec k asked kept (Ok (record { «record» = rec; used = used }))
  topped_stays l = record {
    covers = λ C a count items cells m n K Q w b c f. stays w.wf w.below (topped_no C _ _ Q (omega (arith, l, long w b, len_mask c)));
  }

-- ── projections ─────────────────────────────────────────────────────────────────────────────

-- the kept items and fields, by the mask that is asked for
pub items_kept : (s cells : List ℕ) (first count : ℕ) {r : RequiredIndices} {R : Mask} → Asks r R → Fit R (items_at s cells first count) → kept_items s cells first count r ≡ select R (items_at s cells first count)
items_kept s cells first count a f = ap (λ (M : Mask). select M (items_at s cells first count)) (asked-mask count (sym (items-length s cells first count) ∙ sym (Fit-length f)) a)

pub fields-kept : (s : List ℕ) (start width : ℕ) {r : RequiredIndices} {R : Mask} {fs : List Pair} → row_at s start width ≡ fs → Asks r R → Fit R fs → kept_fields s start width r ≡ select R fs
fields-kept s start width e a f = ap₂ select (asked-mask width (sym (list_length (field_at s) one start width) ∙ ap length e ∙ sym (Fit-length f)) a) e

module _ {C : Catalogue} {a : Arrays} {count : ℕ} {fields : List ℕ} {top start width k lower below : ℕ} {is : List Item} {R : Mask} (x : AsColumns C a count fields top start width k lower below is (select R is)) (f : Fit R is) where
  fit-top : Fit R (fields_of C (plan_at a top))
  fit-top = subst (Fit R) x.fields_are (Fit_trans f (Fit-sym (Fit-map item_pair is)))

  pairs_are : map item_pair (select R is) ≡ select R (fields_of C (plan_at a top))
  pairs_are = sym (select-map item_pair R is) ∙ ap (select R) x.fields_are

  same_test : {r : Results} {used m n rec : ℕ} {K : Mask} {kept input : RequiredIndices} → Narrowed C a count r used m n rec k K → Asks input K → Asks kept R
      → same_columns (select R is) (fields_of C (result_at C a r rec)) ≡ same_b (kept_fields fields start width kept) (kept_fields fields lower below input)
  same_test w b c =
      bare-same (select R is) _ x.bare
      ∙ ap₂ same_b (pairs_are ∙ sym (fields-kept fields start width x.row c fit-top)) (w.fields ∙ sym (fields-kept fields lower below x.input_row b w.fits))

module _ {s : List ℕ} {used rec : ℕ} {fields : List ℕ} {top start width : ℕ} {kept : RequiredIndices} {lower below : ℕ} {input : RequiredIndices} where
  pub columns_stay : true ≡ same_b (kept_fields fields start width kept) (kept_fields fields lower below input) → ProjectionPut s s used rec selection.Columns fields top start width kept lower below input (Ok (record { «record» = rec; used = used }))
  columns_stay e = record {
    covers = λ C a count items cells m n k K R is w b c f x. stays w.wf w.below (over_no C _ (select R is) (same_test x f w b c ∙ sym e));
  }

  module _ {s' : List ℕ} (t : Result Topped Full) (room : max_nodes * record_n ≤ length s) where
    pub columns_put : false ≡ same_b (kept_fields fields start width kept) (kept_fields fields lower below input) → PutIs s s' used (Columns top rec) (set_of kept) t
        → ProjectionPut s s' used rec selection.Columns fields top start width kept lower below input t
    unfolding plan_nodes
    columns_put e d = record {
      covers = λ C a count items cells m n k K R is w b c f x.
          let p : Plan = result_at C a (results s items cells) rec in
          let o = over_yes C p (select R is) (same_test x f w b c ∙ sym e) in
          let g = bare-list (select R is) x.bare ∙ ap (map bare) (pairs_are x f) in
          puts w.wf (Columns top rec) (set_of kept) _ p s' room (record { node = x.node; input = w.below; within = asks-within c (fit-top x f) })
          (columns_are _ p c (fit-top x f) ∙ ap (λ (js : List Item). unary (projection js) p) (sym g) ∙ sym o) (ap plan_nodes o) t d;
    }

    pub items_put : {row size : ℕ} (set : ℕ) → PutIs s s' used (Items row size rec) set t → ProjectionPut s s' used rec (selection.Items row size) fields top start width kept lower below input t
    unfolding plan_nodes
    items_put {row} {size} set d = record {
      covers = λ C a count items cells m n k K R is w b c f x.
          let p : Plan = result_at C a (results s items cells) rec in
          let y = x.held in
          let o = over_yes C p (select R is) (named_differ (select R is) _ x.named) in
          puts w.wf (Items row size rec) set _ p s' room
          (record { input = w.below; rows = y.rows; used = y.used; roots = y.roots; few = y.few; tags = subst (λ (js : List Item). sum_of item_tags js ≤ max_tags) (sym y.means) y.tags })
          (ap (λ (js : List Item). unary (projection js) p) y.means ∙ sym o) (ap plan_nodes o) t d;
    }

-- ── items that are held ─────────────────────────────────────────────────────────────────────

-- the kept items' tags are among the list's
pub select_sum : {A : Type 0} (g : A → ℕ) (R : Mask) (xs : List A) → sum_of g (select R xs) ≤ sum_of g xs
unfolding select sum_of
select_sum g [] xs = omega arith
select_sum g (b ∷ R) [] = omega arith
select_sum g (true ∷ R) (x ∷ xs) = omega (arith, select_sum g R xs)
select_sum g (false ∷ R) (x ∷ xs) = omega (arith, select_sum g R xs)

-- kept items that were copied
pub copies_held : (v : Version) {js : List Item} {row n : ℕ} {rows cells : List ℕ} {used more : ℕ} {rows' cells' : List ℕ} (s : List ℕ) → Copies js row n rows cells used more rows' cells'
    → length js ≤ v.max_items → sum_of item_tags js ≤ max_tags → Held v (results s rows' cells') (row + n) more row n js
copies_held v s d f t = record { means = d.listing.means; rows = d.listing.ok; used = omega arith; roots = d.listing.below; few = omega (arith, d.long, f); tags = t }

module _ {v : Version} {r : Results} {m n row count : ℕ} {js : List Item} (y : Held v r m n row count js) where
  -- what is appended leaves them
  pub held_grown : {used : ℕ} {r' : Results} → Grown used m n r r' → Held v r' m n row count js
  held_grown g = record {
    means = kept-items m n g.items g.cells row count y.used y.roots ∙ y.means;
    rows = kept-rows m n g.items g.cells row count y.used y.roots y.rows;
    used = y.used;
    roots = λ j p q. let e = kept-root m n g.items g.cells j (omega (arith, y.used)) in omega (arith, y.roots j p q);
    few = y.few;
    tags = y.tags;
  }

  -- more rows and nodes in use
  pub held_more : (m' n' : ℕ) → m ≤ m' → n ≤ n' → Held v r m' n' row count js
  held_more m' n' p q = record { means = y.means; rows = y.rows; used = omega (arith, y.used); roots = λ j b d. omega (arith, y.roots j b d); few = y.few; tags = y.tags }
