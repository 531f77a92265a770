-- The rows of a plan differ at the places of the plan's key: the key passes up through Scan, Filter, Sort, Limit, SubqueryAlias and Projection.
use mathlib.Core.Path.{◌≡◌, sym, ◌∙◌, ap, subst, subst⁻¹}
use mathlib.Core.List.{List, [], ◌∷◌, map}
use mathlib.Core.Bool.{Bool, true, false, cond, ◌||◌}
use mathlib.Core.Option.{Option, none, some}
use Prim.Native.Nat.{ℕ, suc}
use lib.Dec.{T, eqb, eqb→eq}
use lib.ListN.{get_or}
use Rattle.cpl.specs.Tests.{any_b}
use Rattle.cpl.specs.Lists.{All, a[], ◌a∷◌}
use Rattle.cpl.specs.Plan.{Pair, Expr, col, lit, miss, un, bin, Item, Leaf, scan, empty, Unary, projection, filter, sort, limit, aggregate, window, subquery_alias, distinct, Plan, leaf, unary, binary, TableKey, Catalogue, names_of, item_expr}
use Rattle.cpl.specs.Exprs.{find}
use Rattle.cpl.specs.Fields.{columns_of, table_fields, fields_of}
use Rattle.cpl.proofs.Lists.{All_map, all-T, map_cong, map_cong_a, map-map}
use Rattle.rules.specs.Keys.{field_place, places_of, is_place, has_all, first_at, carried, declared, leaf_key, unary_key, key_of}
use Rattle.meaning.specs.Value.{Val, missing, Row, Log}
use Rattle.meaning.specs.Eval.{value_at, lookup, eval, eval_all}
use Rattle.meaning.specs.Operators.{projection_rows, unary_rows}
use Rattle.meaning.specs.Meaning.{table_rows, row_at, passes, scan_rows, leaf_rows, meaning}
use Rattle.meaning.specs.Keyed.{Pairwise, Differ, KeysDiffer}
use Rattle.meaning.proofs.Pairwise.{Pairwise_map, Pairwise_filter, Pairwise_page, Pairwise_sort}

-- the rows differ at the key, if there is one
pub data KeyOn (rs : List Row) : (key : List ℕ) → Type 0 where
  no_key : KeyOn rs []
  at_key : {k : ℕ} {ks : List ℕ} → Pairwise (Differ (k ∷ ks)) rs → KeyOn rs (k ∷ ks)

-- rows that differ, made into others that do
key-map : {rs qs : List Row} → ((ks : List ℕ) → Pairwise (Differ ks) rs → Pairwise (Differ ks) qs) → {key : List ℕ} → KeyOn rs key → KeyOn qs key
key-map f no_key = no_key
key-map f (at_key {k = k} {ks = ks} h) = at_key (f (k ∷ ks) h)

-- ── the key's values, carried on ────────────────────────────────────────────────────────────

-- a row with one value f r x for each x, where an x that has the place k has the value of the column k
module _ {A : Type 0} (place : A → Option ℕ) (f : Row → A → Val) (value : (k : ℕ) (x : A) (r : Row) → T (is_place k (place x)) → f r x ≡ get_or r k missing) where
  first-value : (k : ℕ) (r : Row) (xs : List A) → T (any_b (is_place k) (map place xs)) → get_or (map (f r) xs) (first_at k (map place xs)) missing ≡ get_or r k missing
  unfolding any_b first_at
  first-value k r [] t = absurd t
  first-value k r (x ∷ xs) t = go (is_place k (place x)) (value k x r) (first-value k r xs) t
    where
      go : (b : Bool) → (T b → f r x ≡ get_or r k missing) → (T (any_b (is_place k) (map place xs)) → get_or (map (f r) xs) (first_at k (map place xs)) missing ≡ get_or r k missing)
          → T (b || any_b (is_place k) (map place xs)) → get_or (f r x ∷ map (f r) xs) (cond b 0 (suc (first_at k (map place xs)))) missing ≡ get_or r k missing
      go true e ih t = e tt
      go false e ih t = ih t

  carried_row : (key : List ℕ) (xs : List A) → T (has_all key (map place xs)) → (r : Row) → row_at (map (λ k. first_at k (map place xs)) key) (map (f r) xs) ≡ row_at key r
  unfolding has_all row_at
  carried_row key xs t r =
      map-map (λ i. get_or (map (f r) xs) i missing) (λ k. first_at k (map place xs)) key ∙ map_cong_a (All_map (λ k a. first-value k r xs a) (all-T (λ k. any_b (is_place k) (map place xs)) key t))

  carried-key : (xs : List A) {key : List ℕ} {rs : List Row} → KeyOn rs key → KeyOn (map (λ r. map (f r) xs) rs) (carried key (map place xs))
  unfolding carried
  carried-key xs {key} {rs} d = go (has_all key (map place xs)) (λ t. t)
    where
      on : {key : List ℕ} → T (has_all key (map place xs)) → KeyOn rs key → KeyOn (map (λ r. map (f r) xs) rs) (map (λ k. first_at k (map place xs)) key)
      on t no_key = no_key
      on t (at_key {k = k} {ks = ks} d) = at_key (Pairwise_map (λ r. map (f r) xs) (λ r s n e. n (sym (carried_row (k ∷ ks) xs t r) ∙ (e ∙ carried_row (k ∷ ks) xs t s))) d)

      go : (b : Bool) → (T b → T (has_all key (map place xs))) → KeyOn (map (λ r. map (f r) xs) rs) (cond b (map (λ k. first_at k (map place xs)) key) [])
      go true t = on (t tt) d
      go false t = no_key

-- ── each kind ───────────────────────────────────────────────────────────────────────────────

at_place : (k : ℕ) (p : Option ℕ) (r : Row) → T (is_place k p) → value_at r p ≡ get_or r k missing
unfolding is_place value_at
at_place k none r t = absurd t
at_place k (some i) r t = ap (λ j. get_or r j missing) (sym (eqb→eq k i t))

-- an expression that is a field has the field's value
pub field-value : (fs : List Pair) (k : ℕ) (e : Expr) (r : Row) → T (is_place k (field_place fs e)) → eval fs r e ≡ get_or r k missing
unfolding field_place is_place eval lookup
field-value fs k (col c) r t = at_place k (find c fs) r t
field-value fs k (lit z) r t = absurd t
field-value fs k miss r t = absurd t
field-value fs k (un o a) r t = absurd t
field-value fs k (bin o a b) r t = absurd t

projection-key : (is : List Item) (fs : List Pair) {key : List ℕ} {rs : List Row} → KeyOn rs key → KeyOn (projection_rows is fs rs) (carried key (places_of fs is))
unfolding projection_rows eval_all places_of
projection-key is fs {key} {rs} d =
    subst⁻¹ (λ qs. KeyOn qs (carried key (places_of fs is))) (map_cong (λ r. map-map (eval fs r) item_expr is) rs)
    (carried-key (λ i. field_place fs (item_expr i)) (λ r i. eval fs r (item_expr i)) (λ k i r t. field-value fs k (item_expr i) r t) is d)

unary-key : (h : Unary) (fs : List Pair) {key : List ℕ} {rs : List Row} → KeyOn rs key → KeyOn (unary_rows h fs rs) (unary_key h fs key)
unfolding unary_key unary_rows
unary-key (projection is) fs d = projection-key is fs d
unary-key (filter e) fs d = key-map (λ ks h. Pairwise_filter _ h) d
unary-key (sort os) fs d = key-map (λ ks h. Pairwise_sort (λ r s n e. n (sym e)) _ h) d
unary-key (limit s n) fs d = key-map (λ ks h. Pairwise_page s n h) d
unary-key (aggregate gs vs) fs d = no_key
unary-key (window ws) fs d = no_key
unary-key (subquery_alias q) fs d = d
unary-key distinct fs d = no_key

module _ (C : Catalogue) (D : Log) (keys : KeysDiffer C D) where
  as_key : (is : List ℕ) {rs : List Row} → Pairwise (Differ is) rs → KeyOn rs is
  as_key [] h = no_key
  as_key (k ∷ ks) h = at_key h

  declared-key : (t : ℕ) {ks : List TableKey} → All (λ k. Pairwise (Differ k.columns) (table_rows D k.table)) ks → KeyOn (table_rows D t) (declared ks t)
  unfolding declared
  declared-key t a[] = no_key
  declared-key t (◌a∷◌ {x = k} {xs = ks} h hs) = go (eqb k.table t) (λ b. b) (declared-key t hs)
    where
      go : (b : Bool) → (T b → T (eqb k.table t)) → KeyOn (table_rows D t) (declared ks t) → KeyOn (table_rows D t) (cond b k.columns (declared ks t))
      go true e ih = subst (λ u. KeyOn (table_rows D u) k.columns) (eqb→eq k.table t (e tt)) (as_key k.columns h)
      go false e ih = ih

  leaf-key : (h : Leaf) → KeyOn (leaf_rows C D h) (leaf_key C h)
  unfolding leaf_key leaf_rows scan_rows row_at value_at
  leaf-key (scan t q is es) = carried-key some (λ r i. get_or r i missing) (λ k i r e. at_place k (some i) r e) (columns_of (names_of C t) is) (key-map (λ ks h. Pairwise_filter (passes (table_fields C t q) es) h) (declared-key t keys))
  leaf-key (empty b cs) = no_key

  -- no two rows of a plan have the same values at the plan's key
  pub plan-key : (p : Plan) → KeyOn (meaning C D p) (key_of C p)
  unfolding key_of meaning
  plan-key (leaf h) = leaf-key h
  plan-key (unary h p) = unary-key h (fields_of C p) (plan-key p)
  plan-key (binary h p₁ p₂) = no_key
