-- Every row of an accepted plan is as wide as the plan's fields.
use mathlib.Core.List.{List, [], ◌∷◌, ◌++◌, map}
use mathlib.Core.Bool.{Bool, true, false, not}
use mathlib.Core.Option.{Option, none, some}
use Prim.Native.Nat.{ℕ, zero, suc}
use lib.Dec.{T, eqb→eq}
use lib.ListN.{length, take, drop, get_or}
use Rattle.cpl.specs.Lists.{All, a[], ◌a∷◌, z[], Fit}
use Rattle.cpl.specs.Plan.{Pair, Expr, Item, Agg, JoinType, j_inner, j_left, j_right, j_full, j_lsemi, j_lanti, j_rsemi, j_ranti, Leaf, scan, empty, Unary, projection, filter, sort, limit, aggregate, window, subquery_alias, distinct, Binary, union, join, Plan, leaf, unary, binary, Catalogue, names_of, item_pair, item_expr, agg_pair, win_pair}
use Rattle.cpl.specs.Fields.{columns_of, scan_field, leaf_fields, requalify, unary_fields, join_fields, binary_fields, fields_of}
use Rattle.cpl.specs.Accept.{even}
use Rattle.cpl.specs.Accepted.{Accepted}
use Rattle.cpl.proofs.Lists.{All_map, All_++, All_cond, always, All_mapped, All_concat, Fit-map, Fit_maps, Fit_trans, Fit-sym, Fit_++, length-Fit}
use Rattle.meaning.specs.Value.{missing, Row, Log, same_row}
use Rattle.meaning.specs.Eval.{eval, eval_all}
use Rattle.meaning.specs.Lists.{filter_b, firsts, page, around, or_else}
use Rattle.meaning.specs.Order.{insert, sort_by}
use Rattle.meaning.specs.Operators.{projection_rows, group_keys, members, agg_value, group_row, aggregate_rows, win_value, win_row, window_rows, unary_rows}
use Rattle.meaning.specs.Joins.{matches, missings, left_major, right_major, join_rows, binary_rows}
use Rattle.meaning.specs.Meaning.{row_at, empty_rows, scan_rows, leaf_rows, meaning}

-- ── lists of anything: what holds of each element still does ────────────────────────────────

module _ {A : Type 0} {P : A → Type 0} where
  pub All_filter : (q : A → Bool) {xs : List A} → All P xs → All P (filter_b q xs)
  unfolding filter_b
  All_filter q a[] = a[]
  All_filter q (◌a∷◌ {x = x} h hs) = All_cond (q x) (h a∷ All_filter q hs) (All_filter q hs)

  pub All_insert : (lt : A → A → Bool) (x : A) {ys : List A} → P x → All P ys → All P (insert lt x ys)
  unfolding insert
  All_insert lt x h a[] = h a∷ a[]
  All_insert lt x h (◌a∷◌ {x = y} k ks) = All_cond (lt y x) (k a∷ All_insert lt x h ks) (h a∷ k a∷ ks)

  pub All_sort : (lt : A → A → Bool) {xs : List A} → All P xs → All P (sort_by lt xs)
  unfolding sort_by
  All_sort lt a[] = a[]
  All_sort lt (◌a∷◌ {x = x} h hs) = All_insert lt x h (All_sort lt hs)

  pub All_firsts : (eq : A → A → Bool) {xs : List A} → All P xs → All P (firsts eq xs)
  unfolding firsts
  All_firsts eq a[] = a[]
  All_firsts eq (◌a∷◌ {x = x} h hs) = h a∷ All_filter (λ y. not (eq x y)) (All_firsts eq hs)

  pub All_take : (n : ℕ) {xs : List A} → All P xs → All P (take n xs)
  All_take zero h = a[]
  All_take (suc n) a[] = a[]
  All_take (suc n) (h a∷ hs) = h a∷ All_take n hs

  pub All_drop : (n : ℕ) {xs : List A} → All P xs → All P (drop n xs)
  All_drop zero h = h
  All_drop (suc n) a[] = a[]
  All_drop (suc n) (h a∷ hs) = All_drop n hs

  All_page : (s : ℕ) (n : Option ℕ) {xs : List A} → All P xs → All P (page s n xs)
  unfolding page
  All_page s none h = All_drop s h
  All_page s (some n) h = All_take n (All_drop s h)

  All_or_else : {xs : List A} {d : A} → All P xs → P d → All P (or_else xs d)
  unfolding or_else
  All_or_else a[] d = d a∷ a[]
  All_or_else (h a∷ hs) d = h a∷ hs

  All_around : {B : Type 0} {Q : B → Type 0} (g : List A → A → List A → B) → ((pre : List A) (x : A) (post : List A) → P x → Q (g pre x post)) → {xs : List A} (pre : List A) → All P xs → All Q (around g pre xs)
  unfolding around
  All_around g h pre a[] = a[]
  All_around g h pre (◌a∷◌ {x = x} {xs = xs} k ks) = h pre x xs k a∷ All_around g h (x ∷ pre) ks

All_any : {A B : Type 0} {Q : B → Type 0} (f : A → B) (xs : List A) → ((x : A) → Q (f x)) → All Q (map f xs)
All_any f xs h = All_mapped {P = λ x. Unit {0}} f (λ x u. h x) (always (λ x. tt) xs)

-- ── the rows' widths ────────────────────────────────────────────────────────────────────────

abbrev pub WideRows : List Pair → List Row → Type 0
WideRows fs rs = All (λ r. Fit r fs) rs

-- other fields, as many
pub rewide : {fs gs : List Pair} {rs : List Row} → Fit fs gs → WideRows fs rs → WideRows gs rs
rewide f h = All_map (λ r k. Fit_trans k f) h

pub missings-fit : (fs : List Pair) → Fit (missings fs) fs
unfolding missings
missings-fit fs = Fit-map (λ f. missing) fs

pub wide-keys : (gs : List Expr) (fs : List Pair) (rs : List Row) → All (λ k. Fit k gs) (group_keys gs fs rs)
unfolding group_keys eval_all
wide-keys [] fs rs = z[] a∷ a[]
wide-keys (g ∷ gs) fs rs = All_firsts same_row (All_any _ rs (λ r. Fit-map (eval fs r) (g ∷ gs)))

pub projection-wide : (is : List Item) (fs : List Pair) (rs : List Row) → WideRows (map item_pair is) (projection_rows is fs rs)
unfolding projection_rows eval_all
projection-wide is fs rs = All_any _ rs (λ r. Fit_trans (Fit-map (eval fs r) (map item_expr is)) (Fit_maps item_expr item_pair is))

aggregate-wide : (gs : List Item) (vs : List Agg) (fs : List Pair) (rs : List Row) → WideRows (map item_pair gs ++ map agg_pair vs) (aggregate_rows (map item_expr gs) vs fs rs)
unfolding aggregate_rows group_row
aggregate-wide gs vs fs rs =
    All_mapped _ (λ k h. Fit_++ (Fit_trans h (Fit_maps item_expr item_pair gs)) (Fit_maps (agg_value fs (members (map item_expr gs) fs rs k)) agg_pair vs)) (wide-keys (map item_expr gs) fs rs)

pub unary-wide : (h : Unary) (fs : List Pair) {rs : List Row} → WideRows fs rs → WideRows (unary_fields h fs) (unary_rows h fs rs)
unfolding unary_fields unary_rows window_rows win_row
unary-wide (projection is) fs {rs} w = projection-wide is fs rs
unary-wide (filter e) fs w = All_filter _ w
unary-wide (sort ks) fs w = All_sort _ w
unary-wide (limit s n) fs w = All_page s n w
unary-wide (aggregate gs vs) fs {rs} w = aggregate-wide gs vs fs rs
unary-wide (window ws) fs {rs} w = All_around _ (λ pre r post h. Fit_++ h (Fit_maps (win_value fs rs pre r post) win_pair ws)) [] w
unary-wide (subquery_alias q) fs w = rewide (Fit-sym (Fit-map (requalify q) fs)) w
unary-wide distinct fs w = All_firsts same_row w

module _ (m : Row → Row → Bool) {fl fr : List Pair} {ls rs : List Row} (hl : WideRows fl ls) (hr : WideRows fr rs) where
  left-wide : WideRows (fl ++ fr) (left_major m (missings fr) ls rs)
  unfolding left_major
  left-wide = All_concat (λ l w. All_or_else (All_mapped _ (λ r x. Fit_++ w x) (All_filter (m l) hr)) (Fit_++ w (missings-fit fr))) hl

  join-wide : (t : JoinType) → WideRows (join_fields t fl fr) (join_rows t m (missings fl) (missings fr) ls rs)
  unfolding join_fields join_rows right_major
  join-wide j_inner = All_concat (λ l w. All_mapped _ (λ r x. Fit_++ w x) (All_filter (m l) hr)) hl
  join-wide j_left = left-wide
  join-wide j_right = All_concat (λ r w. All_or_else (All_mapped _ (λ l x. Fit_++ x w) (All_filter (λ l. m l r) hl)) (Fit_++ (missings-fit fl) w)) hr
  join-wide j_full = All_++ left-wide (All_mapped _ (λ r x. Fit_++ (missings-fit fl) x) (All_filter _ hr))
  join-wide j_lsemi = All_filter _ hl
  join-wide j_lanti = All_filter _ hl
  join-wide j_rsemi = All_filter _ hr
  join-wide j_ranti = All_filter _ hr

-- the inputs of a Union are equally wide
pub even-fit : (fl fr : List Pair) → T (even union fl fr) → Fit fr fl
unfolding even
even-fit fl fr t = Fit-sym (length-Fit fl fr (eqb→eq (length fl) (length fr) t))

binary-wide : (h : Binary) (fl fr : List Pair) {ls rs : List Row} → T (even h fl fr) → WideRows fl ls → WideRows fr rs → WideRows (binary_fields h fl fr) (binary_rows h fl fr ls rs)
unfolding binary_fields binary_rows
binary-wide union fl fr t hl hr = All_++ hl (rewide (even-fit fl fr t) hr)
binary-wide (join t os c) fl fr e hl hr = join-wide (matches os c fl fr) hl hr t

pub leaf-wide : (C : Catalogue) (D : Log) (h : Leaf) → WideRows (leaf_fields C h) (leaf_rows C D h)
unfolding leaf_fields leaf_rows row_at empty_rows
leaf-wide C D (scan t q is es) = All_any _ (scan_rows C D t q es) (λ r. Fit_maps (λ i. get_or r i missing) (scan_field (names_of C t) q) (columns_of (names_of C t) is))
leaf-wide C D (empty true cs) = missings-fit cs a∷ a[]
leaf-wide C D (empty false cs) = a[]

pub wide : (C : Catalogue) (D : Log) (p : Plan) → Accepted C p → WideRows (fields_of C p) (meaning C D p)
unfolding Accepted fields_of meaning
wide C D (leaf h) o = leaf-wide C D h
wide C D (unary h p) o = unary-wide h (fields_of C p) (wide C D p o.0)
wide C D (binary h p₁ p₂) o = binary-wide h (fields_of C p₁) (fields_of C p₂) o.2.as_wide (wide C D p₁ o.0) (wide C D p₂ o.1)
