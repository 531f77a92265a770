-- The laws of items that are built: marks, rows and lists of rows. Assumes nothing.
use mathlib.Core.Path.{◌≡◌, refl, sym, ap, ap₂, subst⁻¹, ◌∙◌}
use mathlib.Core.Bool.{Bool, true, false, cond, decide, not, true≢false, ◌&&◌}
use mathlib.Core.List.{List, [], ◌∷◌, ◌++◌, map}
use Prim.Native.Nat.{ℕ, zero, suc, ◌+◌, ◌*◌, ◌-◌, ◌<◌, ◌≤◌}
use native.Mathlib.Decide.{ℕ_discrete}
use native.Mathlib.Omega.{arith}
use borrow.Author.Tests.{ne_eqb}
use lib.Dec.{eqb}
use mir.Val.{bool_byte}
use lib.ListN.{length, length-set, set}
use lib.Seq.{get_or-set_other, get_or-set_same}
use Rattle.cpl.specs.Exprs.{expr_tags, item_tags}
use Rattle.cpl.specs.Plan.{Expr, Item, Pair, bare, bin, col, eq_p, item_expr, lit, miss, named, pair, un}
use Rattle.cpl.specs.Tests.{sum_of}
use Rattle.rules.specs.Merge.{define, expr_d, item, replace, replace_item}
use Rattle.arena.specs.Cells.{Wf, expr_at}
use Rattle.arena.specs.Kept.{Kept}
use Rattle.arena.specs.Rows.{RowIs, RowOk, item_at, items_at, root_at, row_item}
use Rattle.arena.proofs.Kept.{kept-items, kept_refl, kept-root, kept-rows, kept_trans}
use Rattle.arena.proofs.Laws.{here, wf_less}
use Rattle.arena.proofs.Rows.{read_col, read_expr_lem, read_row, row-bare, row_named}
use Rattle.arena.proofs.Same.{dec_true, is_no, items-length, same_cols}
use Rattle.arena_build.specs.Build.{Made, Refused, put_for}
use Rattle.arena_build.specs.declared.Level.TheVariants.{Copy, Replace}
use Rattle.arena_build.proofs.Defs.{copy_same}
use Rattle.arena_build.specs.Lists.{ItemRefused, Listing, Marked, ListRefused, Placed, again, nodes_of, put_row}

-- ── marks ───────────────────────────────────────────────────────────────────────────────────

-- "aliased only where its expression is not a column of that pair", by the test for equality
item_test : (c : Pair) (e : Expr) → item c e ≡ cond (decide (expr_d e (col c))) (bare c) (named c e)
unfolding item eq_p
item_test (pair z w) (col (pair x y)) = rw (same_cols {x = x} {y = y} {z = z} {w = w} refl refl)
item_test c (lit z) = rw (← is_no (expr_d (lit z) (col c)) (λ g. let k : ◌≡◌ {A = ℕ} 0 1 = cc in omega arith))
item_test c miss = rw (← is_no (expr_d miss (col c)) (λ g. let k : ◌≡◌ {A = ℕ} 0 1 = cc in omega arith))
item_test c (un o a) = rw (← is_no (expr_d (un o a) (col c)) (λ g. let k : ◌≡◌ {A = ℕ} 0 1 = cc in omega arith))
item_test c (bin o a b) = rw (← is_no (expr_d (bin o a b) (col c)) (λ g. let k : ◌≡◌ {A = ℕ} 0 1 = cc in omega arith))

item-has : (c : Pair) (e : Expr) → item_expr (item c e) ≡ e
unfolding item_expr
item-has c e = go (decide (expr_d e (col c))) refl
  where
    go : (b : Bool) → decide (expr_d e (col c)) ≡ b → item_expr (item c e) ≡ e
    go true h = let q : item c e ≡ bare c = item_test c e ∙ rw h in ap item_expr q ∙ sym (dec_true _ h)
    go false h = let q : item c e ≡ named c e = item_test c e ∙ rw h in ap item_expr q

pub again-has : (i : Item) (e : Expr) → item_expr (again i e) ≡ e
unfolding again item_expr
again-has (bare c) e = item-has c e
again-has (named (pair zero n) f) e = item-has (pair zero n) e
again-has (named (pair (suc q) n) f) e = refl

-- an item replaced is the item again, with its expression replaced
pub replace-again : (is : List Item) (i : Item) → replace_item is i ≡ again i (replace (put_for Replace is) (item_expr i))
unfolding again replace_item item_expr replace put_for define
replace-again is (bare c) = refl
replace-again is (named (pair zero n) e) = refl
replace-again is (named (pair (suc q) n) e) = refl

replace-row : {s : List ℕ} {i q n m r : ℕ} (c : List ℕ) (is : List Item) (v : RowIs s i q n m r) (o : RowOk s c i) → replace_item is (item_at s c i) ≡ again (item_at s c i) (replace (put_for Replace is) (expr_at c r))
replace-row {s} {i} c is v o = replace-again is (item_at s c i) ∙ ap (λ e. again (item_at s c i) (replace (put_for Replace is) e)) (read_expr_lem c v o)

-- only the mark and the pair matter to what an item becomes
again-row : (m : ℕ) (c : Pair) (e f g : Expr) → again (row_item m c e) g ≡ again (row_item m c f) g
unfolding row_item again
again-row m (pair q n) e f g = go q (eqb m 0)
  where
    go : (q : ℕ) (b : Bool) → again (cond b (bare (pair q n)) (named (pair q n) e)) g ≡ again (cond b (bare (pair q n)) (named (pair q n) f)) g
    go zero true = refl
    go zero false = refl
    go (suc q) true = refl
    go (suc q) false = refl

module _ (m q n : ℕ) (e : Expr) where
  stays : not (eqb m 0) && not (eqb q 0) ≡ true → again (row_item m (pair q n) e) e ≡ named (pair q n) e
  unfolding row_item again
  stays = go (eqb m 0) q
    where
      go : (b : Bool) (q : ℕ) → not b && not (eqb q 0) ≡ true → again (cond b (bare (pair q n)) (named (pair q n) e)) e ≡ named (pair q n) e
      go true q h = absurd (true≢false (sym h))
      go false zero h = absurd (true≢false (sym h))
      go false (suc q) h = refl

  judged : not (eqb m 0) && not (eqb q 0) ≡ false → again (row_item m (pair q n) e) e ≡ item (pair q n) e
  unfolding row_item again
  judged = go (eqb m 0) q
    where
      go : (b : Bool) (q : ℕ) → not b && not (eqb q 0) ≡ false → again (cond b (bare (pair q n)) (named (pair q n) e)) e ≡ item (pair q n) e
      go true q h = refl
      go false zero h = refl
      go false (suc q) h = absurd (true≢false (sym (ap not (ne_eqb (suc q) 0 (λ z. absurd (omega arith)))) ∙ h))

  pub mark_stays : not (eqb m 0) && not (eqb q 0) ≡ true → Marked m (pair q n) e 1
  mark_stays h = record { item_is = row_named 1 _ _ (λ z. absurd (omega arith)) ∙ sym (stays h); bare_is = λ z. absurd (omega arith); small = omega arith }

  pub mark_bare : not (eqb m 0) && not (eqb q 0) ≡ false → decide (expr_d e (col (pair q n))) ≡ true → Marked m (pair q n) e 0
  mark_bare h d = record { item_is = row-bare 0 _ _ refl ∙ sym (judged h ∙ item_test _ e ∙ rw d); bare_is = λ z. dec_true _ d; small = omega arith }

  pub mark_named : not (eqb m 0) && not (eqb q 0) ≡ false → decide (expr_d e (col (pair q n))) ≡ false → Marked m (pair q n) e 1
  mark_named h d = record { item_is = row_named 1 _ _ (λ z. absurd (omega arith)) ∙ sym (judged h ∙ item_test _ e ∙ rw d); bare_is = λ z. absurd (omega arith); small = omega arith }

  -- the mark that the code writes: 1 unless the test for the column says yes
  pub marked_by : not (eqb m 0) && not (eqb q 0) ≡ false → (b : Bool) → b ≡ decide (expr_d e (col (pair q n))) → Marked m (pair q n) e (bool_byte (not b))
  marked_by h true d = mark_bare h (sym d)
  marked_by h false d = mark_named h (sym d)

-- ── a row ───────────────────────────────────────────────────────────────────────────────────

module _ (s : List ℕ) (i q n m k : ℕ) (h : i * 4 + 3 < length s) where
  r₁ : List ℕ
  r₁ = set s (i * 4) q

  r₂ : List ℕ
  unfolding r₁
  r₂ = set r₁ (i * 4 + 1) n

  r₃ : List ℕ
  unfolding r₂
  r₃ = set r₂ (i * 4 + 2) m

  pub row_kept : Kept (i * 4) s (put_row s i q n m k)
  unfolding put_row r₃
  row_kept = record {
    same = λ j l. get_or-set_other r₃ (i * 4 + 3) j k 0 (omega arith) ∙ get_or-set_other r₂ (i * 4 + 2) j m 0 (omega arith) ∙ get_or-set_other r₁ (i * 4 + 1) j n 0 (omega arith) ∙ get_or-set_other s (i * 4) j q 0 (omega arith);
    long = simp length-set;
  }

  pub row_is : RowIs (put_row s i q n m k) i q n m k
  unfolding put_row r₃
  row_is = record {
    pair_is = sym (ap₂ pair
        (get_or-set_other r₃ (i * 4 + 3) (i * 4) k 0 (omega arith) ∙ get_or-set_other r₂ (i * 4 + 2) (i * 4) m 0 (omega arith) ∙ get_or-set_other r₁ (i * 4 + 1) (i * 4) n 0 (omega arith) ∙ get_or-set_same s (i * 4) q 0 (omega arith))
        (get_or-set_other r₃ (i * 4 + 3) (i * 4 + 1) k 0 (omega arith) ∙ get_or-set_other r₂ (i * 4 + 2) (i * 4 + 1) m 0 (omega arith) ∙ get_or-set_same r₁ (i * 4 + 1) n 0 (simp length-set (omega arith))));
    mark_is = sym (get_or-set_other r₃ (i * 4 + 3) (i * 4 + 2) k 0 (omega arith) ∙ get_or-set_same r₂ (i * 4 + 2) m 0 (simp length-set (omega arith)));
    root_is = sym (get_or-set_same r₃ (i * 4 + 3) k 0 (simp length-set (omega arith)));
  }

-- a row names a node in 16 bits
pub node-small : {e : Expr} {s : List ℕ} {used node more : ℕ} {s' : List ℕ} → Made e s used node more s' → length s ≤ 196608 → node < 65536
node-small {node = node} {more = more} {s' = s'} d h = omega (arith, (here s' node (wf_less s' (node + 1) more (omega (arith, d.last)) d.wf)).inside, d.kept.long)

-- an item put into row k, behind its expression
pub place : (it : Item) (rows : List ℕ) (k q n m : ℕ) (e : Expr) (cells : List ℕ) (used node more : ℕ) (cells' : List ℕ) → k * 4 + 3 < length rows
    → Made e cells used node more cells' → item_expr it ≡ e → row_item m (pair q n) e ≡ it → (m ≡ 0 → e ≡ col (pair q n))
    → Placed it k rows cells used node more (put_row rows k q n m node) cells'
place it rows k q n m e cells used node more cells' h d x r b =
    let o = row_is rows k q n m node h in
    record {
      made = rw x d;
      kept = row_kept rows k q n m node h;
      means = read_row cells' o ∙ ap (row_item m (pair q n)) d.means ∙ r;
      root = sym o.root_is;
      ok = record {
        inside = rw (row_kept rows k q n m node h).long h;
        node = rw (← o.root_is) (wf_less cells' (node + 1) more (omega (arith, d.last)) d.wf);
        bare = λ z. ap (expr_at cells') (sym o.root_is) ∙ d.means ∙ b (o.mark_is ∙ z) ∙ ap col o.pair_is;
      };
    }

-- the ways through `copy_item` and `replace_item`: row i of s was read, and its expression built
module _ {s : List ℕ} {i q n m r : ℕ} (c : List ℕ) (is : List Item) (v : RowIs s i q n m r) (o : RowOk s c i) {cells : List ℕ} {used : ℕ} {cells' : List ℕ} where
  module _ (rows : List ℕ) (k : ℕ) {node more : ℕ} (rows' : List ℕ) (h : k * 4 + 3 < length rows) where
    pub copy_placed : Made (replace (put_for Copy is) (expr_at c r)) cells used node more cells' → rows' ≡ put_row rows k q n m node → Placed (item_at s c i) k rows cells used node more rows' cells'
    copy_placed d e = rw e (place _ rows k q n m (expr_at c r) cells used node more cells' h (rw (copy_same is (expr_at c r)) at d) (read_expr_lem c v o) (sym (read_row c v)) (read_col c v o))

    pub replace_placed : {z : ℕ} → Made (replace (put_for Replace is) (expr_at c r)) cells used node more cells' → Marked m (pair q n) (expr_at cells' node) z → rows' ≡ put_row rows k q n z node
        → Placed (replace_item is (item_at s c i)) k rows cells used node more rows' cells'
    replace_placed {z} d w e =
        let y = rw d.means at w in
        let x = replace-row c is v o in
        rw e (place _ rows k q n z (replace (put_for Replace is) (expr_at c r)) cells used node more cells' h d (ap item_expr x ∙ again-has _ _)
        (y.item_is ∙ again-row m (pair q n) _ (expr_at c r) _ ∙ sym (x ∙ ap (λ j. again j (replace (put_for Replace is) (expr_at c r))) (read_row c v))) y.bare_is)

  pub copy_left : (rows : List ℕ) → Refused (replace (put_for Copy is) (expr_at c r)) cells used cells' → ItemRefused (item_at s c i) rows cells used rows cells'
  copy_left rows d = record { refused = rw (read_expr_lem c v o) (rw (copy_same is (expr_at c r)) at d); same = refl }

  pub replace-left : (rows : List ℕ) → Refused (replace (put_for Replace is) (expr_at c r)) cells used cells' → ItemRefused (replace_item is (item_at s c i)) rows cells used rows cells'
  replace-left rows d = record { refused = rw (ap item_expr (replace-row c is v o) ∙ again-has _ _) d; same = refl }

-- ── a list ──────────────────────────────────────────────────────────────────────────────────

-- one row more
items_more : (s cells : List ℕ) (f n : ℕ) → items_at s cells f (n + 1) ≡ items_at s cells f n ++ (item_at s cells (f + n) ∷ [])
unfolding items_at
items_more s cells f zero = ap (λ k. item_at s cells k ∷ []) (omega arith)
items_more s cells f (suc n) =
    let e : suc n + 1 ≡ suc (n + 1) = omega arith in
    let g : suc f + n ≡ f + suc n = omega arith in
    ap (items_at s cells f) e ∙ ap (◌∷◌ (item_at s cells f)) (items_more s cells (suc f) n ∙ ap (λ k. items_at s cells (suc f) n ++ (item_at s cells k ∷ [])) g)

sum_more : (g : Item → ℕ) (is : List Item) (i : Item) → sum_of g (is ++ (i ∷ [])) ≡ sum_of g is + g i
unfolding sum_of
sum_more g [] i = omega arith
sum_more g (j ∷ is) i = omega (arith, sum_more g is i)

map_more : (g : Item → Item) (is : List Item) (i : Item) → map g (is ++ (i ∷ [])) ≡ map g is ++ (g i ∷ [])
map_more g [] i = refl
map_more g (j ∷ is) i = ap (◌∷◌ (g j)) (map_more g is i)

module _ {is : List Item} {it : Item} {to n : ℕ} {rows cells : List ℕ} {used u : ℕ} {rows₁ cells₁ : List ℕ} {node more : ℕ} {rows₂ cells₂ : List ℕ}
    (p : Listing is to n rows cells used u rows₁ cells₁) (q : Placed it (to + n) rows₁ cells₁ u node more rows₂ cells₂) where
  old_or_new : (P : ℕ → Type 0) → ((k : ℕ) → to ≤ k → k < to + n → P k) → P (to + n) → (k : ℕ) → to ≤ k → k < to + (n + 1) → P k
  old_or_new P f g k h l = elim (ℕ_discrete k (to + n)) [ yes e ↦ subst⁻¹ P e g | no z ↦ f k h (omega arith) ]

  -- one item more in a list
  pub listing-more : Listing (is ++ (it ∷ [])) to (n + 1) rows cells used more rows₂ cells₂
  unfolding nodes_of
  listing-more = record {
    kept = kept_trans (omega (arith, p.grown)) p.kept q.made.kept;
    rows_kept = kept_trans (omega arith) p.rows_kept q.kept;
    means = items_more rows₂ cells₂ to n ∙ ap₂ (λ a b. a ++ (b ∷ [])) (kept-items (to + n) u q.kept q.made.kept to n (omega arith) p.below ∙ p.means) q.means;
    ok = record {
      room = omega (arith, q.ok.inside);
      each = old_or_new (RowOk rows₂ cells₂) (λ k h l. (kept-rows (to + n) u q.kept q.made.kept to n (omega arith) p.below p.ok).each k h l) q.ok;
    };
    below = old_or_new (λ k. root_at rows₂ k < more) (λ k h l. omega (arith, p.below k h l, q.made.grown, kept-root (to + n) u q.kept q.made.kept k l)) (omega (arith, q.root, q.made.last));
    grown = omega (arith, p.grown, q.made.grown, sum_more (λ i. expr_tags (item_expr i)) is it);
    wf = q.made.wf;
  }

pub listing_none : (to : ℕ) (rows cells : List ℕ) (used : ℕ) → to * 4 ≤ length rows → Wf cells used → Listing [] to 0 rows cells used used rows cells
unfolding nodes_of sum_of items_at
listing_none to rows cells used h w = record {
  kept = kept_refl _ cells;
  rows_kept = kept_refl _ rows;
  means = refl;
  ok = record { room = omega arith; each = λ k a b. absurd (omega arith) };
  below = λ k a b. absurd (omega arith);
  grown = omega arith;
  wf = w;
}

-- a list that is made of a list's rows, one by one
module _ (g : Item → Item) (s c : List ℕ) (f : ℕ) where
  abbrev pub made_of : ℕ → List Item
  made_of n = map g (items_at s c f n)

  pub made_more : (n : ℕ) → made_of (n + 1) ≡ made_of n ++ (g (item_at s c (f + n)) ∷ [])
  made_more n = ap (map g) (items_more s c f n) ∙ map_more g (items_at s c f n) (item_at s c (f + n))

  -- one row more is done
  pub made-step : {n to : ℕ} {rows cells : List ℕ} {used u : ℕ} {rows₁ cells₁ : List ℕ} {node more : ℕ} {rows₂ cells₂ : List ℕ}
      → Listing (made_of n) to n rows cells used u rows₁ cells₁ → Placed (g (item_at s c (f + n))) (to + n) rows₁ cells₁ u node more rows₂ cells₂
      → Listing (made_of (n + 1)) to (n + 1) rows cells used more rows₂ cells₂
  made-step {n} p q = rw (made_more n) (listing-more p q)

  nodes-more : (n : ℕ) → nodes_of (made_of (n + 1)) ≡ nodes_of (made_of n) + expr_tags (item_expr (g (item_at s c (f + n))))
  unfolding nodes_of
  nodes-more n = ap nodes_of (made_more n) ∙ sum_more (λ i. expr_tags (item_expr i)) (made_of n) (g (item_at s c (f + n)))

  nodes_le : (n d : ℕ) → nodes_of (made_of n) ≤ nodes_of (made_of (n + d))
  nodes_le n zero = let e : n + 0 ≡ n = omega arith in omega (arith, ap (λ k. nodes_of (made_of k)) e)
  nodes_le n (suc d) = let e : n + suc d ≡ n + d + 1 = omega arith in omega (arith, nodes_le n d, nodes-more (n + d), ap (λ k. nodes_of (made_of k)) e)

  -- an item for which there is no room
  pub listing_full : {i to : ℕ} {rows cells : List ℕ} {used u : ℕ} {rows₁ cells₁ rows₂ cells₂ : List ℕ} (n : ℕ) → i < n
      → Listing (made_of i) to i rows cells used u rows₁ cells₁ → ItemRefused (g (item_at s c (f + i))) rows₁ cells₁ u rows₂ cells₂
      → ListRefused (made_of n) to rows cells used rows₂ cells₂
  listing_full {i} n h p q =
      let e : i + 1 + (n - (i + 1)) ≡ n = omega arith in
      record {
        kept = kept_trans (omega (arith, p.grown)) p.kept q.refused.kept;
        rows_kept = rw q.same p.rows_kept;
        tight = omega (arith, q.refused.tight, p.kept.long, p.grown, nodes-more i, nodes_le (i + 1) (n - (i + 1)), ap (λ k. nodes_of (made_of k)) e);
      }

one_more : (i : Item) → item_tags i ≤ expr_tags (item_expr i) + 1
unfolding item_tags item_expr expr_tags
one_more (bare c) = omega arith
one_more (named c e) = omega arith

-- for a caller that counts: at most one tag more than nodes for each item
pub tags-within : (is : List Item) → sum_of item_tags is ≤ nodes_of is + length is
unfolding nodes_of sum_of
tags-within [] = omega arith
tags-within (i ∷ is) = omega (arith, one_more i, tags-within is)

pub listing-tags : {is : List Item} {to n : ℕ} {rows cells : List ℕ} {used more : ℕ} {rows' cells' : List ℕ}
    → Listing is to n rows cells used more rows' cells' → sum_of item_tags (items_at rows' cells' to n) ≤ more + n
listing-tags {is} {to} {n} {rows' = rows'} {cells' = cells'} p =
    omega (arith, ap (sum_of item_tags) p.means, tags-within is, p.grown, ap length p.means, items-length rows' cells' to n)
