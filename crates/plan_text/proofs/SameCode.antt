-- Codes 4 and 5 of a listing are those of a file: where each number fits the bytes of its field, and each length a byte, the file that would be written is
-- refused with the very code of `size_fault`. Assumes nothing.
use mathlib.Core.Path.{◌≡◌, refl, ap, ap₂}
use mathlib.Core.List.{List, [], ◌∷◌, ◌++◌}
use mathlib.Core.Bool.{Bool, true, false, not, ◌&&◌}
use mathlib.Core.Option.{Option, none, some}
use Prim.Native.Nat.{ℕ, zero, suc, ◌+◌, ◌*◌, ◌/◌, ◌%◌, ◌^◌, ◌<◌, ◌≤◌}
use native.Mathlib.Omega.{arith}
use borrow.Author.Tests.{lt-ltb, le-ltb, ne_eqb}
use lib.Dec.{eqb, ltb}
use lib.ListN.{length}
use lib.Signed.{mag}
use Rattle.cpl.specs.Limits.{Version, max_keys, max_tags, no_fetch}
use Rattle.cpl.specs.Codes.{op1_tag, op1_of, op2_tag, op2_of, alias_tag, signed, unsigned, fn_number, fn_of, join_number, join_of, bit}
use Rattle.cpl.specs.Plan.{Pair, pair, Op1, Op2, Expr, col, lit, miss, un, bin, Item, bare, named, Key, key, Fn, Call, rows, over, Agg, agg, Win, win, JoinType, On, on, scan, empty, projection, filter, sort, limit, aggregate, window, subquery_alias, distinct, union, join, Catalogue, names_of}
use Rattle.cpl.specs.Bytes.{bytes, pair_bytes, expr_bytes, item_bytes, key_bytes, call_number, call_bytes, agg_bytes, win_bytes, on_bytes, cond_bytes, columns_bytes, fetch_number, leaf_bytes, unary_bytes, binary_bytes}
use Rattle.cpl.specs.Read.{Reader, ◌>>=◌, is_not, nonzero, index, below, tag}
use Rattle.cpl.specs.ReadExpr.{read_pair, read_column, read_literal, leaf_rest, expr_rest, expr_to, read_expr, read_alias, read_bare, read_item, read_key, read_call, read_agg, read_win, read_on}
use Rattle.cpl.specs.ReadPlan.{Head, h0, h1, h2, fetch_of, read_limit, read_aggregate, read_cond, read_join, read_columns, read_scan, read_empty, read_head}
use Rattle.cpl.specs.Writable.{FitFetch}
use Rattle.cpl.proofs.CodeTrip.{number-op1, number-op2, number-literal, number_fn, number-join, number_bit, number-flags}
use Rattle.cpl.proofs.PartTrip.{number_fetch}
use Rattle.cpl.proofs.FieldTrip.{field_codec, byte_codec}
use Rattle.cpl.proofs.HeadTrip.{head_tag, head_rest}
use Rattle.plan_text.specs.Sizes.{Demand, allowed, is_name, pair_asks, expr_asks, some_asks, item_asks, key_asks, call_asks, agg_asks, win_asks, on_asks, cond_asks, fetch_asks, columns_asks, leaf_asks, unary_asks, binary_asks, head_asks}
use Rattle.plan_text.proofs.Judged.{Judged, judged_up, judged_as, judged-give, judged_then, judged-map, judged-here, judged_yes, judged_no, judged_met, judged-reads, judged-value, judged-tag, SpeltList, judged-counted, judged-list}

-- ── what bytes can spell ────────────────────────────────────────────────────────────────────

abbrev pub SpeltPair : Pair → Type 0
SpeltPair (pair q n) = (q < 2 ^ 16) × (n < 2 ^ 16)

abbrev pub SpeltExpr : Expr → Type 0
SpeltExpr (col c) = SpeltPair c
SpeltExpr (lit z) = mag z < 2 ^ 63
SpeltExpr miss = Unit {0}
SpeltExpr (un o a) = SpeltExpr a
SpeltExpr (bin o a b) = SpeltExpr a × SpeltExpr b

abbrev pub SpeltItem : Item → Type 0
SpeltItem (bare c) = SpeltPair c
SpeltItem (named c e) = SpeltPair c × SpeltExpr e

abbrev pub SpeltKey : Key → Type 0
SpeltKey (key d m e) = SpeltExpr e

abbrev pub SpeltCall : Call → Type 0
SpeltCall rows = Unit {0}
SpeltCall (over f e) = SpeltExpr e

abbrev pub SpeltAgg : Agg → Type 0
SpeltAgg (agg c g) = SpeltPair c × SpeltCall g

abbrev pub SpeltWin : Win → Type 0
SpeltWin (win c g ps ks) = SpeltPair c × SpeltCall g × SpeltList 1 SpeltExpr ps × SpeltList 1 SpeltKey ks

abbrev pub SpeltOn : On → Type 0
SpeltOn (on a b) = SpeltExpr a × SpeltExpr b

abbrev pub SpeltCond : Option Expr → Type 0
SpeltCond none = Unit {0}
SpeltCond (some e) = SpeltExpr e

abbrev pub SpeltColumns : Version → Option (List ℕ) → Type 0
SpeltColumns v none = Unit {0}
SpeltColumns v (some is) = SpeltList v.wide (λ i. i < 256 ^ v.wide) is

-- a fetch of 4,294,967,295 is spelt as none
abbrev pub SpeltHead : Version → Head → Type 0
SpeltHead v (h0 (scan t q is es)) = (t < 256) × (q < 2 ^ 16) × SpeltColumns v is × SpeltList v.late SpeltExpr es
SpeltHead v (h0 (empty b cs)) = SpeltList v.wide SpeltPair cs
SpeltHead v (h1 (projection is)) = SpeltList v.wide SpeltItem is
SpeltHead v (h1 (filter e)) = SpeltExpr e
SpeltHead v (h1 (sort ks)) = SpeltList 1 SpeltKey ks
SpeltHead v (h1 (limit s n)) = (s < 2 ^ 32) × FitFetch n
SpeltHead v (h1 (aggregate gs vs)) = SpeltList v.wide SpeltItem gs × SpeltList v.wide SpeltAgg vs
SpeltHead v (h1 (window ws)) = SpeltList v.wide SpeltWin ws
SpeltHead v (h1 (subquery_alias q)) = q < 2 ^ 16
SpeltHead v (h1 distinct) = Unit {0}
SpeltHead v (h2 union) = Unit {0}
SpeltHead v (h2 (join t os c)) = SpeltList 1 SpeltOn os × SpeltCond c

-- ── parts ───────────────────────────────────────────────────────────────────────────────────

seq : {A B : Type 0} {low : ℕ} {p : Reader A} (k : A → Reader B) {a : A} {b : B} {xs ys : List ℕ} {ds es : List Demand} →
    Judged low p a xs ds → Judged 0 (k a) b ys es → Judged low (p >>= k) b (xs ++ ys) (ds ++ es)
seq k j q = judged_then k j (judged_up (omega arith) q)

name-asked : (n : ℕ) → n < 2 ^ 16 → is_not 0 n ≡ is_name n
unfolding is_name
name-asked n h = rw (lt-ltb n (2 ^ 16) h) (and-true (is_not 0 n))
  where
    and-true : (b : Bool) → b ≡ (b && true)
    and-true true = refl
    and-true false = refl

name-judged : (n : ℕ) → n < 2 ^ 16 → Judged 0 (nonzero 2) n (bytes 2 n) (allowed (is_name n) ∷ [])
unfolding nonzero
name-judged n h = judged_as refl refl (ap (λ (b : Bool). allowed b ∷ []) (name-asked n h)) (judged-value 2 (is_not 0) n (omega arith))

pair-judged : (c : Pair) → SpeltPair c → Judged 0 read_pair c (pair_bytes c) (pair_asks c)
unfolding read_pair pair_bytes pair_asks
pair-judged (pair q n) h =
    judged_met (ltb q (2 ^ 16)) (lt-ltb q (2 ^ 16) h.0) (seq _ (judged-reads ((field_codec 2).reads q (omega (arith, h.0)))) (judged-map (pair q) (name-judged n h.1)))

module _ (low : ℕ) (self : Reader Expr) (ih : (e : Expr) → SpeltExpr e → Judged (low + 1) self e (expr_bytes e) (expr_asks e)) (p : ℕ) where
  step : (e : Expr) → SpeltExpr e → Judged low (tag >>= λ t. expr_rest self p t) e (expr_bytes e) (expr_asks e)
  unfolding expr_bytes expr_asks expr_rest leaf_rest read_column read_literal
  step (col c) h = seq _ (judged-tag 0) (judged-map col (pair-judged c h))
  step (lit z) h =
      let g = number-literal z h in
      seq _ (judged-tag 1)
      (judged_met (ltb (mag z) (2 ^ 63)) (lt-ltb (mag z) (2 ^ 63) h)
      (judged_as (ap lit g.1) refl refl (judged-map (λ (v : ℕ). lit (signed v)) (judged-reads ((field_codec 8).reads (unsigned z) g.0)))))
  step miss h = seq _ (judged-tag 2) judged-give
  step (un o a) h =
      let g = number-op1 o in
      judged_then _ (judged-tag (op1_tag o))
      (judged_no _ _ (le-ltb (op1_tag o) 3 g.0)
      (judged_yes _ _ (lt-ltb (op1_tag o) 5 g.1) (judged_as (ap (λ (x : Op1). un x a) g.2) refl refl (judged-map (un (op1_of (op1_tag o))) (ih a h)))))
  step (bin o a b) h =
      let g = number-op2 o in
      judged_then _ (judged-tag (op2_tag o))
      (judged_no _ _ (le-ltb (op2_tag o) 3 (omega arith))
      (judged_no _ _ (le-ltb (op2_tag o) 5 g.0)
      (judged_yes _ _ (lt-ltb (op2_tag o) 12 g.1)
      (judged_then _ (ih a h.0)
      (judged_up (omega arith) (judged_as (ap (λ (x : Op2). bin x a b) g.2) refl refl (judged-map (bin (op2_of (op2_tag o)) a) (ih b h.1))))))))

to_judged : (deep low : ℕ) → suc max_tags ≤ low + deep → (e : Expr) → SpeltExpr e → Judged low (expr_to deep) e (expr_bytes e) (expr_asks e)
unfolding expr_to
to_judged zero low l e h = record { judges = λ file at t n s k m o. absurd (omega arith) }
to_judged (suc deep) low l e h = judged-here _ λ p. step low (expr_to deep) (to_judged deep (low + 1) (omega arith)) p e h

expr_judged : (e : Expr) → SpeltExpr e → Judged 0 read_expr e (expr_bytes e) (expr_asks e)
expr_judged e h = to_judged (suc max_tags) 0 (omega arith) e h

item-judged : (i : Item) → SpeltItem i → Judged 0 read_item i (item_bytes i) (item_asks i)
unfolding read_item read_bare read_alias item_bytes item_asks
item-judged (bare c) h = judged-here _ λ p. seq _ (judged-tag 0) (judged-map bare (pair-judged c h))
item-judged (named c e) h = judged-here _ λ p. seq _ (judged-tag alias_tag) (seq _ (pair-judged c h.0) (judged-map (named c) (expr_judged e h.1)))

key-judged : (k : Key) → SpeltKey k → Judged 0 read_key k (key_bytes k) (key_asks k)
unfolding read_key key_bytes key_asks
key-judged (key d m e) h =
    let f = number-flags d m in
    judged_as (ap₂ (λ (x y : Bool). key x y e) f.1 f.2) refl refl
    (seq _ (judged-reads ((byte_codec 4 (omega arith)).reads (bit d + 2 * bit m) f.0))
    (judged-map (λ (e : Expr). key (eqb ((bit d + 2 * bit m) % 2) 1) (eqb ((bit d + 2 * bit m) / 2) 1) e) (expr_judged e h)))

call_judged : (g : Call) → SpeltCall g → Judged 0 (read_call (call_number g)) g (call_bytes g) (call_asks g)
unfolding read_call call_number call_bytes call_asks
call_judged rows h = judged-give
call_judged (over f e) h =
    let g = number_fn f in
    judged_no _ _ (ne_eqb (fn_number f) 0 (λ z. omega arith)) (judged_as (ap (λ (x : Fn). over x e) g.2) refl refl (judged-map (over (fn_of (fn_number f))) (expr_judged e h)))

call_small : (g : Call) → call_number g < 5
unfolding call_number
call_small rows = omega arith
call_small (over f e) = (number_fn f).1

agg-judged : (a : Agg) → SpeltAgg a → Judged 0 read_agg a (agg_bytes a) (agg_asks a)
unfolding read_agg agg_bytes agg_asks
agg-judged (agg c g) h =
    seq _ (pair-judged c h.0) (seq _ (judged-reads ((byte_codec 5 (omega arith)).reads (call_number g) (call_small g))) (judged-map (agg c) (call_judged g h.1)))

win-judged : (a : Win) → SpeltWin a → Judged 0 read_win a (win_bytes a) (win_asks a)
unfolding read_win win_bytes win_asks
win-judged (win c g ps ks) h =
    seq _ (pair-judged c h.0)
    (seq _ (judged-reads ((byte_codec 5 (omega arith)).reads (call_number g) (call_small g)))
    (seq _ (judged-list expr_judged 1 max_keys ps h.2) (seq _ (judged-list key-judged 1 max_keys ks h.3) (judged-map (λ (x : Call). win c x ps ks) (call_judged g h.1)))))

on-judged : (o : On) → SpeltOn o → Judged 0 read_on o (on_bytes o) (on_asks o)
unfolding read_on on_bytes on_asks
on-judged (on a b) h = seq _ (expr_judged a h.0) (judged-map (on a) (expr_judged b h.1))

cond-judged : (c : Option Expr) → SpeltCond c → Judged 0 read_cond c (cond_bytes c) (cond_asks c)
unfolding read_cond cond_bytes cond_asks
cond-judged none h = seq _ (judged-reads ((byte_codec 2 (omega arith)).reads 0 (omega arith))) judged-give
cond-judged (some e) h = seq _ (judged-reads ((byte_codec 2 (omega arith)).reads 1 (omega arith))) (judged-map some (expr_judged e h))

index-judged : (k n i : ℕ) → i < 256 ^ k → Judged 0 (index k n) i (bytes k i) (allowed (ltb i n) ∷ [])
unfolding index
index-judged k n i h = judged-value k (λ x. ltb x n) i h

below-judged : (n i : ℕ) → i < 256 → Judged 0 (below n) i (bytes 1 i) (allowed (ltb i n) ∷ [])
unfolding below
below-judged n i h = index-judged 1 n i (omega arith)

columns-judged : (v : Version) (n : ℕ) (is : Option (List ℕ)) → SpeltColumns v is → Judged 0 (read_columns v n) is (columns_bytes v is) (columns_asks v n is)
unfolding read_columns columns_bytes columns_asks
columns-judged v n none h = seq _ (judged-reads ((byte_codec 2 (omega arith)).reads 0 (omega arith))) judged-give
columns-judged v n (some is) h =
    seq _ (judged-reads ((byte_codec 2 (omega arith)).reads 1 (omega arith))) (judged-map some (judged-list (index-judged v.wide n) v.wide v.max_columns is h))

-- ── nodes ───────────────────────────────────────────────────────────────────────────────────

fetch_judged : (n : Option ℕ) → FitFetch n → {A : Type 0} (p : Reader A) (a : A) (bs : List ℕ) → Judged 0 p a bs [] → Judged 0 p a bs (fetch_asks n)
unfolding FitFetch fetch_asks
fetch_judged none h p a bs j = j
fetch_judged (some n) h p a bs j = judged_met (ltb n no_fetch) (lt-ltb n no_fetch h) j

pub head-judged : (C : Catalogue) (p : ℕ) (h : Head) → SpeltHead C.version h → Judged 0 (read_head C p (head_tag C.version h)) h (head_rest C.version h) (head_asks C h)
unfolding read_head read_limit read_aggregate read_join read_scan read_empty leaf_bytes unary_bytes binary_bytes head_asks leaf_asks unary_asks binary_asks some_asks
head-judged C p (h0 (scan t q is es)) g =
    let v = C.version in
    judged-map h0
    (seq _ (below-judged (length C.tables) t g.0)
    (seq _ (name-judged q g.1) (seq _ (columns-judged v (length (names_of C t)) is g.2) (judged-map (scan t q is) (judged-list expr_judged v.late v.max_filters es g.3)))))
head-judged C p (h0 (empty b cs)) g =
    let n = number_bit b in
    judged-map h0
    (seq _ (judged-reads ((byte_codec 2 (omega arith)).reads (bit b) n.0))
    (judged_as (ap (λ (x : Bool). empty x cs) n.1) refl refl (judged-map (empty (eqb (bit b) 1)) (judged-list pair-judged C.version.wide C.version.max_items cs g))))
head-judged C p (h1 (projection is)) g = judged-map (λ (x : List Item). h1 (projection x)) (judged-list item-judged C.version.wide C.version.max_items is g)
head-judged C p (h1 (filter e)) g = judged-map (λ (x : Expr). h1 (filter x)) (expr_judged e g)
head-judged C p (h1 (sort ks)) g = judged-map (λ (x : List Key). h1 (sort x)) (judged-counted key-judged 1 (is_not 0) max_keys ks g)
head-judged C p (h1 (limit s n)) g =
    let f = number_fetch n g.1 in
    judged_met (ltb s (2 ^ 32)) (lt-ltb s (2 ^ 32) g.0)
    (fetch_judged n g.1 _ _ _
    (judged-map h1
    (seq _ (judged-reads ((field_codec 4).reads s g.0))
    (judged_as (ap (limit s) f.1) refl refl (judged-map (λ (x : ℕ). limit s (fetch_of x)) (judged-reads ((field_codec 4).reads (fetch_number n) f.0)))))))
head-judged C p (h1 (aggregate gs vs)) g =
    judged-map h1 (seq _ (judged-list item-judged C.version.wide C.version.max_items gs g.0) (judged-map (aggregate gs) (judged-counted agg-judged C.version.wide (λ a. not (eqb (length gs) 0 && eqb a 0)) C.version.max_items vs g.1)))
head-judged C p (h1 (window ws)) g = judged-map (λ (x : List Win). h1 (window x)) (judged-counted win-judged C.version.wide (is_not 0) C.version.max_items ws g)
head-judged C p (h1 (subquery_alias q)) g = judged-map (λ (x : ℕ). h1 (subquery_alias x)) (name-judged q g)
head-judged C p (h1 distinct) g = judged-give
head-judged C p (h2 union) g = judged-give
head-judged C p (h2 (join t os c)) g =
    let n = number-join t in
    judged-map h2
    (judged_as (ap (λ (x : JoinType). join x os c) n.1) refl refl
    (seq _ (judged-reads ((byte_codec 8 (omega arith)).reads (join_number t) n.0))
    (seq _ (judged-list on-judged 1 max_keys os g.0) (judged-map (join (join_of (join_number t)) os) (cond-judged c g.1)))))
