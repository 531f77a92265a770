-- The demands of a node are met exactly where it fits a file, and its tags are those that a file counts. Assumes nothing.
use mathlib.Core.Path.{◌≡◌, refl, sym, ap, ap₂, ◌∙◌}
use mathlib.Core.List.{List, [], ◌∷◌, ◌++◌}
use mathlib.Core.Bool.{Bool, true, false, not, ◌&&◌, true≢false}
use mathlib.Core.Option.{Option, none, some}
use Prim.Native.Nat.{ℕ, zero, suc, ◌+◌, ◌^◌, ◌<◌, ◌≤◌}
use native.Mathlib.Omega.{arith}
use borrow.Author.Tests.{ltb-true, leb-true, lt-ltb, le-leb, ne_eqb}
use lib.Dec.{eqb, ltb, leb}
use lib.ListN.{length, take}
use lib.Signed.{mag}
use Rattle.cpl.specs.Lists.{All, a[], ◌a∷◌}
use Rattle.cpl.specs.Tests.{concat_map, sum_of}
use Rattle.cpl.specs.Limits.{Version, max_keys, max_nodes, max_tags, no_fetch}
use Rattle.cpl.specs.Codes.{VALUE, MANY}
use Rattle.cpl.specs.Plan.{Pair, pair, Expr, col, lit, miss, un, bin, Item, bare, named, Key, key, Call, rows, over, Agg, agg, Win, win, On, on, Leaf, scan, empty, Unary, projection, filter, sort, limit, aggregate, window, subquery_alias, distinct, Binary, union, join, Catalogue, names_of, key_expr}
use Rattle.cpl.specs.Exprs.{call_exprs, cond_exprs, agg_exprs, expr_tags, item_tags, key_tags, agg_tags, win_tags, on_tags, leaf_tags, unary_tags, binary_tags}
use Rattle.cpl.specs.Read.{pick, is_not}
use Rattle.cpl.specs.ReadPlan.{Head, h0, h1, h2}
use Rattle.cpl.specs.Writable.{FitList, FitName, FitPair, FitExpr, FitItem, FitKey, FitCall, FitAgg, FitWin, FitOn, FitCond, FitFetch, FitColumns, FitLeaf, FitUnary, FitBinary}
use Rattle.cpl.proofs.HeadTrip.{FitHead, head_tags}
use Rattle.cpl.proofs.Bools.{and_left, and_right}
use Rattle.cpl.proofs.Lists.{All_++, All_left, All_right}
use Rattle.plan_text.specs.Sizes.{Demand, allowed, few, tagged, Weighed, fine, unmet, weigh, is_name, pair_asks, expr_asks, list_asks, some_asks, item_asks, key_asks, call_asks, agg_asks, win_asks, on_asks, cond_asks, fetch_asks, columns_asks, leaf_asks, unary_asks, binary_asks, head_asks, or_fault, size_fault}
use Rattle.plan_text.proofs.ListTrip.{all_both}

-- ── demands ─────────────────────────────────────────────────────────────────────────────────

abbrev pub Met : Demand → Type 0
Met (allowed b) = b ≡ true
Met (few b) = b ≡ true
Met tagged = Unit {0}

abbrev pub tags_in : List Demand → ℕ
tags_in [] = 0
tags_in (allowed b ∷ ds) = tags_in ds
tags_in (few b ∷ ds) = tags_in ds
tags_in (tagged ∷ ds) = suc (tags_in ds)

tags_++ : (ds es : List Demand) → tags_in (ds ++ es) ≡ tags_in ds + tags_in es
tags_++ [] es = omega arith
tags_++ (allowed b ∷ ds) es = tags_++ ds es
tags_++ (few b ∷ ds) es = tags_++ ds es
tags_++ (tagged ∷ ds) es = ap suc (tags_++ ds es) ∙ omega arith

pub met_fine : (ds : List Demand) (t : ℕ) → All Met ds → t + tags_in ds ≤ max_tags → weigh t ds ≡ fine (t + tags_in ds)
unfolding weigh
met_fine [] t h l = ap fine (omega arith)
met_fine (allowed b ∷ ds) t (h a∷ hs) l = rw (h, met_fine ds t hs l)
met_fine (few b ∷ ds) t (h a∷ hs) l = rw (h, met_fine ds t hs l)
met_fine (tagged ∷ ds) t (h a∷ hs) l = rw (lt-ltb t max_tags (omega arith), met_fine ds (suc t) hs (omega arith)) (ap fine (omega arith))

pub record Weighs (ds : List Demand) (t t' : ℕ) : Type 0 where
  pub met : All Met ds
  pub tags : t' ≡ t + tags_in ds
  pub within : t' ≤ max_tags

clash : {A : Type 0} (code t : ℕ) → unmet code ≡ fine t → A
clash code t e = absurd (let z : ◌≡◌ {A = ℕ} 0 1 = cc in omega arith)

pub fine_met : (ds : List Demand) (t t' : ℕ) → t ≤ max_tags → weigh t ds ≡ fine t' → Weighs ds t t'
unfolding weigh
fine_met [] t t' l e = let same : t ≡ t' = cc in record { met = a[]; tags = omega arith; within = omega arith }
fine_met (allowed b ∷ ds) t t' l e = go (fine_met ds t t' l) b refl e
  where
    go : (weigh t ds ≡ fine t' → Weighs ds t t') → (c : Bool) → b ≡ c → pick c (weigh t ds) (unmet VALUE) ≡ fine t' → Weighs (allowed b ∷ ds) t t'
    go self true h e = let w = self e in record { met = h a∷ w.met; tags = w.tags; within = w.within }
    go self false h e = clash VALUE t' e
fine_met (few b ∷ ds) t t' l e = go (fine_met ds t t' l) b refl e
  where
    go : (weigh t ds ≡ fine t' → Weighs ds t t') → (c : Bool) → b ≡ c → pick c (weigh t ds) (unmet MANY) ≡ fine t' → Weighs (few b ∷ ds) t t'
    go self true h e = let w = self e in record { met = h a∷ w.met; tags = w.tags; within = w.within }
    go self false h e = clash MANY t' e
fine_met (tagged ∷ ds) t t' l e = go (fine_met ds (suc t) t') (ltb t max_tags) refl e
  where
    go : (suc t ≤ max_tags → weigh (suc t) ds ≡ fine t' → Weighs ds (suc t) t') → (c : Bool) → ltb t max_tags ≡ c → pick c (weigh (suc t) ds) (unmet MANY) ≡ fine t' →
        Weighs (tagged ∷ ds) t t'
    go self true h e = let w = self (omega (arith, ltb-true t max_tags h)) e in record { met = tt a∷ w.met; tags = omega (arith, w.tags); within = w.within }
    go self false h e = clash MANY t' e

-- ── demands that say the same as a statement, and how many tags they have ───────────────────

pub record Asks (ds : List Demand) (P : Type 0) (n : ℕ) : Type 0 where
  pub meets : P → All Met ds
  pub means : All Met ds → P
  pub tags : tags_in ds ≡ n

asks_as : {ds : List Demand} {P Q : Type 0} {n m : ℕ} → (P → Q) → (Q → P) → n ≡ m → Asks ds P n → Asks ds Q m
asks_as f g e a = record { meets = λ q. a.meets (g q); means = λ h. f (a.means h); tags = a.tags ∙ e }

asks_none : Asks [] (Unit {0}) 0
asks_none = record { meets = λ u. a[]; means = λ h. tt; tags = refl }

asks-tag : {ds : List Demand} {P : Type 0} {n : ℕ} → Asks ds P n → Asks (tagged ∷ ds) P (suc n)
asks-tag a = record { meets = λ p. tt a∷ a.meets p; means = λ h. a.means (all_both h).1; tags = ap suc a.tags }

asks-allowed : {ds : List Demand} {P Q : Type 0} {n : ℕ} (b : Bool) → (P → b ≡ true) → (b ≡ true → P) → Asks ds Q n → Asks (allowed b ∷ ds) (P × Q) n
asks-allowed b f g a = record { meets = λ p. f p.0 a∷ a.meets p.1; means = λ h. let k = all_both h in (g k.0, a.means k.1); tags = a.tags }

asks-few : {ds : List Demand} {P Q : Type 0} {n : ℕ} (b : Bool) → (P → b ≡ true) → (b ≡ true → P) → Asks ds Q n → Asks (few b ∷ ds) (P × Q) n
asks-few b f g a = record { meets = λ p. f p.0 a∷ a.meets p.1; means = λ h. let k = all_both h in (g k.0, a.means k.1); tags = a.tags }

asks_then : {ds es : List Demand} {P Q : Type 0} {n m : ℕ} → Asks ds P n → Asks es Q m → Asks (ds ++ es) (P × Q) (n + m)
asks_then {ds} {es} a b =
    record {
      meets = λ p. All_++ (a.meets p.0) (b.meets p.1);
      means = λ h. (a.means (All_left ds es h), b.means (All_right ds es h));
      tags = tags_++ ds es ∙ ap₂ ◌+◌ a.tags b.tags;
    }

asks-each : {A : Type 0} {asks : A → List Demand} {P : A → Type 0} {tags : A → ℕ} → ((x : A) → Asks (asks x) (P x) (tags x)) → (xs : List A) →
    Asks (concat_map asks xs) (All P xs) (sum_of tags xs)
unfolding concat_map sum_of
asks-each a [] = record { meets = λ h. a[]; means = λ h. a[]; tags = refl }
asks-each a (x ∷ xs) = asks_as (λ p. p.0 a∷ p.1) all_both refl (asks_then (a x) (asks-each a xs))

asks-list : {A : Type 0} {asks : A → List Demand} {P : A → Type 0} {tags : A → ℕ} → ((x : A) → Asks (asks x) (P x) (tags x)) → (most : ℕ) (xs : List A) →
    Asks (list_asks asks most xs) (FitList P most xs) (sum_of tags xs)
unfolding list_asks FitList
asks-list a most xs = asks-few (leb (length xs) most) (le-leb (length xs) most) (leb-true (length xs) most) (asks-each a xs)

not-zero : (n : ℕ) → 0 < n → is_not 0 n ≡ true
unfolding is_not
not-zero n h = rw (ne_eqb n 0 (omega arith))

zero-not : (n : ℕ) → is_not 0 n ≡ true → 0 < n
unfolding is_not
zero-not zero e = absurd (true≢false (sym e))
zero-not (suc n) e = omega arith

asks-some : {A : Type 0} {asks : A → List Demand} {P : A → Type 0} {tags : A → ℕ} → ((x : A) → Asks (asks x) (P x) (tags x)) → (most : ℕ) (xs : List A) →
    Asks (some_asks asks most xs) ((0 < length xs) × FitList P most xs) (sum_of tags xs)
unfolding some_asks
asks-some a most xs = asks-allowed (is_not 0 (length xs)) (not-zero (length xs)) (zero-not (length xs)) (asks-list a most xs)

-- ── parts ───────────────────────────────────────────────────────────────────────────────────

name_yes : (n : ℕ) → FitName n → is_name n ≡ true
unfolding is_name FitName
name_yes n h = rw (not-zero n h.0, lt-ltb n (2 ^ 16) h.1)

yes_name : (n : ℕ) → is_name n ≡ true → FitName n
unfolding is_name FitName
yes_name n e = (zero-not n (and_left (is_not 0 n) _ e), ltb-true n (2 ^ 16) (and_right (is_not 0 n) _ e))

pair-asks : (c : Pair) → Asks (pair_asks c) (FitPair c) 0
unfolding pair_asks FitPair
pair-asks (pair q n) =
    asks_as (λ p. (p.0, p.1.0)) (λ p. (p.0, (p.1, tt))) refl
    (asks-allowed (ltb q (2 ^ 16)) (lt-ltb q (2 ^ 16)) (ltb-true q (2 ^ 16)) (asks-allowed (is_name n) (name_yes n) (yes_name n) asks_none))

expr_asks_lem : (e : Expr) → Asks (expr_asks e) (FitExpr e) (expr_tags e)
unfolding expr_asks FitExpr expr_tags
expr_asks_lem (col c) = asks-tag (pair-asks c)
expr_asks_lem (lit z) =
    asks-tag (asks_as (λ p. p.0) (λ p. (p, tt)) refl (asks-allowed (ltb (mag z) (2 ^ 63)) (lt-ltb (mag z) (2 ^ 63)) (ltb-true (mag z) (2 ^ 63)) asks_none))
expr_asks_lem miss = asks-tag asks_none
expr_asks_lem (un o a) = asks-tag (expr_asks_lem a)
expr_asks_lem (bin o a b) = asks-tag (asks_then (expr_asks_lem a) (expr_asks_lem b))

item-asks : (i : Item) → Asks (item_asks i) (FitItem i) (item_tags i)
unfolding item_asks FitItem item_tags
item-asks (bare c) = asks-tag (pair-asks c)
item-asks (named c e) = asks-tag (asks_as (λ p. p) (λ p. p) (omega arith) (asks_then (pair-asks c) (expr_asks_lem e)))

key-asks : (k : Key) → Asks (key_asks k) (FitKey k) (key_tags k)
unfolding key_asks FitKey key_tags key_expr
key-asks (key d m e) = expr_asks_lem e

call_asks_lem : (g : Call) → Asks (call_asks g) (FitCall g) (sum_of expr_tags (call_exprs g))
unfolding call_asks FitCall call_exprs sum_of
call_asks_lem rows = asks_none
call_asks_lem (over f e) = asks_as (λ p. p) (λ p. p) (omega arith) (expr_asks_lem e)

agg-asks : (a : Agg) → Asks (agg_asks a) (FitAgg a) (agg_tags a)
unfolding agg_asks FitAgg agg_tags agg_exprs
agg-asks (agg c g) = asks_as (λ p. p) (λ p. p) (omega arith) (asks_then (pair-asks c) (call_asks_lem g))

win-asks : (a : Win) → Asks (win_asks a) (FitWin a) (win_tags a)
unfolding win_asks FitWin win_tags
win-asks (win c g ps ks) =
    asks_as (λ p. (p.0, p.1.1.1, p.1.0, p.1.1.0)) (λ p. (p.0, (p.2, (p.3, p.1)))) (omega arith)
    (asks_then (pair-asks c) (asks_then (asks-list expr_asks_lem max_keys ps) (asks_then (asks-list key-asks max_keys ks) (call_asks_lem g))))

on-asks : (o : On) → Asks (on_asks o) (FitOn o) (on_tags o)
unfolding on_asks FitOn on_tags
on-asks (on a b) = asks_then (expr_asks_lem a) (expr_asks_lem b)

cond-asks : (c : Option Expr) → Asks (cond_asks c) (FitCond c) (sum_of expr_tags (cond_exprs c))
unfolding cond_asks FitCond cond_exprs sum_of
cond-asks none = asks_none
cond-asks (some e) = asks_as (λ p. p) (λ p. p) (omega arith) (expr_asks_lem e)

fetch_asks_lem : (n : Option ℕ) → Asks (fetch_asks n) (FitFetch n) 0
unfolding fetch_asks FitFetch
fetch_asks_lem none = asks_none
fetch_asks_lem (some n) = asks_as (λ p. p.0) (λ p. (p, tt)) refl (asks-allowed (ltb n no_fetch) (lt-ltb n no_fetch) (ltb-true n no_fetch) asks_none)

no_tags : {A : Type 0} (xs : List A) → sum_of (λ x. 0) xs ≡ 0
unfolding sum_of
no_tags [] = refl
no_tags (x ∷ xs) = omega (arith, no_tags xs)

columns-asks : (v : Version) (columns : ℕ) (is : Option (List ℕ)) → Asks (columns_asks v columns is) (FitColumns v columns is) 0
unfolding columns_asks FitColumns
columns-asks v columns none = asks_none
columns-asks v columns (some is) =
    asks_as (λ p. p) (λ p. p) (no_tags is)
    (asks-list (λ i. asks_as (λ p. p.0) (λ p. (p, tt)) refl (asks-allowed (ltb i columns) (lt-ltb i columns) (ltb-true i columns) asks_none)) v.max_columns is)

-- "not both 0"
some_one : (g a : ℕ) → 0 < g + a → not (eqb g 0 && eqb a 0) ≡ true
some_one zero zero h = absurd (omega arith)
some_one zero (suc a) h = rw (ne_eqb (suc a) 0 (omega arith))
some_one (suc g) a h = rw (ne_eqb (suc g) 0 (omega arith))

one-some : (g a : ℕ) → not (eqb g 0 && eqb a 0) ≡ true → 0 < g + a
one-some zero zero e = absurd (true≢false (sym e))
one-some zero (suc a) e = omega arith
one-some (suc g) a e = omega arith

leaf-asks : (C : Catalogue) (h : Leaf) → Asks (leaf_asks C h) (FitLeaf C h) (leaf_tags h)
unfolding leaf_asks FitLeaf leaf_tags
leaf-asks C (scan t q is es) =
    asks_as (λ p. (p.0, p.1.0, p.1.1.0, p.1.1.1)) (λ p. (p.0, (p.1, (p.2, p.3)))) (omega arith)
    (asks-allowed (ltb t (length C.tables)) (lt-ltb t (length C.tables)) (ltb-true t (length C.tables))
    (asks-allowed (is_name q) (name_yes q) (yes_name q)
    (asks_then (columns-asks C.version (length (names_of C t)) is) (asks-list expr_asks_lem C.version.max_filters es))))
leaf-asks C (empty b cs) = asks_as (λ p. p) (λ p. p) (no_tags cs) (asks-list pair-asks C.version.max_items cs)

unary-asks : (v : Version) (h : Unary) → Asks (unary_asks v h) (FitUnary v h) (unary_tags h)
unfolding unary_asks FitUnary unary_tags
unary-asks v (projection is) = asks-list item-asks v.max_items is
unary-asks v (filter e) = expr_asks_lem e
unary-asks v (sort ks) = asks-some key-asks max_keys ks
unary-asks v (limit s n) = asks-allowed (ltb s (2 ^ 32)) (lt-ltb s (2 ^ 32)) (ltb-true s (2 ^ 32)) (fetch_asks_lem n)
unary-asks v (aggregate gs vs) =
    asks_as (λ p. (p.1.0, p.0, p.1.1)) (λ p. (p.1, (p.0, p.2))) refl
    (asks_then (asks-list item-asks v.max_items gs)
    (asks-allowed (not (eqb (length gs) 0 && eqb (length vs) 0)) (some_one (length gs) (length vs)) (one-some (length gs) (length vs)) (asks-list agg-asks v.max_items vs)))
unary-asks v (window ws) = asks-some win-asks v.max_items ws
unary-asks v (subquery_alias q) = asks_as (λ p. p.0) (λ p. (p, tt)) refl (asks-allowed (is_name q) (name_yes q) (yes_name q) asks_none)
unary-asks v distinct = asks_none

binary-asks : (h : Binary) → Asks (binary_asks h) (FitBinary h) (binary_tags h)
unfolding binary_asks FitBinary binary_tags
binary-asks union = asks_none
binary-asks (join t os c) = asks_then (asks-list on-asks max_keys os) (cond-asks c)

head-asks : (C : Catalogue) (h : Head) → Asks (head_asks C h) (FitHead C h) (head_tags h)
unfolding head_asks
head-asks C (h0 h) = leaf-asks C h
head-asks C (h1 h) = unary-asks C.version h
head-asks C (h2 h) = binary-asks h

-- ── all nodes ───────────────────────────────────────────────────────────────────────────────

-- nodes that fit, from line n on, with t tags before
pub record Sized (C : Catalogue) (n t : ℕ) (hs : List Head) : Type 0 where
  pub fit : All (FitHead C) hs
  pub tags : t + sum_of head_tags hs ≤ max_tags
  pub nodes : n + length hs ≤ suc max_nodes

pub sized-none : (C : Catalogue) (hs : List Head) (n t : ℕ) → Sized C n t hs → size_fault C n t hs ≡ none
unfolding size_fault or_fault sum_of
sized-none C [] n t s = refl
sized-none C (h ∷ hs) n t s =
    let k = all_both s.fit in
    let a = head-asks C h in
    let l : leb n max_nodes ≡ true = le-leb n max_nodes (omega (arith, s.nodes)) in
    rw (met_fine (few (leb n max_nodes) ∷ head_asks C h) t (l a∷ a.meets k.0) (omega (arith, a.tags, s.tags)), a.tags)
    (sized-none C hs (suc n) (t + head_tags h) (record { fit = k.1; tags = omega (arith, s.tags); nodes = omega (arith, s.nodes) }))

pub none-sized : (C : Catalogue) (hs : List Head) (n t : ℕ) → n ≤ suc max_nodes → t ≤ max_tags → size_fault C n t hs ≡ none → Sized C n t hs
unfolding size_fault or_fault sum_of
none-sized C [] n t l m e = record { fit = a[]; tags = omega arith; nodes = omega arith }
none-sized C (h ∷ hs) n t l m e = go (λ t' l' m' e'. none-sized C hs (suc n) t' l' m' e') (weigh t (few (leb n max_nodes) ∷ head_asks C h)) refl e
  where
    go : ((t' : ℕ) → suc n ≤ suc max_nodes → t' ≤ max_tags → size_fault C (suc n) t' hs ≡ none → Sized C (suc n) t' hs) → (w : Weighed) →
        weigh t (few (leb n max_nodes) ∷ head_asks C h) ≡ w → or_fault n w (λ t'. size_fault C (suc n) t' hs) ≡ none → Sized C n t (h ∷ hs)
    go self (fine t') f e =
        let a = head-asks C h in
        let w = fine_met (few (leb n max_nodes) ∷ head_asks C h) t t' m f in
        let k = all_both w.met in
        let r = self t' (omega (arith, leb-true n max_nodes k.0)) w.within e in
        record { fit = a.means k.1 a∷ r.fit; tags = omega (arith, r.tags, w.tags, a.tags); nodes = omega (arith, r.nodes) }
    go self (unmet code) f e = absurd (let z : ◌≡◌ {A = ℕ} 0 1 = cc in omega arith)

-- only the first 257 lines are looked at: the 257th is refused whatever it is
take-size : (C : Catalogue) (k : ℕ) (hs : List Head) (n t : ℕ) → n ≤ suc max_nodes → suc max_nodes < n + k → size_fault C n t (take k hs) ≡ size_fault C n t hs
unfolding size_fault or_fault weigh
take-size C zero hs n t m l = absurd (omega arith)
take-size C (suc k) [] n t m l = refl
take-size C (suc k) (h ∷ hs) n t m l = go (λ t' m'. take-size C k hs (suc n) t' m' (omega arith)) (leb n max_nodes) refl
  where
    on : (w : Weighed) → ((t' : ℕ) → size_fault C (suc n) t' (take k hs) ≡ size_fault C (suc n) t' hs) →
        or_fault n w (λ t'. size_fault C (suc n) t' (take k hs)) ≡ or_fault n w (λ t'. size_fault C (suc n) t' hs)
    on (fine t') f = f t'
    on (unmet code) f = refl

    go : ((t' : ℕ) → suc n ≤ suc max_nodes → size_fault C (suc n) t' (take k hs) ≡ size_fault C (suc n) t' hs) → (b : Bool) → leb n max_nodes ≡ b →
        or_fault n (pick b (weigh t (head_asks C h)) (unmet MANY)) (λ t'. size_fault C (suc n) t' (take k hs))
        ≡ or_fault n (pick b (weigh t (head_asks C h)) (unmet MANY)) (λ t'. size_fault C (suc n) t' hs)
    go self true e = on (weigh t (head_asks C h)) (λ t'. self t' (omega (arith, leb-true n max_nodes e)))
    go self false e = refl

pub first_lines : (C : Catalogue) (hs : List Head) → size_fault C 1 0 (take 257 hs) ≡ size_fault C 1 0 hs
first_lines C hs = take-size C 257 hs 1 0 (omega arith) (omega arith)
