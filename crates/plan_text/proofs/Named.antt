-- Where no pair is the one that `q0.c1` is read as. Whatever fits a file is so. Assumes nothing.
use mathlib.Core.Option.{Option, none, some}
use Prim.Native.Nat.{◌+◌, ◌<◌}
use native.Mathlib.Omega.{arith}
use Rattle.cpl.specs.Lists.{All}
use Rattle.cpl.specs.Plan.{Pair, pair, Expr, col, lit, miss, un, bin, Item, bare, named, Key, key, Call, rows, over, Agg, agg, Win, win, On, on, scan, empty, projection, filter, sort, limit, aggregate, window, subquery_alias, distinct, union, join, Catalogue}
use Rattle.cpl.specs.ReadPlan.{Head, h0, h1, h2}
use Rattle.cpl.specs.Writable.{FitList, FitName, FitPair, FitExpr, FitItem, FitKey, FitCall, FitAgg, FitWin, FitOn, FitCond, FitLeaf, FitUnary, FitBinary}
use Rattle.cpl.proofs.HeadTrip.{FitHead}
use Rattle.cpl.proofs.Lists.{All_map}

abbrev pub NamedPair : Pair → Type 0
NamedPair (pair q n) = 0 < q + n

abbrev pub NamedExpr : Expr → Type 0
NamedExpr (col c) = NamedPair c
NamedExpr (lit z) = Unit {0}
NamedExpr miss = Unit {0}
NamedExpr (un o a) = NamedExpr a
NamedExpr (bin o a b) = NamedExpr a × NamedExpr b

abbrev pub NamedItem : Item → Type 0
NamedItem (bare c) = NamedPair c
NamedItem (named c e) = NamedPair c × NamedExpr e

abbrev pub NamedKey : Key → Type 0
NamedKey (key d m e) = NamedExpr e

abbrev pub NamedCall : Call → Type 0
NamedCall rows = Unit {0}
NamedCall (over f e) = NamedExpr e

abbrev pub NamedAgg : Agg → Type 0
NamedAgg (agg c g) = NamedPair c × NamedCall g

abbrev pub NamedWin : Win → Type 0
NamedWin (win c g ps ks) = NamedPair c × NamedCall g × All NamedExpr ps × All NamedKey ks

abbrev pub NamedOn : On → Type 0
NamedOn (on a b) = NamedExpr a × NamedExpr b

abbrev pub NamedCond : Option Expr → Type 0
NamedCond none = Unit {0}
NamedCond (some e) = NamedExpr e

abbrev pub NamedHead : Head → Type 0
NamedHead (h0 (scan t q is es)) = All NamedExpr es
NamedHead (h0 (empty b cs)) = All NamedPair cs
NamedHead (h1 (projection is)) = All NamedItem is
NamedHead (h1 (filter e)) = NamedExpr e
NamedHead (h1 (sort ks)) = All NamedKey ks
NamedHead (h1 (limit s n)) = Unit {0}
NamedHead (h1 (aggregate gs vs)) = All NamedItem gs × All NamedAgg vs
NamedHead (h1 (window ws)) = All NamedWin ws
NamedHead (h1 (subquery_alias q)) = Unit {0}
NamedHead (h1 distinct) = Unit {0}
NamedHead (h2 union) = Unit {0}
NamedHead (h2 (join t os c)) = All NamedOn os × NamedCond c

-- ── what fits ───────────────────────────────────────────────────────────────────────────────

pair-named : (c : Pair) → FitPair c → NamedPair c
unfolding FitPair FitName
pair-named (pair q n) f = omega (arith, f.1.0)

expr_named : (e : Expr) → FitExpr e → NamedExpr e
unfolding FitExpr
expr_named (col c) f = pair-named c f
expr_named (lit z) f = tt
expr_named miss f = tt
expr_named (un o a) f = expr_named a f
expr_named (bin o a b) f = (expr_named a f.0, expr_named b f.1)

item-named : (i : Item) → FitItem i → NamedItem i
unfolding FitItem
item-named (bare c) f = pair-named c f
item-named (named c e) f = (pair-named c f.0, expr_named e f.1)

key-named : (k : Key) → FitKey k → NamedKey k
unfolding FitKey
key-named (key d m e) f = expr_named e f

call_named : (g : Call) → FitCall g → NamedCall g
unfolding FitCall
call_named rows f = tt
call_named (over g e) f = expr_named e f

agg-named : (a : Agg) → FitAgg a → NamedAgg a
unfolding FitAgg
agg-named (agg c g) f = (pair-named c f.0, call_named g f.1)

win-named : (a : Win) → FitWin a → NamedWin a
unfolding FitWin FitList
win-named (win c g ps ks) f = (pair-named c f.0, call_named g f.1, All_map expr_named f.2.1, All_map key-named f.3.1)

on-named : (o : On) → FitOn o → NamedOn o
unfolding FitOn
on-named (on a b) f = (expr_named a f.0, expr_named b f.1)

cond-named : (c : Option Expr) → FitCond c → NamedCond c
unfolding FitCond
cond-named none f = tt
cond-named (some e) f = expr_named e f

pub head-named : (C : Catalogue) (h : Head) → FitHead C h → NamedHead h
unfolding FitLeaf FitUnary FitBinary FitList
head-named C (h0 (scan t q is es)) f = All_map expr_named f.3.1
head-named C (h0 (empty b cs)) f = All_map pair-named f.1
head-named C (h1 (projection is)) f = All_map item-named f.1
head-named C (h1 (filter e)) f = expr_named e f
head-named C (h1 (sort ks)) f = All_map key-named f.1.1
head-named C (h1 (limit s n)) f = tt
head-named C (h1 (aggregate gs vs)) f = (All_map item-named f.1.1, All_map agg-named f.2.1)
head-named C (h1 (window ws)) f = All_map win-named f.1.1
head-named C (h1 (subquery_alias q)) f = tt
head-named C (h1 distinct) f = tt
head-named C (h2 union) f = tt
head-named C (h2 (join t os c)) f = (All_map on-named f.0.1, cond-named c f.1)
