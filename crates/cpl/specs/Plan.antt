-- The plan language: document 01's "The plan file" without its bytes. A node is a leaf (Scan, Empty), has one input or has two.
use Rattle.std.specs.Prelude.{List, [], map, Bool, ◌&&◌, ℕ, eqb, ℤ, get_or}
use Rattle.std.proofs.Math.Option.{Option}
use Rattle.cpl.specs.Limits.{Version, version1}

-- "A pair is u16 qualifier (0 = none), u16 name (never 0)."
pub data Pair : Type 0 where
  pair : (qualifier name : ℕ) → Pair
  deriving Discrete as Pair-discrete

unfoldable pub eq_p : Pair → Pair → Bool
eq_p (pair q n) (pair r m) = eqb q r && eqb n m

-- a pair's name alone
abbrev pub nameless : Pair → Pair
nameless (pair q n) = pair 0 n

-- tags 3 and 4
pub data Op1 : Type 0 where
  o_not o_missing : Op1
  deriving Discrete as Op1-discrete

-- tags 5 to 11
pub data Op2 : Type 0 where
  o_add o_sub o_mul o_eq o_lt o_and o_or : Op2
  deriving Discrete as Op2-discrete

-- tags 0 column, 1 literal, 2 missing, 3 and 4 with one operand, 5 to 11 with two
pub data Expr : Type 0 where
  col : Pair → Expr
  lit : ℤ → Expr
  miss : Expr
  un : Op1 → Expr → Expr
  bin : Op2 → Expr → Expr → Expr
  deriving Discrete as Expr-discrete

-- "An item of a projection or group list is tag 0 or 12": a bare column, or an alias (its pair, its expression)
pub data Item : Type 0 where
  bare : Pair → Item
  named : Pair → Expr → Item
  deriving Discrete as Item-discrete

-- a key of Sort or Window: "u8 flags (1 descending, 2 missing first, sum to 3) and E"
pub data Key : Type 0 where
  key : (descending missing-first : Bool) → Expr → Key

-- "1 count of present values, 2 sum, 3 min, 4 max"
pub data Fn : Type 0 where
  f_count f_sum f_min f_max : Fn

-- "0 counts rows (Window: numbers them), without E"
pub data Call : Type 0 where
  rows : Call
  over : Fn → Expr → Call

-- an aggregate: "(pair, u8 function, E)"
pub data Agg : Type 0 where
  agg : Pair → Call → Agg

-- a window expression: "(pair, u8 function, u8 p to 16, p E, u8 k to 16, k keys as Sort, E)"
pub data Win : Type 0 where
  win : Pair → Call → (parts : List Expr) → (keys : List Key) → Win

-- "Join types 0 to 7: Inner, Left, Right, Full, LeftSemi, LeftAnti, RightSemi, RightAnti."
pub data JoinType : Type 0 where
  j_inner j_left j_right j_full j_lsemi j_lanti j_rsemi j_ranti : JoinType

-- a pair of a join: "(left E, right E)"
pub data On : Type 0 where
  on : Expr → Expr → On

-- nodes with no input: 11 Scan (table, qualifier, column indices if given, and its filters, which version 1 does not have), 12 Empty
pub data Leaf : Type 0 where
  scan : (table qualifier : ℕ) → Option (List ℕ) → (filters : List Expr) → Leaf
  empty : (one-row : Bool) → List Pair → Leaf

-- nodes with one input: 1 to 7 and 9. A Limit without a fetch has `none`.
pub data Unary : Type 0 where
  projection : List Item → Unary
  filter : Expr → Unary
  sort : List Key → Unary
  limit : (skip : ℕ) (fetch : Option ℕ) → Unary
  aggregate : (groups : List Item) (aggregates : List Agg) → Unary
  window : List Win → Unary
  subquery_alias : (qualifier : ℕ) → Unary
  distinct : Unary

-- nodes with two inputs: 8 Union, 10 Join
pub data Binary : Type 0 where
  union : Binary
  join : JoinType → List On → Option Expr → Binary

pub data Plan : Type 0 where
  leaf : Leaf → Plan
  unary : Unary → Plan → Plan
  binary : Binary → Plan → Plan → Plan

-- "A table may now declare one key, a nonempty list of its columns." (A `Key` is one of Sort or Window.)
pub record TableKey : Type 0 where
  pub table : ℕ
  pub columns : List ℕ

-- what a plan stands on: the file's version, of each table the names of its columns, and the tables' keys, which version 1 does not have
pub record Catalogue : Type 0 where
  pub version : Version
  pub tables : List (List ℕ)
  pub keys : List TableKey

-- what a plan file holds
pub record Source : Type 0 where
  pub catalogue : Catalogue
  pub plan : Plan

-- ── parts ───────────────────────────────────────────────────────────────────────────────────

-- the names of a table's columns; a table that is not there has none
abbrev pub names_of : Catalogue → (table : ℕ) → List ℕ
names_of C t = get_or C.tables t []

-- a catalogue of version 1, which has no keys
abbrev pub keyless : List (List ℕ) → Catalogue
keyless tables = record { version = version1; tables = tables; keys = [] }

-- the tables that have these keys
abbrev pub keyed_tables : List TableKey → List ℕ
keyed_tables ks = map (λ k. k.table) ks

unfoldable pub item_pair : Item → Pair
item_pair (bare c) = c
item_pair (named c e) = c

-- what an item computes: its expression, stripped of the alias
unfoldable pub item_expr : Item → Expr
item_expr (bare c) = col c
item_expr (named c e) = e

unfoldable pub key_expr : Key → Expr
key_expr (key d m e) = e

unfoldable pub agg_pair : Agg → Pair
agg_pair (agg c f) = c

unfoldable pub win_pair : Win → Pair
win_pair (win c f ps ks) = c

unfoldable pub on_left : On → Expr
on_left (on a b) = a

unfoldable pub on_right : On → Expr
on_right (on a b) = b
