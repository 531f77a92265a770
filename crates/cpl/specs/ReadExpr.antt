-- How a file's bytes are read as expressions, items and the other parts of a node: document 01's first table.
use Rattle.std.specs.Prelude.{ℕ, zero, suc, ◌/◌, ◌%◌, ltb, eqb}
use Rattle.cpl.specs.Limits.{max_tags, max_keys}
use Rattle.cpl.specs.Codes.{VALUE, MANY, op1_of, op2_of, alias_tag, signed, fn_of}
use Rattle.cpl.specs.Plan.{Pair, pair, Expr, col, lit, miss, un, bin, Item, bare, named, Key, key, Call, rows, over, Agg, agg, Win, win, On, on}
use Rattle.cpl.specs.Read.{Reader, ◌>>=◌, give, refuse, pick, here, field, nonzero, below, any, tag, counted}

-- "A pair is u16 qualifier (0 = none), u16 name (never 0)."
unfoldable pub read_pair : Reader Pair
read_pair = do
  q ← field 2
  n ← nonzero 2
  give (pair q n)

unfoldable pub read_column : Reader Expr
read_column = do
  c ← read_pair
  give (col c)

-- "literal (8 bytes, two's complement)"
unfoldable pub read_literal : Reader Expr
read_literal = do
  v ← field 8
  give (lit (signed v))

-- what follows a tag below 3
unfoldable pub leaf_rest : ℕ → Reader Expr
leaf_rest t = pick (eqb t 0) read_column (pick (eqb t 1) read_literal (give miss))

-- what follows a tag t that stood at p, where operands are read by e
unfoldable pub expr_rest : Reader Expr → (p t : ℕ) → Reader Expr
expr_rest e p t =
    pick (ltb t 3) (leaf_rest t)
    (pick (ltb t 5) (do a ← e; give (un (op1_of t) a))
    (pick (ltb t 12) (do a ← e; b ← e; give (bin (op2_of t) a b))
    (refuse VALUE p)))

-- an expression nested less than `deep` deep
unfoldable pub expr_to : (deep : ℕ) → Reader Expr
expr_to zero = here >>= λ p. refuse MANY p
expr_to (suc deep) = do
  p ← here
  t ← tag
  expr_rest (λ file at tags nodes. expr_to deep file at tags nodes) p t

-- an expression: of 4,096 tags none is nested deeper
abbrev pub read_expr : Reader Expr
read_expr = expr_to (suc max_tags)

-- "alias: pair, E"
unfoldable pub read_alias : Reader Item
read_alias = do
  c ← read_pair
  e ← read_expr
  give (named c e)

unfoldable pub read_bare : Reader Item
read_bare = do
  c ← read_pair
  give (bare c)

-- "An item of a projection or group list is tag 0 or 12."
unfoldable pub read_item : Reader Item
read_item = do
  p ← here
  t ← tag
  pick (eqb t 0) read_bare (pick (eqb t alias_tag) read_alias (refuse VALUE p))

-- "u8 flags (1 descending, 2 missing first, sum to 3) and E"
unfoldable pub read_key : Reader Key
read_key = do
  x ← below 4
  e ← read_expr
  give (key (eqb (x % 2) 1) (eqb (x / 2) 1) e)

-- what a function's number has after it: "0 counts rows (Window: numbers them), without E"
unfoldable pub read_call : ℕ → Reader Call
read_call f = pick (eqb f 0) (give rows) (do e ← read_expr; give (over (fn_of f) e))

-- "(pair, u8 function, E)"
unfoldable pub read_agg : Reader Agg
read_agg = do
  c ← read_pair
  f ← below 5
  g ← read_call f
  give (agg c g)

-- "(pair, u8 function, u8 p to 16, p E, u8 k to 16, k keys as Sort, E)"
unfoldable pub read_win : Reader Win
read_win = do
  c ← read_pair
  f ← below 5
  ps ← counted 1 any max_keys read_expr
  ks ← counted 1 any max_keys read_key
  g ← read_call f
  give (win c g ps ks)

-- "(left E, right E)"
unfoldable pub read_on : Reader On
read_on = do
  a ← read_expr
  b ← read_expr
  give (on a b)
