-- How a file's bytes are read as a plan: document 01's second table, its header and its end, in the widths and limits of the file's version.
use Rattle.std.specs.Prelude.{ℕ, zero, suc, Bool, true, false, not, ◌&&◌, List, [], ◌∷◌, length, get_or, eqb}
use Rattle.std.proofs.Math.Option.{Option, none, some}
use Rattle.cpl.specs.Limits.{Version, version1, version2, max_tables, max_keys, max_nodes, no_fetch}
use Rattle.cpl.specs.Codes.{MARK, VALUE, MANY, TAIL, join_of}
use Rattle.cpl.specs.Plan.{Expr, Leaf, scan, empty, Unary, projection, filter, sort, limit, aggregate, window, subquery_alias, distinct, Binary, union, join, Plan, leaf, unary, binary, TableKey, Catalogue, Source, names_of, keyed_tables}
use Rattle.cpl.specs.Read.{Res, ok, bad, Reader, ◌>>=◌, give, refuse, pick, here, field, value, is_not, nonzero, index, below, fresh, any, node_tag, counted, counted_after}
use Rattle.cpl.specs.ReadExpr.{read_pair, read_expr, read_item, read_key, read_agg, read_win, read_on}

-- ── nodes without their inputs ──────────────────────────────────────────────────────────────

pub data Head : Type 0 where
  h0 : Leaf → Head
  h1 : Unary → Head
  h2 : Binary → Head

-- "u32 fetch (4,294,967,295 = none)"
unfoldable pub fetch_of : ℕ → Option ℕ
fetch_of x = pick (eqb x no_fetch) none (some x)

unfoldable pub read_limit : Reader Unary
read_limit = do
  s ← field 4
  n ← field 4
  give (limit s (fetch_of n))

-- "u8 g, g items, u8 a, a of (pair, u8 function, E); g and a to 128, not both 0"
unfoldable pub read_aggregate : Version → Reader Unary
read_aggregate v = do
  gs ← counted v.wide any v.max_items read_item
  vs ← counted v.wide (λ a. not (eqb (length gs) 0 && eqb a 0)) v.max_items read_agg
  give (aggregate gs vs)

-- "u8 0 or 1, then E if 1"
unfoldable pub read_cond : Reader (Option Expr)
read_cond = do
  x ← below 2
  pick (eqb x 0) (give none) (do e ← read_expr; give (some e))

-- "u8 type; u8 n to 16 of (left E, right E); u8 0 or 1, then E if 1"
unfoldable pub read_join : Reader Binary
read_join = do
  t ← below 8
  os ← counted 1 any max_keys read_on
  c ← read_cond
  give (join (join_of t) os c)

-- "u8 0 or 1; if 1: u8 n to 64, n u8 column indices"
unfoldable pub read_columns : Version → (columns : ℕ) → Reader (Option (List ℕ))
read_columns v columns = do
  x ← below 2
  pick (eqb x 0) (give none) (do is ← counted v.wide any v.max_columns (index v.wide columns); give (some is))

-- "u8 table, u16 qualifier not 0": the table is one of the catalogue's, its columns that table's. "a scan ends in u8 n to 16 and n filter expressions"
unfoldable pub read_scan : Catalogue → Reader Leaf
read_scan C = do
  t ← below (length C.tables)
  q ← nonzero 2
  is ← read_columns C.version (length (names_of C t))
  es ← counted C.version.late any C.version.max_filters read_expr
  give (scan t q is es)

-- "u8 one-row 0 or 1, u8 n to 128, pairs"
unfoldable pub read_empty : Version → Reader Leaf
read_empty v = do
  x ← below 2
  cs ← counted v.wide any v.max_items read_pair
  give (empty (eqb x 1) cs)

-- what follows a node's tag t that stood at p, without the inputs
unfoldable pub read_head : Catalogue → (p t : ℕ) → Reader Head
read_head C p t =
    let v = C.version in
    pick (eqb t 1) (do is ← counted v.wide any v.max_items read_item; give (h1 (projection is)))
    (pick (eqb t 2) (do e ← read_expr; give (h1 (filter e)))
    (pick (eqb t 3) (do ks ← counted 1 (is_not 0) max_keys read_key; give (h1 (sort ks)))
    (pick (eqb t 4) (do h ← read_limit; give (h1 h))
    (pick (eqb t 5) (do h ← read_aggregate v; give (h1 h))
    (pick (eqb t 6) (do ws ← counted v.wide (is_not 0) v.max_items read_win; give (h1 (window ws)))
    (pick (eqb t 7) (do q ← nonzero 2; give (h1 (subquery_alias q)))
    (pick (eqb t 8) (give (h2 union))
    (pick (eqb t 9) (give (h1 distinct))
    (pick (eqb t 10) (do h ← read_join; give (h2 h))
    (pick (eqb t 11) (do h ← read_scan C; give (h0 h))
    (pick (eqb t 12) (do h ← read_empty v; give (h0 h))
    (refuse VALUE p))))))))))))

-- ── plans: "one plan in prefix order" ───────────────────────────────────────────────────────

-- the inputs of a node, each read by `self`
unfoldable pub read_inputs : Reader Plan → Head → Reader Plan
read_inputs self (h0 h) = give (leaf h)
read_inputs self (h1 h) = self >>= λ p. give (unary h p)
read_inputs self (h2 h) = self >>= λ p₁. self >>= λ p₂. give (binary h p₁ p₂)

-- a plan nested less than `deep` deep
unfoldable pub plan_to : Catalogue → (deep : ℕ) → Reader Plan
plan_to C zero = here >>= λ p. refuse MANY p
plan_to C (suc deep) = do
  p ← here
  t ← node_tag
  h ← read_head C p t
  read_inputs (λ file at tags nodes. plan_to C deep file at tags nodes) h

-- ── the file ────────────────────────────────────────────────────────────────────────────────

-- "Mark `CPL`, 16-bit version 1."
abbrev pub mark_bytes : Version → List ℕ
mark_bytes v = 67 ∷ 80 ∷ 76 ∷ v.number ∷ 0 ∷ []

unfoldable pub starts : List ℕ → List ℕ → Bool
starts [] file = true
starts (m ∷ ms) [] = false
starts (m ∷ ms) (b ∷ file) = eqb m b && starts ms file

-- "MARK: under 5 bytes, or other mark or version; 0"
unfoldable pub read_mark : Reader Version
read_mark file at tags nodes =
    pick (starts (mark_bytes version1) file) (ok version1 5 tags nodes) (pick (starts (mark_bytes version2) file) (ok version2 5 tags nodes) (bad MARK 0))

-- a key, where the tables are read and these keys came before: "u8 table, u16 n (to 512), n u16 columns"; "a table or column out of range or repeated, or
-- an empty key, is 4"
unfoldable pub read_table_key : Version → (tables : List (List ℕ)) → (before : List TableKey) → Reader TableKey
read_table_key v tables before = do
  t ← value 1 (fresh (length tables) (keyed_tables before))
  is ← counted_after v.wide (is_not 0) v.max_columns (λ taken. value v.wide (fresh (length (get_or tables t [])) taken))
  give (record { table = t; columns = is })

-- "u8 table count (to 16); each table: u8 column count (to 64) and a u16 name each, not 0"; "Keys follow the tables": "u8 key count (to 16)"
unfoldable pub read_catalogue : Version → Reader Catalogue
read_catalogue v = do
  ts ← counted 1 any max_tables (counted v.wide any v.max_columns (nonzero 2))
  ks ← counted_after v.late any v.max_table_keys (read_table_key v ts)
  give (record { version = v; tables = ts; keys = ks })

-- "TAIL: bytes after the plan; first one"
unfoldable pub read_end : Reader ℕ
read_end file at tags nodes = pick (eqb at (length file)) (ok 0 at tags nodes) (bad TAIL at)

unfoldable pub read_source : Reader Source
read_source = do
  v ← read_mark
  C ← read_catalogue v
  p ← plan_to C (suc max_nodes)
  z ← read_end
  give (record { catalogue = C; plan = p })

-- what a file reads as: its source, or the first fault in reading order
abbrev pub read_file : List ℕ → Res Source
read_file file = read_source file 0 0 0
