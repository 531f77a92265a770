-- A second way to follow the scans, which says nothing of the pass but `rewrite`: every scan of the old plan is given a table of its own, whose number is
-- the number of its node and whose names and key are those of the table it had. The pass looks at these alone; so it does the same, and the tables of the
-- rewritten plan's scans are the numbers of the scans that are left.
use Rattle.std.specs.Prelude.{◌≡◌, List, [], ◌∷◌, ◌++◌, map, ℕ, suc, ◌+◌, length, get_or}
use Rattle.cpl.specs.Tests.{sum_of}
use Rattle.cpl.specs.Plan.{Leaf, scan, empty, Plan, leaf, unary, binary, TableKey, Catalogue, names_of}
use Rattle.cpl.specs.Exprs.{plan_nodes}
use Rattle.rules.specs.Mask.{Mask}
use Rattle.rules.specs.Keys.{declared}
use Rattle.rules.specs.Merge.{Merge}
use Rattle.rules.specs.Rewrite.{rewrite}
use Rattle.rules.specs.Scans.{scans, scans_under}

-- other numbers for the tables
unfoldable pub retable_leaf : (ℕ → ℕ) → Leaf → Leaf
retable_leaf u (scan t q is es) = scan (u t) q is es
retable_leaf u (empty b cs) = empty b cs

unfoldable pub retable : (ℕ → ℕ) → Plan → Plan
retable u (leaf h) = leaf (retable_leaf u h)
retable u (unary h p) = unary h (retable u p)
retable u (binary h p₁ p₂) = binary h (retable u p₁) (retable u p₂)

-- each scan's table has the number of its node, where the root's is `at`
unfoldable pub own_tables : Plan → (at : ℕ) → Plan
own_tables (leaf h) at = leaf (retable_leaf (λ t. at) h)
own_tables (unary h p) at = unary h (own_tables p (suc at))
own_tables (binary h p₁ p₂) at = binary h (own_tables p₁ (suc at)) (own_tables p₂ (suc (at + plan_nodes p₁)))

-- a table that the catalogue lacks: it has neither names nor a key
unfoldable pub lacking : Catalogue → ℕ
lacking C = length C.tables + sum_of (λ k. suc k.table) C.keys

-- the table of a scan; of another node one that the catalogue lacks
unfoldable pub leaf_table : Catalogue → Leaf → ℕ
leaf_table C (scan t q is es) = t
leaf_table C (empty b cs) = lacking C

unfoldable pub node_table : Catalogue → Plan → ℕ
node_table C (leaf h) = leaf_table C h
node_table C (unary h p) = lacking C
node_table C (binary h p₁ p₂) = lacking C

-- the nodes of a plan, each with all that is beneath it, "in prefix order"
unfoldable pub nodes : Plan → List Plan
nodes (leaf h) = leaf h ∷ []
nodes (unary h p) = unary h p ∷ nodes p
nodes (binary h p₁ p₂) = binary h p₁ p₂ ∷ (nodes p₁ ++ nodes p₂)

-- the table that node n had
unfoldable pub table_at : Catalogue → Plan → (n : ℕ) → ℕ
table_at C p n = get_or (map (node_table C) (nodes p)) n (lacking C)

-- their keys, from node `at` on
unfoldable pub own_keys : Catalogue → (at : ℕ) → List ℕ → List TableKey
own_keys C at [] = []
own_keys C at (t ∷ ts) = record { table = at; columns = declared C.keys t } ∷ own_keys C (suc at) ts

-- the tables of their own
unfoldable pub own_catalogue : Catalogue → Plan → Catalogue
own_catalogue C p = record { version = C.version; tables = map (names_of C) (map (node_table C) (nodes p)); keys = own_keys C 0 (map (node_table C) (nodes p)) }

pub record Traced (M : Merge) (C : Catalogue) (p : Plan) (R : Mask) : Type 0 where
  -- with its old tables back it is the old plan
  pub same_plan : retable (table_at C p) (own_tables p 0) ≡ p
  -- and what the pass makes of it is, with the old tables back, what it makes of the old plan
  pub same_pass : retable (table_at C p) (rewrite M (own_catalogue C p) (own_tables p 0) R).plan ≡ (rewrite M C p R).plan
  -- the tables of its scans are the numbers by which the scans are followed
  pub numbers : map (leaf_table C) (scans (rewrite M (own_catalogue C p) (own_tables p 0) R).plan) ≡ map (λ x. x.number) (scans_under M C p R)
