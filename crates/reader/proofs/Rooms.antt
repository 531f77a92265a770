-- How many rows are in use, and that there is room for more: the only products of a version's numbers, so each law goes by versions. Assumes nothing.
use Prim.Native.Nat.{ℕ, ◌+◌, ◌*◌, ◌-◌, ◌≤◌, ◌<◌}
use mathlib.Core.Path.{◌≡◌}
use native.Mathlib.Omega.{arith}
use Rattle.cpl.specs.Limits.{Version, IsVersion, is_1, is_2}
use Rattle.versions.specs.Versions.{node_rows, rows_room}

-- room for a node
pub room : {v : Version} → IsVersion v → (row k tags long : ℕ) → row ≤ node_rows v * k + tags → k < 256 → tags ≤ 4096 → rows_room v ≤ long → 4 * (row + node_rows v + (4096 - tags) + 32) ≤ long
room is_1 row k tags long h l g r = omega arith
room is_2 row k tags long h l g r = omega arith

-- the rows after a node's own fields, and after a plan
pub after-head : {v : Version} → IsVersion v → (row row' k tags tags' : ℕ) → row ≤ node_rows v * k + tags → row' + tags ≤ row + node_rows v + tags' → row' ≤ node_rows v * (k + 1) + tags'
after-head is_1 row row' k tags tags' h g = omega arith
after-head is_2 row row' k tags tags' h g = omega arith

pub after-plan : {v : Version} → IsVersion v → (row row' k k' tags tags' : ℕ) → row ≤ node_rows v * k + tags → row' + tags + node_rows v * k ≤ row + node_rows v * k' + tags' → row' ≤ node_rows v * k' + tags'
after-plan is_1 row row' k k' tags tags' h g = omega arith
after-plan is_2 row row' k k' tags tags' h g = omega arith

-- how many rows a plan adds
pub plan_adds : {v : Version} → IsVersion v → (row row' k k' tags tags' rows nodes exprs : ℕ) → row' ≡ row + rows → rows ≤ node_rows v * nodes + exprs → k' ≡ k + nodes → tags + exprs ≤ tags' →
    row' + tags + node_rows v * k ≤ row + node_rows v * k' + tags'
plan_adds is_1 row row' k k' tags tags' rows nodes exprs e l f g = omega arith
plan_adds is_2 row row' k k' tags tags' rows nodes exprs e l f g = omega arith

-- the rows of a plan: those of its root and those of its inputs
pub leaf_adds : {v : Version} → IsVersion v → (rows exprs : ℕ) → rows ≤ node_rows v + exprs → rows ≤ node_rows v * 1 + exprs
leaf_adds is_1 rows exprs h = omega arith
leaf_adds is_2 rows exprs h = omega arith

pub unary_adds : {v : Version} → IsVersion v → (rows exprs rows' exprs' nodes all : ℕ) → rows ≤ node_rows v + exprs → rows' ≤ node_rows v * nodes + exprs' → all ≡ 1 + nodes →
    rows + rows' ≤ node_rows v * all + (exprs + exprs')
unary_adds is_1 rows exprs rows' exprs' nodes all h g e = omega arith
unary_adds is_2 rows exprs rows' exprs' nodes all h g e = omega arith

pub binary_adds : {v : Version} → IsVersion v → (rows exprs rows₁ exprs₁ nodes₁ rows₂ exprs₂ nodes₂ all : ℕ) → rows ≤ node_rows v + exprs → rows₁ ≤ node_rows v * nodes₁ + exprs₁ →
    rows₂ ≤ node_rows v * nodes₂ + exprs₂ → all ≡ 1 + (nodes₁ + nodes₂) → rows + (rows₁ + rows₂) ≤ node_rows v * all + (exprs + (exprs₁ + exprs₂))
binary_adds is_1 rows exprs rows₁ exprs₁ nodes₁ rows₂ exprs₂ nodes₂ all h g k e = omega arith
binary_adds is_2 rows exprs rows₁ exprs₁ nodes₁ rows₂ exprs₂ nodes₂ all h g k e = omega arith
