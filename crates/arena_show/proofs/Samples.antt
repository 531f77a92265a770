-- The written-out samples, and that they are well formed. Assumes nothing.
use mathlib.Core.Path.{◌≡◌, refl, subst⁻¹}
use mathlib.Core.List.{List, [], ◌∷◌, ◌++◌}
use Prim.Native.Nat.{ℕ, zero, suc, ◌+◌, ◌<◌, ◌≤◌, ◌^◌}
use native.Mathlib.Numerals.{add-one}
use native.Mathlib.Omega.{arith}
use Rattle.cpl.specs.Codes.{op1_of, op2_of, signed}
use Rattle.cpl.specs.Exprs.{expr_tags, item_tags}
use Rattle.cpl.specs.Tests.{sum_of}
use Rattle.arena.specs.Cells.{Wf, expr_at, expr_fuel, node_of}
use Rattle.arena.specs.Rows.{RowOk, RowsOk, item_at, items_at, row_item}
use Rattle.cpl.specs.Plan.{Item}
use Rattle.arena.proofs.Kept.{kept_refl, kept-rows}
use Rattle.arena_build.specs.Lists.{ItemRefused, Listing, Placed}
use Rattle.arena_build.proofs.Items.{listing-more}
use Rattle.arena_show.proofs.Check.{nodes-ok, nodes_t, rows_ok, rows_t}

abbrev pub cells : List ℕ
cells = 0 ∷ 1 ∷ 1 ∷ 1 ∷ 5 ∷ 0 ∷ 5 ∷ 0 ∷ 1 ∷ 3 ∷ 2 ∷ 0 ∷ 0 ∷ 0 ∷ 7 ∷ 2 ∷ 0 ∷ 0 ∷ 10 ∷ 0 ∷ 3 ∷ 0 ∷ 0 ∷ 3 ∷ []

abbrev pub items : List ℕ
items = 1 ∷ 1 ∷ 0 ∷ 0 ∷ 0 ∷ 7 ∷ 1 ∷ 2 ∷ 0 ∷ 9 ∷ 1 ∷ 5 ∷ 2 ∷ 8 ∷ 1 ∷ 6 ∷ 0 ∷ 3 ∷ 0 ∷ 7 ∷ []

abbrev pub above : List ℕ
above = 0 ∷ 0 ∷ 7 ∷ 0 ∷ 1 ∷ 1 ∷ 7 ∷ 0 ∷ 1 ∷ 0 ∷ 0 ∷ 3 ∷ 3 ∷ 0 ∷ 0 ∷ 0 ∷ 0 ∷ 9 ∷ 0 ∷ 0 ∷ 6 ∷ []

abbrev pub upper : List ℕ
upper = 0 ∷ 4 ∷ 1 ∷ 2 ∷ 0 ∷ 1 ∷ 1 ∷ 1 ∷ 1 ∷ 1 ∷ 0 ∷ 1 ∷ 0 ∷ 7 ∷ 0 ∷ 0 ∷ 1 ∷ 1 ∷ 1 ∷ 1 ∷ 0 ∷ 7 ∷ 1 ∷ 4 ∷ 0 ∷ 3 ∷ 1 ∷ 3 ∷ 0 ∷ 9 ∷ 0 ∷ 5 ∷ 0 ∷ 6 ∷ 0 ∷ 6 ∷ []

abbrev pub chain : List ℕ
chain = 0 ∷ 0 ∷ 3 ∷ 3 ∷ 0 ∷ 0 ∷ 3 ∷ 1 ∷ 0 ∷ 3 ∷ 2 ∷ 0 ∷ 3 ∷ 3 ∷ 0 ∷ 3 ∷ 4 ∷ 0 ∷ 3 ∷ 5 ∷ 0 ∷ 3 ∷ 6 ∷ 0 ∷ 3 ∷ 7 ∷ 0 ∷ 3 ∷ 8 ∷ 0 ∷ 3 ∷ 9 ∷ 0 ∷ 3 ∷ 10 ∷ 0 ∷ 3 ∷ 11 ∷ 0 ∷ 3 ∷ 12 ∷ 0 ∷ 3 ∷ 13 ∷ 0 ∷ 3 ∷ 14 ∷ 0 ∷ 3 ∷ 15 ∷ 0 ∷ 3 ∷ 16 ∷ 0 ∷ 3 ∷ 17 ∷ 0 ∷ 3 ∷ 18 ∷ 0 ∷ 3 ∷ 19 ∷ 0 ∷ 3 ∷ 20 ∷ 0 ∷ 3 ∷ 21 ∷ 0 ∷ 3 ∷ 22 ∷ 0 ∷ 3 ∷ 23 ∷ 0 ∷ 3 ∷ 24 ∷ 0 ∷ 3 ∷ 25 ∷ 0 ∷ 3 ∷ 26 ∷ 0 ∷ 3 ∷ 27 ∷ 0 ∷ 3 ∷ 28 ∷ 0 ∷ 3 ∷ 29 ∷ 0 ∷ []

abbrev pub lower : List ℕ
lower = 0 ∷ 1 ∷ 1 ∷ 30 ∷ []

-- the row that is copied, and its node
abbrev pub seed : List ℕ
seed = 0 ∷ 2 ∷ 1 ∷ 0 ∷ []

abbrev pub column : List ℕ
column = 0 ∷ 0 ∷ 1 ∷ []

pub seed_ok : RowOk seed column 0
unfolding nodes_t rows_t
seed_ok = (rows_ok seed column 1 0 1 (nodes-ok column 1 refl) refl (omega arith)).each 0 (omega arith) (omega arith)

pub cells-wf : Wf cells 8
unfolding nodes_t
cells-wf = nodes-ok cells 8 refl

pub above_wf : Wf above 7
unfolding nodes_t
above_wf = nodes-ok above 7 refl

pub chain_wf : Wf chain 31
unfolding nodes_t
chain_wf = nodes-ok chain 31 refl

pub items-ok : RowsOk items cells 0 5
unfolding rows_t
items-ok = rows_ok items cells 8 0 5 cells-wf refl (omega arith)

pub upper_ok : RowsOk upper above 0 9
unfolding rows_t
upper_ok = rows_ok upper above 7 0 9 above_wf refl (omega arith)

pub lower_ok : RowsOk lower chain 0 1
unfolding rows_t
lower_ok = rows_ok lower chain 31 0 1 chain_wf refl (omega arith)

-- a part of a list
pub part : {s c : List ℕ} {f n : ℕ} (g m : ℕ) → f ≤ g → g + m ≤ f + n → RowsOk s c f n → RowsOk s c g m
part g m h k o = record { room = omega (arith, o.room); each = λ i a b. o.each i (omega arith) (omega arith) }

pub cells-tags : expr_tags (expr_at cells 6) < 2 ^ 32
unfolding expr_tags expr_at expr_fuel node_of op1_of op2_of signed
cells-tags = let e : expr_tags (expr_at cells 6) ≡ 6 = refl in omega arith

pub items-tags : sum_of item_tags (items_at items cells 0 5) < 2 ^ 32
unfolding sum_of item_tags items_at item_at row_item expr_tags expr_at expr_fuel node_of op1_of op2_of signed
items-tags = let e : sum_of item_tags (items_at items cells 0 5) ≡ 15 = refl in omega arith

-- n copies of an item
unfoldable pub times : Item → ℕ → List Item
times it zero = []
times it (suc n) = times it n ++ (it ∷ [])

module _ {it : Item} {n : ℕ} {rows cells : List ℕ} {u : ℕ} {rows₁ cells₁ : List ℕ} (p : Listing (times it n) 0 n rows cells 0 u rows₁ cells₁) where
  pub times_more : {node more : ℕ} {rows₂ cells₂ : List ℕ} → Placed it n rows₁ cells₁ u node more rows₂ cells₂ → Listing (times it (n + 1)) 0 (n + 1) rows cells 0 more rows₂ cells₂
  unfolding times
  times_more {node} {more} {rows₂} {cells₂} q =
      let e : 0 + n ≡ n = omega arith in
      let l = listing-more p (subst⁻¹ (λ k. Placed it k rows₁ cells₁ u node more rows₂ cells₂) e q) in
      subst⁻¹ (λ k. Listing (times it k) 0 (n + 1) rows cells 0 more rows₂ cells₂) (add-one n) l

  pub times-full : {rows₂ cells₂ : List ℕ} → ItemRefused it rows₁ cells₁ u rows₂ cells₂ → RowsOk rows₂ cells₂ 0 n
  times-full q = rw q.same (kept-rows n u (kept_refl _ rows₁) q.refused.kept 0 n (omega arith) p.below p.ok)
