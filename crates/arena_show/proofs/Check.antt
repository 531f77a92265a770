-- That written-out arrays are well formed, by tests that compute. Assumes nothing.
use mathlib.Core.Path.{◌≡◌, ap, ap₂, ◌∙◌}
use mathlib.Core.Bool.{Bool, true, false, not, true≢false, ◌&&◌, ◌||◌}
use mathlib.Core.List.{List}
use Prim.Native.Nat.{ℕ, zero, suc, ◌+◌, ◌*◌, ◌≤◌}
use native.Mathlib.Decide.{ℕ_discrete}
use native.Mathlib.Omega.{arith}
use borrow.Author.Tests.{eq-eqb, eqb-true, le-ltb, ltb-true}
use lib.Dec.{eqb, ltb}
use lib.ListN.{get_or, length}
use Rattle.cpl.specs.Plan.{col, pair}
use Rattle.arena.specs.Cells.{NodeOk, Wf, tag_at, x_at, y_at}
use Rattle.arena.specs.Rows.{RowOk, RowsOk, mark_at, root_at}
use Rattle.arena.proofs.Laws.{at_col, wf_less}
use Rattle.arena.proofs.Same.{and-true}

abbrev node_t : List ℕ → ℕ → Bool
node_t s i =
    (ltb (i * 3 + 2) (length s) && ltb (tag_at s i) 12) && ((not (eqb (tag_at s i) 0) || (ltb (x_at s i) 65536 && ltb (y_at s i) 65536)) && ((ltb (tag_at s i) 3 || ltb (x_at s i) i) && (ltb (tag_at s i) 5 || ltb (y_at s i) i)))

unfoldable pub nodes_t : List ℕ → ℕ → Bool
nodes_t s zero = true
nodes_t s (suc n) = node_t s n && nodes_t s n

or_true : (a b : Bool) → a || b ≡ true → a ≡ false → b ≡ true
or_true true b e f = absurd (true≢false f)
or_true false b e f = e

node_ok : (s : List ℕ) (i : ℕ) → node_t s i ≡ true → NodeOk s i
node_ok s i h =
    let a = and-true (ltb (i * 3 + 2) (length s) && ltb (tag_at s i) 12) _ h in
    let b = and-true (ltb (i * 3 + 2) (length s)) _ a.0 in
    let c = and-true (not (eqb (tag_at s i) 0) || (ltb (x_at s i) 65536 && ltb (y_at s i) 65536)) _ a.1 in
    let d = and-true (ltb (tag_at s i) 3 || ltb (x_at s i) i) _ c.1 in
    record {
      inside = ltb-true _ _ b.0;
      known = ltb-true _ _ b.1;
      column = λ z. let p = and-true (ltb (x_at s i) 65536) _ (or_true _ _ c.0 (ap not (eq-eqb _ _ z))) in (ltb-true _ _ p.0, ltb-true _ _ p.1);
      first = λ l. ltb-true _ _ (or_true _ _ d.0 (le-ltb _ _ l));
      second = λ l. ltb-true _ _ (or_true _ _ d.1 (le-ltb _ _ l));
    }

pub nodes-ok : (s : List ℕ) (n : ℕ) → nodes_t s n ≡ true → Wf s n
unfolding nodes_t Wf
nodes-ok s zero h k l = absurd (omega arith)
nodes-ok s (suc n) h k l =
    let a = and-true (node_t s n) _ h in
    elim (ℕ_discrete k n) [ yes e ↦ rw e (node_ok s n a.0) | no z ↦ nodes-ok s n a.1 k (omega arith) ]

-- the rows of a list name nodes below m
abbrev row_t : List ℕ → List ℕ → ℕ → ℕ → Bool
row_t s c m i =
    (ltb (i * 4 + 3) (length s) && ltb (root_at s i) m) && (not (eqb (mark_at s i) 0) || (eqb (tag_at c (root_at s i)) 0 && (eqb (x_at c (root_at s i)) (get_or s (i * 4) 0) && eqb (y_at c (root_at s i)) (get_or s (i * 4 + 1) 0))))

unfoldable pub rows_t : List ℕ → List ℕ → ℕ → ℕ → ℕ → Bool
rows_t s c m f zero = true
rows_t s c m f (suc n) = row_t s c m (f + n) && rows_t s c m f n

row_ok : (s c : List ℕ) (m i : ℕ) → Wf c m → row_t s c m i ≡ true → RowOk s c i
row_ok s c m i w h =
    let a = and-true (ltb (i * 4 + 3) (length s) && ltb (root_at s i) m) _ h in
    let b = and-true (ltb (i * 4 + 3) (length s)) _ a.0 in
    let r = ltb-true (root_at s i) m b.1 in
    record {
      inside = ltb-true _ _ b.0;
      node = wf_less c (root_at s i + 1) m (omega arith) w;
      bare = λ z.
          let p = and-true (eqb (tag_at c (root_at s i)) 0) _ (or_true _ _ a.1 (ap not (eq-eqb _ _ z))) in
          let q = and-true (eqb (x_at c (root_at s i)) (get_or s (i * 4) 0)) _ p.1 in
          at_col c (root_at s i) (eqb-true _ _ p.0) ∙ ap col (ap₂ pair (eqb-true _ _ q.0) (eqb-true _ _ q.1));
    }

pub rows_ok : (s c : List ℕ) (m f n : ℕ) → Wf c m → rows_t s c m f n ≡ true → f * 4 ≤ length s → RowsOk s c f n
unfolding rows_t
rows_ok s c m f zero w h l = record { room = omega arith; each = λ k a b. absurd (omega arith) }
rows_ok s c m f (suc n) w h l =
    let a = and-true (row_t s c m (f + n)) _ h in
    let r = row_ok s c m (f + n) w a.0 in
    let o = rows_ok s c m f n w a.1 l in
    record { room = omega (arith, r.inside); each = λ k g b. elim (ℕ_discrete k (f + n)) [ yes e ↦ rw e r | no z ↦ o.each k g (omega arith) ] }
