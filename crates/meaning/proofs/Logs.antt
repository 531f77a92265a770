-- Two logs that agree in the columns that a plan's scans name give the plan the same rows.
use mathlib.Core.Path.{◌≡◌, refl, ap, ap₂}
use mathlib.Core.List.{List, [], ◌∷◌, ◌++◌, map, head-eq_of_cons-eq, tail-eq_of_cons-eq}
use mathlib.Core.Bool.{Bool, true, false, cond, ◌&&◌}
use mathlib.Core.Option.{Option, none, some}
use Prim.Native.Nat.{ℕ, ◌<◌}
use native.Mathlib.Omega.{arith}
use lib.Dec.{T, eqb, eqb_refl}
use lib.ListN.{length, get_or}
use Rattle.cpl.specs.Tests.{any_b, all_b, concat_map}
use Rattle.cpl.specs.Lists.{All, ◌a∷◌}
use Rattle.cpl.specs.Plan.{Pair, Expr, col, lit, miss, un, bin, Leaf, scan, empty, Plan, leaf, unary, binary, Catalogue, names_of}
use Rattle.cpl.specs.Exprs.{find, found, places}
use Rattle.cpl.specs.Fields.{columns_of, table_fields, fields_of}
use Rattle.cpl.specs.Writable.{FitLeaf, FitPlan}
use Rattle.cpl.proofs.Bools.{both-T, left-T, right-T}
use Rattle.cpl.proofs.Lists.{each_number, All_map, All_left, All_right, map_cong_a}
use Rattle.meaning.specs.Value.{missing, Row, Log, op1, op2, yes?}
use Rattle.meaning.specs.Eval.{value_at, lookup, eval}
use Rattle.meaning.specs.Lists.{filter_b}
use Rattle.meaning.specs.Operators.{unary_rows}
use Rattle.meaning.specs.Joins.{binary_rows}
use Rattle.meaning.specs.Meaning.{table_rows, row_at, passes, scan_rows, leaf_rows, meaning}
use Rattle.meaning.specs.Reads.{filter_columns, leaf_reads, reads, row_count, column, Agree}

-- ── two rows that agree in the columns that expressions use ─────────────────────────────────

module _ (r s : Row) where
  -- the two rows have the same value at each of these places
  abbrev Same : List ℕ → Type 0
  Same is = All (λ i. get_or r i missing ≡ get_or s i missing) is

  found-same : (o : Option ℕ) → Same (found o) → value_at r o ≡ value_at s o
  unfolding value_at found
  found-same none h = refl
  found-same (some i) (h a∷ hs) = h

  module _ (fs : List Pair) where
    eval-same : (e : Expr) → Same (places fs e) → eval fs r e ≡ eval fs s e
    unfolding eval lookup places
    eval-same (col c) h = found-same (find c fs) h
    eval-same (lit z) h = refl
    eval-same miss h = refl
    eval-same (un o a) h = ap (op1 o) (eval-same a h)
    eval-same (bin o a b) h = ap₂ (op2 o) (eval-same a (All_left (places fs a) (places fs b) h)) (eval-same b (All_right (places fs a) (places fs b) h))

    passes_same : (es : List Expr) → Same (concat_map (places fs) es) → passes fs es r ≡ passes fs es s
    unfolding passes all_b concat_map
    passes_same [] h = refl
    passes_same (e ∷ es) h =
        let later = concat_map (places fs) es in
        ap₂ ◌&&◌ (ap yes? (eval-same e (All_left (places fs e) later h))) (passes_same es (All_right (places fs e) later h))

-- ── the rows of a table ─────────────────────────────────────────────────────────────────────

-- the values of a column, row by row
abbrev SameColumn : (rs ss : List Row) → ℕ → Type 0
SameColumn rs ss i = map (λ r. get_or r i missing) rs ≡ map (λ r. get_or r i missing) ss

-- equal columns, equal rows: those that pass a test, at some columns, where the test reads the columns js
transpose : (is js : List ℕ) (p : Row → Bool) → ((r s : Row) → Same r s js → p r ≡ p s) → (rs ss : List Row) → length rs ≡ length ss → All (SameColumn rs ss) is → All (SameColumn rs ss) js
    → map (row_at is) (filter_b p rs) ≡ map (row_at is) (filter_b p ss)
unfolding row_at filter_b
transpose is js p f [] [] e h k = refl
transpose is js p f [] (s ∷ ss) e h k = absurd (omega arith)
transpose is js p f (r ∷ rs) [] e h k = absurd (omega arith)
transpose is js p f (r ∷ rs) (s ∷ ss) e h k =
    let later = transpose is js p f rs ss (omega arith) (All_map (λ i x. tail-eq_of_cons-eq x) h) (All_map (λ i x. tail-eq_of_cons-eq x) k) in
    let same = f r s (All_map (λ i x. head-eq_of_cons-eq x) k) in
    rw same (go (p s) (filter_b p rs) (filter_b p ss) (map_cong_a (All_map (λ i x. head-eq_of_cons-eq x) h)) later)
  where
    go : (b : Bool) (rs ss : List Row) → row_at is r ≡ row_at is s → map (row_at is) rs ≡ map (row_at is) ss → map (row_at is) (cond b (r ∷ rs) rs) ≡ map (row_at is) (cond b (s ∷ ss) ss)
    go true rs ss x y = ap₂ ◌∷◌ x y
    go false rs ss x y = y

-- ── plans ───────────────────────────────────────────────────────────────────────────────────

-- every scan of the plan is of a table of which In holds
unfoldable pub ScansIn : (In : ℕ → Type 0) → Plan → Type 0
ScansIn In (leaf (scan t q is es)) = In t
ScansIn In (leaf (empty b cs)) = Unit {0}
ScansIn In (unary h p) = ScansIn In p
ScansIn In (binary h p₁ p₂) = ScansIn In p₁ × ScansIn In p₂

module _ (C : Catalogue) (D E : Log) {In : ℕ → Type 0} (counts : (t : ℕ) → In t → row_count D t ≡ row_count E t) where
  leaf-reads : (h : Leaf) → ScansIn In (leaf h) → ((t i : ℕ) → T (leaf_reads C h t i) → column D t i ≡ column E t i) → leaf_rows C D h ≡ leaf_rows C E h
  unfolding leaf_rows scan_rows leaf_reads row_count column filter_columns ScansIn
  leaf-reads (scan u q is es) k a =
      let cs = columns_of (names_of C u) is in
      let js = filter_columns C u q es in
      let all = each_number (SameColumn (table_rows D u) (table_rows E u)) (cs ++ js) (λ i t. a u i (both-T (eqb u u) (any_b (eqb i) (cs ++ js)) (eqb_refl u) t)) in
      transpose cs js (passes (table_fields C u q) es) (λ r s h. passes_same r s (table_fields C u q) es h) (table_rows D u) (table_rows E u) (counts u k) (All_left cs js all) (All_right cs js all)
  leaf-reads (empty b cs) k a = refl

  pub reads_in : (p : Plan) → ScansIn In p → ((t i : ℕ) → T (reads C p t i) → column D t i ≡ column E t i) → meaning C D p ≡ meaning C E p
  unfolding meaning reads ScansIn
  reads_in (leaf h) k a = leaf-reads h k a
  reads_in (unary h p) k a = ap (unary_rows h (fields_of C p)) (reads_in p k a)
  reads_in (binary h p₁ p₂) k a =
      ap₂ (binary_rows h (fields_of C p₁) (fields_of C p₂)) (reads_in p₁ k.0 (λ t i r. a t i (left-T (reads C p₁ t i) (reads C p₂ t i) r)))
      (reads_in p₂ k.1 (λ t i r. a t i (right-T (reads C p₁ t i) (reads C p₂ t i) r)))

-- ── plans that can be written ───────────────────────────────────────────────────────────────

-- their scans are of the catalogue's tables
fit-scans : (C : Catalogue) (p : Plan) → FitPlan C p → ScansIn (λ t. t < length C.tables) p
unfolding FitPlan FitLeaf ScansIn
fit-scans C (leaf (scan t q is es)) f = f.0
fit-scans C (leaf (empty b cs)) f = tt
fit-scans C (unary h p) f = fit-scans C p f.1
fit-scans C (binary h p₁ p₂) f = (fit-scans C p₁ f.1, fit-scans C p₂ f.2)

pub reads_only : (C : Catalogue) (D E : Log) (p : Plan) → FitPlan C p → Agree C p D E → meaning C D p ≡ meaning C E p
reads_only C D E p f a = reads_in C D E a.counts p (fit-scans C p f) a.columns
