-- Demand 3 in the words that it had: the rows of a plan of version 1 and the columns that its scans name are what they were.
use mathlib.Core.Path.{◌≡◌, refl, sym, ◌∙◌, ap, ap₂, subst}
use mathlib.Core.List.{List, [], ◌∷◌, map, append-nil}
use mathlib.Core.Bool.{true, false, ◌||◌, ◌&&◌}
use mathlib.Core.Option.{none}
use Prim.Native.Nat.{ℕ}
use lib.Dec.{T, eqb}
use lib.ListN.{length}
use Rattle.cpl.specs.Tests.{concat_map, any_b, all_b}
use Rattle.cpl.specs.Plan.{Pair, names_of, scan, empty, Plan, leaf, unary, binary}
use Rattle.cpl.specs.Fields.{columns_of, table_fields}
use Rattle.cpl.specs.Accept.{check}
use Rattle.rules.specs.Mask.{select}
use Rattle.rules.specs.Request.{mask_of}
use Rattle.rules.specs.Merge.{merge_step}
use Rattle.meaning.specs.Value.{Row, Log}
use Rattle.meaning.specs.Lists.{filter_b}
use Rattle.meaning.specs.Operators.{unary_rows}
use Rattle.meaning.specs.Meaning.{table_rows, row_at, passes, scan_rows, leaf_rows, meaning}
use Rattle.meaning.specs.Reads.{filter_columns, leaf_reads, reads}
use Rattle.meaning.specs.Narrowing.{Narrowing}
use Rattle.meaning.proofs.Demand3.{house_pass, demand3_plain}
use Rattle.meaning.proofs.Logs.{ScansIn, reads_in}
use Rattle.version1.specs.Language.{Leaf as Leaf1, scan as scan1, empty as empty1, Plan as Plan1, leaf as leaf1, unary as unary1, binary as binary1, Catalogue as Catalogue1, fields_of as fieldsOf1, check as check1}
use Rattle.version1.specs.Rewriting.{Walked as Walked1, rewrite as rewrite1}
use Rattle.version1.specs.Rows.{leaf_rows as leafRows1, meaning as meaning1, leaf_reads as leafReads1, reads as reads1, Agree as Agree1, Narrowing as Narrowing1}
use Rattle.version1.proofs.Embed.{up_leaf, up, up_catalogue, fields-same, check-same}
use Rattle.version1.proofs.Passes.{up_walked, walk_same}

-- ── no filters ──────────────────────────────────────────────────────────────────────────────

unfiltered : (fs : List Pair) (rs : List Row) → filter_b (passes fs []) rs ≡ rs
unfolding filter_b passes all_b
unfiltered fs [] = refl
unfiltered fs (r ∷ rs) = ap (r ∷◌) (unfiltered fs rs)

-- ── rows and columns ────────────────────────────────────────────────────────────────────────

module _ (C : Catalogue1) where
  leaf-rows : (D : Log) (h : Leaf1) → leaf_rows (up_catalogue C) D (up_leaf h) ≡ leafRows1 C D h
  unfolding leaf_rows leafRows1 scan_rows
  leaf-rows D (scan1 t q is) = ap (map (row_at (columns_of (names_of (up_catalogue C) t) is))) (unfiltered (table_fields (up_catalogue C) t q) (table_rows D t))
  leaf-rows D (empty1 b cs) = refl

  pub rows_same : (D : Log) (p : Plan1) → meaning (up_catalogue C) D (up p) ≡ meaning1 C D p
  unfolding meaning meaning1
  rows_same D (leaf1 h) = leaf-rows D h
  rows_same D (unary1 h p) = ap₂ (unary_rows h) (fields-same C p) (rows_same D p)
  rows_same D (binary1 h p₁ p₂) = rw (fields-same C p₁, fields-same C p₂, rows_same D p₁, rows_same D p₂)

  leaf-reads : (h : Leaf1) (t i : ℕ) → leaf_reads (up_catalogue C) (up_leaf h) t i ≡ leafReads1 C h t i
  unfolding leaf_reads leafReads1 filter_columns concat_map
  leaf-reads (scan1 u q is) t i =
      let cs = columns_of (names_of (up_catalogue C) u) is in
      ap (λ (js : List ℕ). eqb t u && any_b (eqb i) js) (append-nil cs)
  leaf-reads (empty1 b cs) t i = refl

  pub reads_same : (p : Plan1) (t i : ℕ) → reads (up_catalogue C) (up p) t i ≡ reads1 C p t i
  unfolding reads reads1
  reads_same (leaf1 h) t i = leaf-reads h t i
  reads_same (unary1 h p) t i = reads_same p t i
  reads_same (binary1 h p₁ p₂) t i = ap₂ ◌||◌ (reads_same p₁ t i) (reads_same p₂ t i)

-- no table is asked about
every_scan : (p : Plan) → ScansIn (λ t. Unit {0}) p
unfolding ScansIn
every_scan (leaf (scan t q is es)) = tt
every_scan (leaf (empty b cs)) = tt
every_scan (unary h p) = every_scan p
every_scan (binary h p₁ p₂) = (every_scan p₁, every_scan p₂)

-- ── demand 3 ────────────────────────────────────────────────────────────────────────────────

abbrev pub house_pass1 : (mask : ℕ) → Catalogue1 → Plan1 → (request : List ℕ) → Walked1
house_pass1 mask C p is = rewrite1 (merge_step true mask) C p (mask_of (length (fieldsOf1 C p)) is)

module _ (mask : ℕ) (C : Catalogue1) (p : Plan1) (ok : check1 C p 0 ≡ none) (is : List ℕ) where
  abbrev w : Walked1
  w = house_pass1 mask C p is

  pass_same : house_pass mask (up_catalogue C) (up p) is ≡ up_walked w
  pass_same = rw (fields-same C p) (walk_same C (merge_step true mask) p none false (mask_of (length (fieldsOf1 C p)) is))

  accepted : check (up_catalogue C) (up p) 0 ≡ none
  accepted = check-same C p 0 ∙ ok

  narrows : Narrowing (up_catalogue C) (up p) (mask_of (length (fieldsOf1 C p)) is) (up w.plan) w.kept
  narrows = rw (pass_same, fields-same C p) at (demand3_plain mask (up_catalogue C) (up p) accepted is refl)

  pub demand3_before : Narrowing1 C p (mask_of (length (fieldsOf1 C p)) is) w.plan w.kept
  demand3_before =
      record {
        keeps = narrows.keeps;
        fields = sym (fields-same C w.plan) ∙ (narrows.fields ∙ ap (select w.kept) (fields-same C p));
        rows = λ D. sym (rows_same C D w.plan) ∙ (narrows.rows D ∙ ap (map (select w.kept)) (rows_same C D p));
      }

  logs-same : (D E : Log) → Agree1 C w.plan D E → meaning (up_catalogue C) D (up w.plan) ≡ meaning (up_catalogue C) E (up w.plan)
  logs-same D E a = reads_in (up_catalogue C) D E {In = λ t. Unit {0}} (λ t u. a.counts t) (up w.plan) (every_scan (up w.plan)) (λ t i k. a.columns t i (subst T (reads_same C w.plan t i) k))

  pub demand3_logs_before : (D E : Log) → Agree1 C w.plan D E → map (select w.kept) (meaning1 C D p) ≡ map (select w.kept) (meaning1 C E p)
  demand3_logs_before D E a =
      let logs = sym (narrows.rows D) ∙ (logs-same D E a ∙ narrows.rows E) in
      ap (map (select w.kept)) (sym (rows_same C D p)) ∙ (logs ∙ ap (map (select w.kept)) (rows_same C E p))
