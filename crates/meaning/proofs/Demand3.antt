-- Demand 3: in house mode, what the pass makes of an accepted plan keeps every requested field in the old order and, over every log that keeps the
-- catalogue's keys, gives the same rows in the same order at each field that it keeps; and those rows depend on no column that its scans do not name.
-- Three times: by what the proof needs of a log, by document 02's premise, and without keys as document 01 has it.
use mathlib.Core.Path.{◌≡◌, sym, ◌∙◌}
use mathlib.Core.List.{List, [], map}
use mathlib.Core.Bool.{true, false}
use mathlib.Core.Option.{none}
use Prim.Native.Nat.{ℕ}
use lib.ListN.{length}
use Rattle.cpl.specs.Plan.{Plan, Catalogue}
use Rattle.cpl.specs.Fields.{fields_of}
use Rattle.cpl.specs.Accept.{check}
use Rattle.cpl.specs.Writable.{FitPlan, FitCatalogue}
use Rattle.cpl.proofs.Lists.{always}
use Rattle.cpl.proofs.Accepted.{accepted, distinct-fields}
use Rattle.rules.specs.Mask.{select}
use Rattle.rules.specs.Request.{mask_of}
use Rattle.rules.specs.Merge.{merge_step}
use Rattle.rules.specs.Rewrite.{Walked, rewrite}
use Rattle.rules.proofs.Requests.{fit-mask}
use Rattle.rules.proofs.Results.{walk_good}
use Rattle.meaning.specs.Value.{Log}
use Rattle.meaning.specs.Meaning.{table_rows, meaning}
use Rattle.meaning.specs.Reads.{Agree}
use Rattle.meaning.specs.Keyed.{p[], Keyed, KeysDiffer}
use Rattle.meaning.specs.Narrowing.{Narrowing, NarrowingOver}
use Rattle.meaning.proofs.Rows.{Narrowed}
use Rattle.meaning.proofs.Preserve.{preserve}
use Rattle.meaning.proofs.Logs.{reads_only}
use Rattle.meaning.proofs.KeyedLogs.{keys_differ, without-keys}

-- house mode's pass over a plan for the requested indices
abbrev pub house_pass : (mask : ℕ) → Catalogue → Plan → (request : List ℕ) → Walked
house_pass mask C p is = rewrite (merge_step true mask) C p (mask_of (length (fields_of C p)) is)

-- tables without rows keep every key
no_rows : (C : Catalogue) → KeysDiffer C []
unfolding table_rows
no_rows C = always (λ k. p[]) C.keys

module _ (mask : ℕ) (C : Catalogue) (p : Plan) (ok : check C p 0 ≡ none) (is : List ℕ) where
  at_log : (D : Log) → KeysDiffer C D → Narrowed C D (fields_of C p) (meaning C D p) (mask_of (length (fields_of C p)) is) (house_pass mask C p is).kept (house_pass mask C p is).plan
  at_log D k = let o = accepted C p 0 ok in preserve mask C D k p o none (distinct-fields C p o) false (mask_of (length (fields_of C p)) is) (fit-mask is (fields_of C p))

  over-logs : {Given : Log → Type 0} → ((D : Log) → Given D → KeysDiffer C D) → NarrowingOver Given C p (mask_of (length (fields_of C p)) is) (house_pass mask C p is).plan (house_pass mask C p is).kept
  over-logs given = let e = at_log [] (no_rows C) in record { keeps = e.keeps; fields = e.fields; rows = λ D g. (at_log D (given D g)).rows }

  -- for every accepted plan and every request, and (inside `NarrowingOver`) for all that the tables can hold: no two rows of a keyed table have the same
  -- values at the key, missings counted as equal
  pub demand3_differ : NarrowingOver (KeysDiffer C) C p (mask_of (length (fields_of C p)) is) (house_pass mask C p is).plan (house_pass mask C p is).kept
  demand3_differ = over-logs (λ D k. k)

  -- ── document 02's premise ─────────────────────────────────────────────────────────────────

  pub demand3 : NarrowingOver (Keyed C) C p (mask_of (length (fields_of C p)) is) (house_pass mask C p is).plan (house_pass mask C p is).kept
  demand3 = over-logs (λ D k. keys_differ C D k)

  -- ── without keys: document 01's demand, of every log ──────────────────────────────────────

  pub demand3_plain : C.keys ≡ [] → Narrowing C p (mask_of (length (fields_of C p)) is) (house_pass mask C p is).plan (house_pass mask C p is).kept
  demand3_plain e = record { keeps = demand3.keeps; fields = demand3.fields; rows = λ D. demand3.rows D (without-keys C D e) }

  -- ── what the rows rest on, of a plan that can be written, as every plan of a file can: its scans are of the catalogue's tables ──

  module _ (tables : FitCatalogue C) (fit : FitPlan C p) where
    new_fits : FitPlan C (house_pass mask C p is).plan
    new_fits = (walk_good true mask C tables p (accepted C p 0 ok) fit none tt false (mask_of (length (fields_of C p)) is) (fit-mask is (fields_of C p))).fit

    -- what the old plan gives at the kept fields rests on the columns that the new plan's scans name, and on the number of rows, alone
    pub demand3_differ_logs : (D E : Log) → KeysDiffer C D → KeysDiffer C E → Agree C (house_pass mask C p is).plan D E
        → map (select (house_pass mask C p is).kept) (meaning C D p) ≡ map (select (house_pass mask C p is).kept) (meaning C E p)
    demand3_differ_logs D E j k a = sym (demand3_differ.rows D j) ∙ (reads_only C D E (house_pass mask C p is).plan new_fits a ∙ demand3_differ.rows E k)

    pub demand3_logs : (D E : Log) → Keyed C D → Keyed C E → Agree C (house_pass mask C p is).plan D E
        → map (select (house_pass mask C p is).kept) (meaning C D p) ≡ map (select (house_pass mask C p is).kept) (meaning C E p)
    demand3_logs D E j k a = demand3_differ_logs D E (keys_differ C D j) (keys_differ C E k) a

    pub demand3_plain_logs : C.keys ≡ [] → (D E : Log) → Agree C (house_pass mask C p is).plan D E
        → map (select (house_pass mask C p is).kept) (meaning C D p) ≡ map (select (house_pass mask C p is).kept) (meaning C E p)
    demand3_plain_logs e D E a = demand3_logs D E (without-keys C D e) (without-keys C E e) a
