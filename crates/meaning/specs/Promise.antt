-- Demand 3 of the very bytes: what a house-mode answer of code 0 promises of the file that was given and the bytes that were written.
-- `Promise`: of a catalogue without keys, whatever the tables hold. `KeyedPromise`: of any catalogue, where the tables keep their keys.
use Rattle.std.specs.Prelude.{◌≡◌, List, map, ℕ}
use Rattle.rules.specs.Mask.{select}
use Rattle.rules.specs.Answer.{Answer}
use Rattle.rules.specs.Success.{Success}
use Rattle.meaning.specs.Value.{Log}
use Rattle.meaning.specs.Meaning.{meaning}
use Rattle.meaning.specs.Reads.{Agree}
use Rattle.meaning.specs.Keyed.{Keyed}
use Rattle.meaning.specs.Narrowing.{Narrowing, NarrowingOver}

pub record Promise (mask : ℕ) (file : List ℕ) (request : ℕ → List ℕ) (a : Answer) : Type 0 where
  -- the file reads as a plan, the bytes written as another, over one catalogue
  pub plans : Success 1 mask file request a
  -- "the rewritten plan keeps the old fields' order and every requested field, and gives the same rows in the same order at each field it keeps"
  pub narrows : Narrowing plans.catalogue plans.old plans.R plans.walked.plan plans.walked.kept
  -- "so logs that agree in the columns the new scans name give the same rows"
  pub logs : (D E : Log) → Agree plans.catalogue plans.walked.plan D E
      → map (select plans.walked.kept) (meaning plans.catalogue D plans.old) ≡ map (select plans.walked.kept) (meaning plans.catalogue E plans.old)

-- "Demand 3 now has the premise that in each log it speaks of no two rows of a keyed table share the key and no key value is missing."
pub record KeyedPromise (mask : ℕ) (file : List ℕ) (request : ℕ → List ℕ) (a : Answer) : Type 0 where
  pub plans : Success 1 mask file request a
  pub narrows : NarrowingOver (Keyed plans.catalogue) plans.catalogue plans.old plans.R plans.walked.plan plans.walked.kept
  pub logs : (D E : Log) → Keyed plans.catalogue D → Keyed plans.catalogue E → Agree plans.catalogue plans.walked.plan D E
      → map (select plans.walked.kept) (meaning plans.catalogue D plans.old) ≡ map (select plans.walked.kept) (meaning plans.catalogue E plans.old)
