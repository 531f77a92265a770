-- What is promised of a narrowed plan: over all logs, as document 01 has it, and over the logs of which something is given, as keys want it.
use Rattle.std.specs.Prelude.{◌≡◌, map}
use Rattle.cpl.specs.Plan.{Plan, Catalogue}
use Rattle.cpl.specs.Fields.{fields_of}
use Rattle.rules.specs.Mask.{Mask, select, LeM}
use Rattle.meaning.specs.Value.{Log}
use Rattle.meaning.specs.Meaning.{meaning}

-- p' is p narrowed to the fields K, for the request R
pub record Narrowing (C : Catalogue) (p : Plan) (R : Mask) (p' : Plan) (K : Mask) : Type 0 where
  -- every requested field is kept
  pub keeps : LeM R K
  -- the kept fields stand in their old order, and there are no others
  pub fields : fields_of C p' ≡ select K (fields_of C p)
  -- whatever the tables hold: the same rows in the same order, each at the kept fields
  pub rows : (D : Log) → meaning C D p' ≡ map (select K) (meaning C D p)

-- p' is p narrowed to the fields K, for the request R, over the logs of which `Given` holds
pub record NarrowingOver (Given : Log → Type 0) (C : Catalogue) (p : Plan) (R : Mask) (p' : Plan) (K : Mask) : Type 0 where
  pub keeps : LeM R K
  pub fields : fields_of C p' ≡ select K (fields_of C p)
  pub rows : (D : Log) → Given D → meaning C D p' ≡ map (select K) (meaning C D p)
