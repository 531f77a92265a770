-- What the pass keeps, whatever the mode: the new plan has the old fields, in their order, at a mask that contains the request.
use Rattle.std.specs.Prelude.{◌≡◌, List}
use Rattle.cpl.specs.Plan.{Pair, Catalogue}
use Rattle.cpl.specs.Fields.{fields_of}
use Rattle.rules.specs.Mask.{Mask, select, LeM}
use Rattle.rules.specs.Rewrite.{Walked}

pub record FieldsKept (C : Catalogue) (fields-before : List Pair) (R : Mask) (w : Walked) : Type 0 where
  pub keeps : LeM R w.kept
  pub fields : fields_of C w.plan ≡ select w.kept fields-before
