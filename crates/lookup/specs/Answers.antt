-- What the answers of this crate's functions stand for.
use Rattle.std.specs.Prelude.{Bool, true, false, cond, ℕ, leb, Some, None, Result, Ok, Err}
use Rattle.std.specs.Prelude
use Rattle.std.proofs.Math.Option.{Option, none, some}
use Rattle.cpl.specs.Accept.{Test}
use Rattle.cpl.specs.Exprs.{known, definite}
use Rattle.lookup.specs.declared.Lookup.{Lookup}
use Rattle.lookup.specs.declared.Lookup.TheVariants as lookup
use Rattle.lookup.specs.declared.Unresolved.{Unresolved}
use Rattle.lookup.specs.declared.Unresolved.TheVariants as unresolved

-- a place, as the definitions of cpl have it
abbrev pub place_of : Prelude.Option ℕ → Option ℕ
place_of (Some i) = some i
place_of None = none

-- by the first field that fits and by how many fit: "17 AMBIGUOUS if two fields fit …; 8 only if none does"
abbrev pub lookup_of : (first : Option ℕ) (fitting : ℕ) → Lookup
lookup_of none n = lookup.Absent
lookup_of (some i) n = cond (leb n 1) (lookup.Found i) lookup.Ambiguous

-- what the references of expressions find: each one field, or why not
abbrev pub Resolved : Type 0
Resolved = Result (Unit {0}) Unresolved

-- expressions that are known, or not, and definite, or not: 8 comes before 17
abbrev pub resolved_of : (all_Known all_definite : Bool) → Resolved
resolved_of true d = cond d (Ok tt) (Err unresolved.Ambiguous)
resolved_of false d = Err unresolved.Unknown

-- expressions that pass some tests
abbrev pub resolving : (all_pass : Test → Bool) → Resolved
resolving all_pass = resolved_of (all_pass known) (all_pass definite)

-- of two answers the one that comes first
abbrev pub worse : Resolved → Resolved → Resolved
worse (Ok u) b = b
worse (Err unresolved.Unknown) b = Err unresolved.Unknown
worse (Err unresolved.Ambiguous) (Ok u) = Err unresolved.Ambiguous
worse (Err unresolved.Ambiguous) (Err e) = Err e
