-- `read_body` meets its contract. Assumes nothing.
use Rattle.std.proofs.lemmas.Result.{err_from_is_err_and}
use native.Mathlib.Omega.{arith}
use mathlib.Core.Path.{refl}
use Rattle.versions.specs.Versions.{version_of}
use Rattle.reader.proofs.Files.{body_bad, body_tail, body_took}
use Rattle.reader.proofs.read_body.Goals as goal

pub read_plan-requires : goal.read_plan-requires
read_plan-requires c = record { made_le_tags = (omega arith, omega arith, omega arith, omega arith, omega (arith, c.requires.in_bounds), omega (arith, c.requires.in_bounds), omega (arith, c.requires.in_bounds), omega (arith, c.requires.in_bounds), omega (arith, c.requires.in_bounds), c.requires.in_bounds.5); known = c.requires.known }

pub returns-then-end-file : goal.returns-then-end-file
returns-then-end-file c =
    λ C same wide. rw (c.new.ensures.0, c.new.ensures.1) (body_tail (version_of c.args.version) C _ _ _ _ _ _ _ _ _ (rw c.in_ok-plan.was at (c.read_plan.ensures C same wide)) c.if-end-file.true)

pub returns-in_err-plan : goal.returns-in_err-plan
returns-in_err-plan c =
    let p = err_from_is_err_and c.from_residual.result c.from_residual.ensures.1 in
    λ C same wide. rw (p.1, p.2) (body_bad (version_of c.args.version) C _ _ (rw c.in_err-plan.was at (c.read_plan.ensures C same wide)))

pub returns : goal.returns
returns c =
    λ C same wide. (refl, refl, refl, body_took (version_of c.args.version) C _ _ _ _ _ _ _ _ _ (rw c.in_ok-plan.was at (c.read_plan.ensures C same wide)) c.if-end-file.false)
