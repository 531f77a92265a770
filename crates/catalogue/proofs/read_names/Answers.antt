-- `read_names` meets its contract. Assumes nothing.
use native.Mathlib.Omega.{arith}
use Rattle.std.proofs.lemmas.Result.{err_from_is_err_and}
use Rattle.catalogue.proofs.Names.{all_names, one_name, name_refused, no_name}
use Rattle.catalogue.proofs.read_names.Goals as goal

pub loop-i-init : goal.loop-i-init
loop-i-init c = all_names _ _ _ _ _ (omega arith) (omega arith)

pub overflow_cast-names : goal.overflow_cast-names
overflow_cast-names c = omega (arith, c.in_ok-name.ensures.1)

pub returns-in_err-name : goal.returns-in_err-name
returns-in_err-name c =
    let p = err_from_is_err_and c.from_residual.result c.from_residual.ensures.1 in
    rw (p.1, p.2) (name_refused c.loop-i.invariant (omega arith) _ c.in_err-name.ensures)

pub loop-i-preserved : goal.loop-i-preserved
loop-i-preserved c =
    one_name c.loop-i.invariant (omega arith) c.in_ok-name.ensures.0 (omega (arith, c.loop-i.invariant.long, c.requires)) (omega arith) (omega arith)

pub returns : goal.returns
returns c = no_name c.loop-i.invariant (omega arith)
