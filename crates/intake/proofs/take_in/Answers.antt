-- `intake::take_in` meets its contract: refused with the file, or what becomes of its request. Assumes nothing.
use Rattle.std.proofs.lemmas.Result.{err_from_is_err_and}
use Rattle.acceptance.proofs.Ways.{few-asked}
use Rattle.intake.proofs.Ways.{refused_file, refused_request, taken}
use Rattle.intake.specs.Intake.{wanted}
use Rattle.intake.proofs.take_in.Goals as goal

pub returns-in_err-read : goal.returns-in_err-read
returns-in_err-read c =
    let p = err_from_is_err_and c.from_residual.result c.from_residual.ensures.1 in
    rw (p.1, p.2) (refused_file _ (rw c.in_err-read.was at c.read_and_check.ensures))

pub ask-requires : goal.ask-requires
ask-requires c =
    few-asked (rw c.in_ok-read.was at c.read_and_check.ensures)

pub returns-in_err-set : goal.returns-in_err-set
returns-in_err-set c =
    let p = err_from_is_err_and c.from_residual-in_err-set.result c.from_residual-in_err-set.ensures.1 in
    rw (p.1, p.2) (refused_request (wanted c.args.all c.args.request.now) (rw c.in_ok-read.was at c.read_and_check.ensures) _ (rw c.in_err-set.was at c.ask.ensures))

pub returns : goal.returns
returns c =
    taken (wanted c.args.all c.args.request.now) (rw c.in_ok-read.was at c.read_and_check.ensures) _ (rw c.in_ok-set.was at c.ask.ensures)
