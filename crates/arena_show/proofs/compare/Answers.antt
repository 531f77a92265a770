-- `arena_show::compare` meets its contract: the samples are well formed. Assumes nothing.
use native.Mathlib.Omega.{arith}
use Rattle.arena.proofs.Laws.{wf_less}
use Rattle.arena_show.proofs.Samples.{above, above_wf, cells, cells-wf, items-ok, part, upper_ok}
use Rattle.arena_show.proofs.compare.Goals as goal

pub same_expr-requires : goal.same_expr-requires
same_expr-requires g c = record { wf = (wf_less cells 7 8 (omega arith) cells-wf); wf_2 = (wf_less cells 7 8 (omega arith) cells-wf) }

pub same_expr-requires-2 : goal.same_expr-requires-2
same_expr-requires-2 g c = record { wf = (wf_less cells 7 8 (omega arith) cells-wf); wf_2 = wf_less above 3 7 (omega arith) above_wf }

pub same_expr-requires-3 : goal.same_expr-requires-3
same_expr-requires-3 g c = record { wf = wf_less cells 1 8 (omega arith) cells-wf; wf_2 = wf_less above 2 7 (omega arith) above_wf }

pub same_item-first-requires : goal.same_item-first-requires
same_item-first-requires g c = record { row_ok = items-ok.each 0 (omega arith) (omega arith); row_ok_2 = upper_ok.each 2 (omega arith) (omega arith) }

pub same_item-second-requires : goal.same_item-second-requires
same_item-second-requires g c = record { row_ok = items-ok.each 0 (omega arith) (omega arith); row_ok_2 = upper_ok.each 4 (omega arith) (omega arith) }

pub same-requires : goal.same-requires
same-requires g c = record { rows_ok = items-ok; rows_ok_2 = items-ok }

pub same-requires-2 : goal.same-requires-2
same-requires-2 g c = record { rows_ok = items-ok; rows_ok_2 = part 0 3 (omega arith) (omega arith) items-ok }

pub same-requires-3 : goal.same-requires-3
same-requires-3 g c = record { rows_ok = part 0 1 (omega arith) (omega arith) items-ok; rows_ok_2 = part 2 1 (omega arith) (omega arith) upper_ok }
