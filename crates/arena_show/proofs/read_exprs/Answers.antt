-- `arena_show::read_exprs` meets its contract: the sample is well formed. Assumes nothing.
use native.Mathlib.Omega.{arith}
use Rattle.arena.proofs.Laws.{wf_less}
use Rattle.arena_show.proofs.Samples.{cells, cells-tags, cells-wf}
use Rattle.arena_show.proofs.read_exprs.Goals as goal

pub show_nodes-requires : goal.show_nodes-requires
show_nodes-requires g c = cells-wf

pub tag_at-requires : goal.tag_at-requires
tag_at-requires g c = (wf_less cells 7 8 (omega arith) cells-wf)

pub count_uses-requires : goal.count_uses-requires
count_uses-requires g c = record { wf = (wf_less cells 7 8 (omega arith) cells-wf); i_bound = cells-tags }

pub count_tags-requires : goal.count_tags-requires
count_tags-requires g c = record { wf = (wf_less cells 7 8 (omega arith) cells-wf); i_bound = cells-tags }

pub has_column-requires : goal.has_column-requires
has_column-requires g c = (wf_less cells 7 8 (omega arith) cells-wf)

pub has_column-requires-2 : goal.has_column-requires-2
has_column-requires-2 g c = wf_less cells 6 8 (omega arith) cells-wf

pub is_column-requires : goal.is_column-requires
is_column-requires g c = wf_less cells 5 8 (omega arith) cells-wf

pub is_column-requires-2 : goal.is_column-requires-2
is_column-requires-2 g c = wf_less cells 5 8 (omega arith) cells-wf
