-- `lookup::in_conflict` meets its contract. Assumes nothing.
use Rattle.lookup.proofs.Clash.{conflict_by}
use Rattle.lookup.proofs.in_conflict.Goals as goal

pub returns : goal.returns
returns c =
    rw c.eq.ensures (conflict_by c.args.f.qualifier c.args.f.name c.args.g.qualifier c.args.g.name)
