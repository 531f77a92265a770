-- `lookup::put_field` meets its contract. Assumes nothing.
use Rattle.lookup.proofs.Rows.{put_here, put_kept}
use Rattle.lookup.proofs.put_field.Goals as goal

pub returns : goal.returns
returns c = record { j_after = put_here c.args.fields.now c.args.j c.args.f.qualifier c.args.f.name c.requires; kept = put_kept c.args.fields.now c.args.j c.args.f.qualifier c.args.f.name }
