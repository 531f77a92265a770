-- `text_parts::put_key` meets its contract. Assumes nothing.
use Rattle.text_parts.proofs.Parts.{key_put}
use Rattle.text_parts.proofs.put_key.Goals as goal

pub put_expr-a-requires : goal.put_expr-a-requires
put_expr-a-requires c =
    c.key_at-row.ensures.node _ (c.requires)

pub returns : goal.returns
returns c =
    key_put _ c.key_at-row.ensures c.put_expr-a.ensures c.put_if-b.ensures c.put_if.ensures
