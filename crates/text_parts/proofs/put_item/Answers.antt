-- `text_parts::put_item` meets its contract. Assumes nothing.
use Rattle.text_parts.proofs.Parts.{item_named}
use Rattle.text_parts.proofs.put_item.Goals as goal

pub returns : goal.returns
returns c =
    item_named _ c.row_at-row.ensures c.if-row-eq0.false c.put_expr-a.ensures c.put_text-b.ensures c.put_pair-2.ensures
