-- `read_leaf` meets its contract. Assumes nothing.
use native.Mathlib.Omega.{arith}
use Rattle.reader_fields.proofs.Exprs.{leaf-column, leaf-literal, leaf-missing}
use Rattle.reader_fields.proofs.read_leaf.Goals as goal

pub returns-in-0 : goal.returns-in-0
returns-in-0 c =
    leaf-column _ _ _ c.in-0.is _ c.read_column.result c.read_column.ensures

pub returns-in-1 : goal.returns-in-1
returns-in-1 c =
    leaf-literal _ _ _ c.in-1.is _ c.read_literal.result c.read_literal.ensures

pub returns-in_default : goal.returns-in_default
returns-in_default c =
    leaf-missing _ _ _ (omega arith) (omega arith) c.put.ensures c.requires.1
