-- What is left of a predicate, as it is handed on.
use Rattle.std.specs.Prelude as std
use Rattle.std.specs.Prelude.{List, ℕ, ◌+◌, length, Some, None}
use Rattle.std.proofs.Math.Option.{Option, none, some}
use Rattle.cpl.specs.Bytes.{expr_bytes}
use Rattle.cpl.specs.Exprs.{expr_tags}
use Rattle.cpl.specs.Plan.{Expr}
use Rattle.arena.specs.Cells.{Wf, expr_at}
use Rattle.writer_parts.specs.Wrote.{Countable}

abbrev pub left_of : (cells : List ℕ) → std.Option ℕ → Option Expr
left_of cells None = none
left_of cells (Some node) = some (expr_at cells node)

-- its node is well formed, and its bytes and tags can be counted
abbrev pub LeftOk : (cells : List ℕ) → std.Option ℕ → Type 0
LeftOk cells None = Unit {0}
LeftOk cells (Some node) = Wf cells (node + 1) × Countable (length (expr_bytes (expr_at cells node))) (expr_tags (expr_at cells node))
