-- What a node is judged by: its head and its inputs' fields. `head_fault` is the part of `check` that is the node's own.
use Rattle.std.specs.Prelude.{Bool, true, List, ℕ}
use Rattle.std.proofs.Math.Option.{Option}
use Rattle.cpl.specs.Accept.{Fault, Test, each_passes, binary_passes, even, node_fault, together}
use Rattle.cpl.specs.Exprs.{leaf_exprs, unary_exprs}
use Rattle.cpl.specs.Fields.{binary_fields, leaf_fields, leaf_input, unary_fields}
use Rattle.cpl.specs.Plan.{Catalogue, Pair}
use Rattle.cpl.specs.ReadPlan.{Head, h0, h1, h2}

-- what a node's expressions are over: its inputs' fields, or a leaf's own
abbrev pub input_head : Catalogue → Head → (fl : List Pair) → List Pair
input_head C (h0 h) fl = leaf_input C h
input_head C (h1 h) fl = fl
input_head C (h2 h) fl = fl

-- do they pass over these?
abbrev pub passes_head : Head → (fl fr : List Pair) → Test → Bool
passes_head (h0 h) fl fr = each_passes (leaf_exprs h) fl
passes_head (h1 h) fl fr = each_passes (unary_exprs h) fl
passes_head (h2 h) fl fr = binary_passes h fl fr

abbrev pub even_head : Head → (fl fr : List Pair) → Bool
even_head (h0 h) fl fr = true
even_head (h1 h) fl fr = true
even_head (h2 h) fl fr = even h fl fr

abbrev pub fields_head : Catalogue → Head → (fl fr : List Pair) → List Pair
fields_head C (h0 h) fl fr = leaf_fields C h
fields_head C (h1 h) fl fr = unary_fields h fl
fields_head C (h2 h) fl fr = binary_fields h fl fr

abbrev pub together_head : Catalogue → Head → (fl fr : List Pair) → List Pair
together_head C (h0 h) fl fr = leaf_fields C h
together_head C (h1 h) fl fr = unary_fields h fl
together_head C (h2 h) fl fr = together h fl fr

abbrev pub head_fault : Catalogue → (at : ℕ) → Head → (fl fr : List Pair) → Option Fault
head_fault C at h fl fr = node_fault C at (passes_head h (input_head C h fl) fr) (even_head h fl fr) (fields_head C h fl fr) (together_head C h fl fr)
