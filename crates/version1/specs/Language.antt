-- Version 1 before version 2, word for word: plans, their fields and acceptance.
use Rattle.std.specs.Prelude.{List, [], map, Bool, true, not, ℕ, suc, ◌+◌, leb, length, get_or}
use Rattle.std.proofs.Math.Option.{Option}
use Rattle.cpl.specs.Codes.{CLASH, UNKNOWN, AMBIGUOUS, WIDTH, FIELDS}
use Rattle.cpl.specs.Plan.{Pair, Unary, Binary}
use Rattle.cpl.specs.Exprs.{known, definite, unary_exprs, unary_tags, binary_tags}
use Rattle.cpl.specs.Fields.{columns_of, scan_field, unary_fields, binary_fields}
use Rattle.cpl.specs.Accept.{clash, Test, each_passes, binary_passes, even, together, Fault, ◌then◌, must}

abbrev pub max_columns : ℕ
max_columns = 64

-- "Projection: u8 n (0 to 128)", "g and a to 128", "Window: u8 n (1 to 128)", "Empty: u8 n to 128"
abbrev pub max_items : ℕ
max_items = 128

-- "FIELDS: over 128 fields"
abbrev pub max_fields : ℕ
max_fields = 128

-- nodes with no input: 11 Scan (table, qualifier, column indices if given), 12 Empty
pub data Leaf : Type 0 where
  scan : (table qualifier : ℕ) → Option (List ℕ) → Leaf
  empty : (one-row : Bool) → List Pair → Leaf

pub data Plan : Type 0 where
  leaf : Leaf → Plan
  unary : Unary → Plan → Plan
  binary : Binary → Plan → Plan → Plan

-- the tables: of each the names of its columns
abbrev pub Catalogue : Type 0
Catalogue = List (List ℕ)

-- what a plan file holds
pub record Source : Type 0 where
  pub catalogue : Catalogue
  pub plan : Plan

unfoldable pub plan_tags : Plan → ℕ
plan_tags (leaf h) = 0
plan_tags (unary h p) = unary_tags h + plan_tags p
plan_tags (binary h p₁ p₂) = binary_tags h + (plan_tags p₁ + plan_tags p₂)

-- the nodes of a plan
unfoldable pub plan_nodes : Plan → ℕ
plan_nodes (leaf h) = 1
plan_nodes (unary h p) = suc (plan_nodes p)
plan_nodes (binary h p₁ p₂) = suc (plan_nodes p₁ + plan_nodes p₂)

unfoldable pub leaf_fields : Catalogue → Leaf → List Pair
leaf_fields C (scan t q is) = map (scan_field (get_or C t []) q) (columns_of (get_or C t []) is)
leaf_fields C (empty b cs) = cs

unfoldable pub fields_of : Catalogue → Plan → List Pair
fields_of C (leaf h) = leaf_fields C h
fields_of C (unary h p) = unary_fields h (fields_of C p)
fields_of C (binary h p₁ p₂) = binary_fields h (fields_of C p₁) (fields_of C p₂)

-- of node `at`: its references are known and definite, its inputs even, its own fields fs few, and gs without a clash
unfoldable pub node_fault : (at : ℕ) (all_pass : Test → Bool) (inputs-even : Bool) (fs gs : List Pair) → Option Fault
node_fault at all_pass inputs-even fs gs =
    must (all_pass known) UNKNOWN at then must (all_pass definite) AMBIGUOUS at then must inputs-even WIDTH at then must (leb (length fs) max_fields) FIELDS at then must (not (clash gs)) CLASH at

-- the first fault of a plan whose root is node `at`. "Nodes are numbered in prefix order from 0."
unfoldable pub check : Catalogue → Plan → (at : ℕ) → Option Fault
check C (leaf h) at = node_fault at (λ test. true) true (leaf_fields C h) (leaf_fields C h)
check C (unary h p) at =
    let fs = fields_of C p in
    check C p (suc at) then node_fault at (each_passes (unary_exprs h) fs) true (unary_fields h fs) (unary_fields h fs)
check C (binary h p₁ p₂) at =
    let fl = fields_of C p₁ in
    let fr = fields_of C p₂ in
    check C p₁ (suc at) then check C p₂ (suc (at + plan_nodes p₁)) then node_fault at (binary_passes h fl fr) (even h fl fr) (binary_fields h fl fr) (together h fl fr)
