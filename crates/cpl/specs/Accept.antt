-- Acceptance: codes 7 to 10 of document 01 and 17 of document 02, each with its node. "8, 9, 10, 7 at each node, children first, left before
-- right", and 17 "at each node between 8 and 9".
use Rattle.std.specs.Prelude.{List, [], ◌∷◌, ◌++◌, Bool, true, false, cond, not, ◌&&◌, ◌||◌, ℕ, suc, ◌+◌, eqb, leb, length}
use Rattle.std.proofs.Math.Option.{Option, none, some}
use Rattle.cpl.specs.Tests.{any_b, all_b}
use Rattle.cpl.specs.Codes.{CLASH, UNKNOWN, AMBIGUOUS, WIDTH, FIELDS}
use Rattle.cpl.specs.Plan.{Pair, pair, eq_p, Expr, On, on, Binary, union, join, Plan, leaf, unary, binary, Catalogue}
use Rattle.cpl.specs.Exprs.{known, leaf_exprs, definite, unary_exprs, cond_exprs, plan_nodes}
use Rattle.cpl.specs.Fields.{leaf_fields, leaf_input, unary_fields, binary_fields, fields_of}

-- ── the tests ───────────────────────────────────────────────────────────────────────────────

-- "one name both with and without qualifier"
unfoldable pub half_named : Pair → Pair → Bool
half_named (pair q n) (pair r m) = eqb n m && cond (eqb q 0) (not (eqb r 0)) (eqb r 0)

-- "two equal pairs, or one name both with and without qualifier"
unfoldable pub conflict : Pair → Pair → Bool
conflict f g = eq_p g f || half_named f g

unfoldable pub clash : List Pair → Bool
clash [] = false
clash (f ∷ fs) = any_b (conflict f) fs || clash fs

-- what an expression is to pass, over the fields that it sees: to be known, or definite
abbrev pub Test : Type 0
Test = List Pair → Expr → Bool

-- do all expressions pass over these fields?
abbrev pub each_passes : List Expr → List Pair → Test → Bool
each_passes es fs test = all_b (test fs) es

-- "of a join: pair halves each in their own side, the condition in both"
unfoldable pub on_passes : List Pair → List Pair → Test → On → Bool
on_passes fl fr test (on a b) = test fl a && test fr b

unfoldable pub binary_passes : Binary → List Pair → List Pair → Test → Bool
binary_passes union fl fr test = true
binary_passes (join t os c) fl fr test = all_b (on_passes fl fr test) os && each_passes (cond_exprs c) (fl ++ fr) test

-- "WIDTH: Union inputs of unequal width"
unfoldable pub even : Binary → List Pair → List Pair → Bool
even union fl fr = eqb (length fl) (length fr)
even (join t os c) fl fr = true

-- "in a node's fields or in a join's two sides together"
unfoldable pub together : Binary → List Pair → List Pair → List Pair
together union fl fr = fl
together (join t os c) fl fr = fl ++ fr

-- ── the first fault ─────────────────────────────────────────────────────────────────────────

pub data Fault : Type 0 where
  fault : (code node : ℕ) → Fault

unfoldable pub ◌then◌ : Option Fault → Option Fault → Option Fault
none then f = f
some e then f = some e

infixr 20 ◌then◌
unfoldable pub must : Bool → (code at : ℕ) → Option Fault
must true code at = none
must false code at = some (fault code at)

-- of node `at`: its references are known and definite, its inputs even, its own fields fs few, and gs without a clash
unfoldable pub node_fault : Catalogue → (at : ℕ) (all_pass : Test → Bool) (inputs-even : Bool) (fs gs : List Pair) → Option Fault
node_fault C at all_pass inputs-even fs gs =
    must (all_pass known) UNKNOWN at then must (all_pass definite) AMBIGUOUS at then must inputs-even WIDTH at then must (leb (length fs) C.version.max_fields) FIELDS at then must (not (clash gs)) CLASH at

-- the first fault of a plan whose root is node `at`. "Nodes are numbered in prefix order from 0."
unfoldable pub check : Catalogue → Plan → (at : ℕ) → Option Fault
check C (leaf h) at = node_fault C at (each_passes (leaf_exprs h) (leaf_input C h)) true (leaf_fields C h) (leaf_fields C h)
check C (unary h p) at =
    let fs = fields_of C p in
    check C p (suc at) then node_fault C at (each_passes (unary_exprs h) fs) true (unary_fields h fs) (unary_fields h fs)
check C (binary h p₁ p₂) at =
    let fl = fields_of C p₁ in
    let fr = fields_of C p₂ in
    check C p₁ (suc at) then check C p₂ (suc (at + plan_nodes p₁)) then node_fault C at (binary_passes h fl fr) (even h fl fr) (binary_fields h fl fr) (together h fl fr)
