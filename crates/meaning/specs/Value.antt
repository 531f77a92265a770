-- Values, and what the operators of expressions make of them.
use Rattle.std.specs.Prelude.{List, [], ◌∷◌, Bool, true, false, cond, not, ◌&&◌, ◌||◌, eqb, ℤ, pos, negsuc, ◌+ℤ◌, ◌-ℤ◌, ◌*ℤ◌}
use Rattle.std.specs.Int.Signed.{lt_z}
use Rattle.cpl.specs.Plan.{Op1, o_not, o_missing, Op2, o_add, o_sub, o_mul, o_eq, o_lt, o_and, o_or}

-- "Values are whole numbers without bound, or missing."
pub data Val : Type 0 where
  missing : Val
  num : ℤ → Val

abbrev pub Row : Type 0
Row = List Val

-- what the tables hold: of each table its rows
abbrev pub Log : Type 0
Log = List (List Row)

unfoldable pub eq_z : ℤ → ℤ → Bool
eq_z (pos a) (pos b) = eqb a b
eq_z (pos a) (negsuc b) = false
eq_z (negsuc a) (pos b) = false
eq_z (negsuc a) (negsuc b) = eqb a b

-- ── yes, no, missing ────────────────────────────────────────────────────────────────────────

-- "any nonzero value counts as yes"
unfoldable pub yes? : Val → Bool
yes? missing = false
yes? (num z) = not (eq_z z (pos 0))

unfoldable pub no? : Val → Bool
no? missing = false
no? (num z) = eq_z z (pos 0)

unfoldable pub missing? : Val → Bool
missing? missing = true
missing? (num z) = false

-- "yes is 1, no is 0"
unfoldable pub truth : Bool → Val
truth true = num (pos 1)
truth false = num (pos 0)

-- ── operators ───────────────────────────────────────────────────────────────────────────────

-- "Not, arithmetic, equal and less with a missing operand give missing"
unfoldable pub op1 : Op1 → Val → Val
op1 o_not missing = missing
op1 o_not (num z) = truth (eq_z z (pos 0))
op1 o_missing v = truth (missing? v)

unfoldable pub if_present : (ℤ → ℤ → Val) → Val → Val → Val
if_present g missing v = missing
if_present g (num a) missing = missing
if_present g (num a) (num b) = g a b

-- "`and` is 0 if either is 0, `or` 1 if either is yes; otherwise missing if either is missing, else `and` is 1, `or` 0."
unfoldable pub op2 : Op2 → Val → Val → Val
op2 o_add u v = if_present (λ a b. num (a +ℤ b)) u v
op2 o_sub u v = if_present (λ a b. num (a -ℤ b)) u v
op2 o_mul u v = if_present (λ a b. num (a *ℤ b)) u v
op2 o_eq u v = if_present (λ a b. truth (eq_z a b)) u v
op2 o_lt u v = if_present (λ a b. truth (lt_z a b)) u v
op2 o_and u v = cond (no? u || no? v) (truth false) (cond (missing? u || missing? v) missing (truth true))
op2 o_or u v = cond (yes? u || yes? v) (truth true) (cond (missing? u || missing? v) missing (truth false))

-- ── sameness: "Group, Distinct and partition treat missings as equal" ───────────────────────

unfoldable pub same : Val → Val → Bool
same missing missing = true
same missing (num z) = false
same (num z) missing = false
same (num y) (num z) = eq_z y z

unfoldable pub same_row : Row → Row → Bool
same_row [] [] = true
same_row [] (v ∷ vs) = false
same_row (u ∷ us) [] = false
same_row (u ∷ us) (v ∷ vs) = same u v && same_row us vs
