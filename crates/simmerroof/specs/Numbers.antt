-- What the exported functions answer: document 01's "a code, a length and a place" as three numbers in a lent array, and request 2's as four.
use Rattle.std.specs.Prelude.{◌≡◌, List, [], ◌∷◌, ℕ, get_or}
use Rattle.rules.specs.Answer as rules
use Rattle.rules.specs.Check.{Checked}

-- code, length, place; out' is the output buffer as the call leaves it
pub record NumbersAre (a : rules.Answer) (numbers out' : List ℕ) : Type 0 where
  pub numbers_are : numbers ≡ a.code ∷ a.length ∷ a.place ∷ []
  pub out_is : out' ≡ a.out

-- the code that the three numbers say
abbrev pub code_in : (numbers : List ℕ) → ℕ
code_in numbers = get_or numbers 0 0

-- code, place, nodes, fields
abbrev pub check_numbers : Checked → List ℕ
check_numbers c = c.code ∷ c.place ∷ c.nodes ∷ c.fields ∷ []
