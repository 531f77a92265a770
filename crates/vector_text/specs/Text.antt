-- What a text says: its pieces, the numbers, lists and bytes that it writes. A text is a list of bytes.
use Rattle.std.specs.Prelude.{Bool, false, cond, ◌&&◌, List, [], ◌∷◌, ◌++◌, ℕ, ◌+◌, ◌*◌, ◌-◌, ◌<◌, ◌≡◌, eqb, leb, ltb, get_or, length, drop, Option, Some, None}
use Rattle.std.specs.List.{slice_split}

-- ── pieces ──────────────────────────────────────────────────────────────────────────────────

-- the pieces that the bytes b separate, one more than there are such bytes; a piece may be empty
abbrev pub pieces : (b : ℕ) → List ℕ → List (List ℕ)
pieces b = slice_split (λ x. eqb x b)

-- field k of a line, counted from 0: the pieces between spaces; empty past the last
abbrev pub field_of : (k : ℕ) → List ℕ → List ℕ
field_of k line = get_or (pieces 32 line) k []

-- ── numbers ─────────────────────────────────────────────────────────────────────────────────

-- the value of a digit, `0` to `9` and `a` to `f`; 16 for any other byte
unfoldable pub digit_of : ℕ → ℕ
digit_of b = cond (leb 48 b && leb b 57) (b - 48) (cond (leb 97 b && leb b 102) (b - 87) 16)

-- the number that goes on from v by these decimal digits
unfoldable pub decimal : (v : ℕ) → List ℕ → Option ℕ
decimal v [] = Some v
decimal v (x ∷ xs) = cond (ltb (digit_of x) 10) (decimal (v * 10 + digit_of x) xs) None

-- only if it is below n
unfoldable pub below : (n : ℕ) → Option ℕ → Option ℕ
below n None = None
below n (Some v) = cond (ltb v n) (Some v) None

-- a number: one decimal digit or more, below 1,000,000,000
unfoldable pub number_of : List ℕ → Option ℕ
number_of [] = None
number_of (x ∷ xs) = below 1000000000 (decimal 0 (x ∷ xs))

-- a number below 65,536
abbrev pub short_of : List ℕ → Option ℕ
short_of xs = below 65536 (number_of xs)

-- ── lists ───────────────────────────────────────────────────────────────────────────────────

-- these things in front of those that follow, if those are there
unfoldable pub onto : List ℕ → Option (List ℕ) → Option (List ℕ)
onto xs None = None
onto xs (Some ys) = Some (xs ++ ys)

-- a thing in front of those that follow, if all are there
unfoldable pub both : Option ℕ → Option (List ℕ) → Option (List ℕ)
both None o = None
both (Some x) o = onto (x ∷ []) o

-- `-`, which stands for nothing
unfoldable pub dash : List ℕ → Bool
dash [] = false
dash (x ∷ []) = eqb x 45
dash (x ∷ y ∷ xs) = false

-- each piece is a number below 65,536
unfoldable pub shorts : List (List ℕ) → Option (List ℕ)
shorts [] = Some []
shorts (p ∷ ps) = both (short_of p) (shorts ps)

-- a list: `-` for an empty one, else numbers below 65,536 with commas between them
unfoldable pub list_of : List ℕ → Option (List ℕ)
list_of xs = cond (dash xs) (Some []) (shorts (pieces 44 xs))

-- a byte: two digits, the high one first
unfoldable pub byte_of : (high low : ℕ) → Option ℕ
byte_of h l = cond (ltb (digit_of h) 16 && ltb (digit_of l) 16) (Some (digit_of h * 16 + digit_of l)) None

-- each two digits are a byte
unfoldable pub pairs : List ℕ → Option (List ℕ)
pairs [] = Some []
pairs (x ∷ []) = None
pairs (x ∷ y ∷ xs) = both (byte_of x y) (pairs xs)

-- bytes: `-` for none, else two digits for each, and one byte at least
unfoldable pub bytes_of : List ℕ → Option (List ℕ)
bytes_of [] = None
bytes_of (x ∷ xs) = cond (dash (x ∷ xs)) (Some []) (pairs (x ∷ xs))

-- ── what is stored ──────────────────────────────────────────────────────────────────────────

-- What a text says is stored at the front of an array, which holds `entry` before and `exit` after, and the answer is how many things; it is
-- refused where the text says nothing, or more than the array has room for.
abbrev pub Stored : (says : Option (List ℕ)) (entry exit : List ℕ) → Option ℕ → Type 0
Stored None s s' (Some n) = ⊥
Stored None s s' None = Unit {0}
Stored (Some xs) s s' (Some n) = (n ≡ length xs) × (s' ≡ xs ++ drop n s)
Stored (Some xs) s s' None = length s < length xs
