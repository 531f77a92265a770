-- Worked examples: calls and what they write. Assumes nothing.
use mathlib.Core.Path.{◌≡◌, refl}
use mathlib.Core.List.{List, [], ◌∷◌, ◌++◌}
use Prim.Native.Nat.{ℕ}
use Rattle.join_keys.specs.Computes.{keys_compute}
use Rattle.listing.specs.Computes.{listing_computes}
use Rattle.plan_text.specs.Computes.{answers_compute}
use Rattle.calls.specs.Calls.{call_text, numbers_text}
use Rattle.calls.specs.Computes.{calls_compute}

-- 0 12 7
line : numbers_text (0 ∷ 12 ∷ 7 ∷ []) ≡ 48 ∷ 32 ∷ 49 ∷ 50 ∷ 32 ∷ 55 ∷ 10 ∷ []
unfolding listing_computes keys_compute calls_compute
line = refl

-- document 01's S1, 25 bytes
s1 : List ℕ
s1 = 67 ∷ 80 ∷ 76 ∷ 1 ∷ 0 ∷ 1 ∷ 3 ∷ 1 ∷ 0 ∷ 2 ∷ 0 ∷ 3 ∷ 0 ∷ 1 ∷ 1 ∷ 0 ∷ 1 ∷ 0 ∷ 1 ∷ 0 ∷ 11 ∷ 0 ∷ 1 ∷ 0 ∷ 0 ∷ []

-- it is accepted, with two nodes and one root field: 0 0 2 1
checked : call_text (2 ∷ 25 ∷ 0 ∷ 0 ∷ 0 ∷ s1) ≡ 48 ∷ 32 ∷ 48 ∷ 32 ∷ 50 ∷ 32 ∷ 49 ∷ 10 ∷ []
unfolding listing_computes keys_compute calls_compute s1
checked = refl

-- an empty file is not: 2 0 0 0
unchecked : call_text (2 ∷ []) ≡ 50 ∷ 32 ∷ 48 ∷ 32 ∷ 48 ∷ 32 ∷ 48 ∷ 10 ∷ []
unfolding listing_computes keys_compute calls_compute
unchecked = refl

-- the listing of S1: 0 31 0, PLAN 2, 0 projection 1, 1 scan 3
listing : call_text (5 ∷ 25 ∷ 0 ∷ 0 ∷ 0 ∷ s1)
    ≡ 48 ∷ 32 ∷ 51 ∷ 49 ∷ 32 ∷ 48 ∷ 10 ∷ 80 ∷ 76 ∷ 65 ∷ 78 ∷ 32 ∷ 50 ∷ 10 ∷ 48 ∷ 32 ∷ 112 ∷ 114 ∷ 111 ∷ 106 ∷ 101 ∷ 99 ∷ 116 ∷ 105 ∷ 111 ∷ 110 ∷ 32 ∷ 49 ∷ 10 ∷ 49 ∷ 32 ∷ 115 ∷ 99 ∷ 97 ∷ 110 ∷ 32 ∷ 51 ∷ 10 ∷ []
unfolding listing_computes keys_compute calls_compute s1
listing = refl

-- an empty file has none: 2 0 0
unlisted : call_text (5 ∷ []) ≡ 50 ∷ 32 ∷ 48 ∷ 32 ∷ 48 ∷ 10 ∷ []
unfolding listing_computes keys_compute calls_compute
unlisted = refl

-- its plan as text: 0 34 0, projection [q1.c1], scan 0 as q1
told : call_text ((6 ∷ 25 ∷ 0 ∷ 0 ∷ 0 ∷ s1) ++ (34 ∷ []))
    ≡ 48 ∷ 32 ∷ 51 ∷ 52 ∷ 32 ∷ 48 ∷ 10 ∷ 112 ∷ 114 ∷ 111 ∷ 106 ∷ 101 ∷ 99 ∷ 116 ∷ 105 ∷ 111 ∷ 110 ∷ 32 ∷ 91 ∷ 113 ∷ 49 ∷ 46 ∷ 99 ∷ 49 ∷ 93 ∷ 10 ∷ 32 ∷ 32 ∷ 115 ∷ 99 ∷ 97 ∷ 110 ∷ 32 ∷ 48 ∷ 32 ∷ 97 ∷ 115 ∷ 32 ∷ 113 ∷ 49 ∷ 10 ∷ []
unfolding listing_computes keys_compute calls_compute answers_compute s1
told = refl

-- in an output of 33 bytes: 13 0 34
untold : call_text ((6 ∷ 25 ∷ 0 ∷ 0 ∷ 0 ∷ s1) ++ (33 ∷ [])) ≡ 49 ∷ 51 ∷ 32 ∷ 48 ∷ 32 ∷ 51 ∷ 52 ∷ 10 ∷ []
unfolding listing_computes keys_compute calls_compute answers_compute s1
untold = refl

-- all fields of S1: 0 20 0, and the 20 bytes of the narrowed plan
narrowed : call_text ((1 ∷ 0 ∷ 0 ∷ 0 ∷ 25 ∷ 0 ∷ 0 ∷ 0 ∷ s1) ++ (32 ∷ []))
    ≡ 48 ∷ 32 ∷ 50 ∷ 48 ∷ 32 ∷ 48 ∷ 10 ∷ 67 ∷ 80 ∷ 76 ∷ 1 ∷ 0 ∷ 1 ∷ 3 ∷ 1 ∷ 0 ∷ 2 ∷ 0 ∷ 3 ∷ 0 ∷ 11 ∷ 0 ∷ 1 ∷ 0 ∷ 1 ∷ 1 ∷ 0 ∷ []
unfolding listing_computes keys_compute calls_compute s1
narrowed = refl

-- all fields of S1 in an output of one byte: 13 0 20
tight : call_text ((1 ∷ 0 ∷ 0 ∷ 0 ∷ 25 ∷ 0 ∷ 0 ∷ 0 ∷ s1) ++ (1 ∷ [])) ≡ 49 ∷ 51 ∷ 32 ∷ 48 ∷ 32 ∷ 50 ∷ 48 ∷ 10 ∷ []
unfolding listing_computes keys_compute calls_compute s1
tight = refl

-- the filter of S2, q1.c2 = 5, 15 bytes, and its key, the same in 15
predicate : List ℕ
predicate = 8 ∷ 0 ∷ 1 ∷ 0 ∷ 2 ∷ 0 ∷ 1 ∷ 5 ∷ 0 ∷ 0 ∷ 0 ∷ 0 ∷ 0 ∷ 0 ∷ 0 ∷ []

key : List ℕ
key = 1 ∷ 0 ∷ 1 ∷ 0 ∷ 2 ∷ 0 ∷ 1 ∷ 5 ∷ 0 ∷ 0 ∷ 0 ∷ 0 ∷ 0 ∷ 0 ∷ 0 ∷ []

-- 0 15 0, and the key
keyed : call_text ((3 ∷ 15 ∷ 0 ∷ 0 ∷ 0 ∷ predicate) ++ (15 ∷ [])) ≡ (48 ∷ 32 ∷ 49 ∷ 53 ∷ 32 ∷ 48 ∷ 10 ∷ []) ++ key
unfolding listing_computes keys_compute calls_compute predicate key
keyed = refl

-- 0 1 0, and nothing left
unkeyed : call_text ((4 ∷ 15 ∷ 0 ∷ 0 ∷ 0 ∷ predicate) ++ (15 ∷ 0 ∷ 0 ∷ 0 ∷ key) ++ (16 ∷ [])) ≡ 48 ∷ 32 ∷ 49 ∷ 32 ∷ 48 ∷ 10 ∷ 0 ∷ []
unfolding listing_computes keys_compute calls_compute predicate key
unkeyed = refl

-- no entry
nothing : call_text (255 ∷ []) ≡ []
unfolding listing_computes keys_compute calls_compute
nothing = refl
