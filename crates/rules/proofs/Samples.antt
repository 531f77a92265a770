-- S1 to S8: every row of the table is right. A test that is computed over the whole table, and the lemma that turns it into the statement of each row.
use mathlib.Core.Path.{◌≡◌, refl, ◌∙◌, ap, ap₂}
use mathlib.Core.List.{List, [], ◌∷◌, ◌++◌}
use mathlib.Core.Bool.{Bool, true, false, ◌&&◌}
use mathlib.Core.Option.{Option, none, some}
use Prim.Native.Nat.{ℕ, ◌≤◌}
use lib.Dec.{T, eqb, eqb→eq, leb, le→leb}
use lib.ListN.{length}
use Rattle.cpl.specs.Lists.{All}
use Rattle.cpl.specs.Tests.{iota}
use Rattle.cpl.specs.Codes.{ROOM}
use Rattle.cpl.specs.Read.{pick}
use Rattle.cpl.specs.Bytes.{bytes_of}
use Rattle.cpl.proofs.Bools.{halves, is_true}
use Rattle.cpl.proofs.Lists.{all-T, All_map}
use Rattle.rules.specs.Answer.{Verdict, refused, narrowed, verdict, success, refusal, written, deliver, reply}
use Rattle.rules.specs.Samples.{Sample, sample, header, asked, Right, samples}
use Rattle.rules.specs.Computes.{rules_computes}

-- ── the test ────────────────────────────────────────────────────────────────────────────────

unfoldable pub same_bytes : List ℕ → List ℕ → Bool
same_bytes [] [] = true
same_bytes [] (y ∷ ys) = false
same_bytes (x ∷ xs) [] = false
same_bytes (x ∷ xs) (y ∷ ys) = eqb x y && same_bytes xs ys

unfoldable pub gives : Verdict → List ℕ → Bool
gives (refused code place) bs = false
gives (narrowed s) bs = same_bytes (bytes_of s) bs

unfoldable pub request_of : Option (List ℕ) → ℕ → List ℕ
request_of none width = iota 0 width
request_of (some request) width = request

passes : Sample → Bool
passes (sample mode mask plan request result) = gives (verdict mode mask (header ++ plan) (request_of request)) (header ++ result)

-- ── what it says ────────────────────────────────────────────────────────────────────────────

same_bytes_lem : (xs ys : List ℕ) → T (same_bytes xs ys) → xs ≡ ys
unfolding same_bytes
same_bytes_lem [] [] t = refl
same_bytes_lem [] (y ∷ ys) t = absurd t
same_bytes_lem (x ∷ xs) [] t = absurd t
same_bytes_lem (x ∷ xs) (y ∷ ys) t = let h = halves (eqb x y) (same_bytes xs ys) t in ap₂ ◌∷◌ (eqb→eq x y h.0) (same_bytes_lem xs ys h.1)

-- a result that fits the buffer is delivered
pub delivered : (v : Verdict) (bs out : List ℕ) → T (gives v bs) → length bs ≤ length out → deliver v out ≡ success bs out
unfolding gives deliver written
delivered (refused code place) bs out t l = absurd t
delivered (narrowed s) bs out t l =
    ap (λ ds. written ds out) (same_bytes_lem (bytes_of s) bs t) ∙ ap (λ b. pick b (success bs out) (refusal ROOM (length bs) out)) (is_true (leb (length bs) (length out)) (le→leb _ _ l))

right : (s : Sample) → T (passes s) → Right s
unfolding passes Right asked request_of reply
right (sample mode mask plan none result) t = λ out l. delivered _ _ out t l
right (sample mode mask plan (some request) result) t = λ out l. delivered _ _ out t l

-- "S1 to S8 are proved as a single table under one statement"
pub samples-right : All Right samples
unfolding rules_computes passes gives same_bytes request_of
samples-right = All_map right (all-T passes samples tt)
