-- The files of version 2: every row of the table is right.
use mathlib.Core.Path.{◌≡◌, ap₂}
use mathlib.Core.List.{List}
use mathlib.Core.Bool.{Bool, false, ◌&&◌}
use mathlib.Core.Option.{none, some}
use Prim.Native.Nat.{ℕ}
use lib.Dec.{T, eqb, eqb→eq}
use Rattle.cpl.specs.Lists.{All}
use Rattle.cpl.proofs.Bools.{halves}
use Rattle.cpl.proofs.Lists.{all-T, All_map}
use Rattle.rules.specs.Answer.{Verdict, refused, narrowed, verdict, refusal, deliver, reply}
use Rattle.rules.specs.Samples.{asked}
use Rattle.rules.specs.Samples2.{Sample2, gives, refuses, Right2, samples2}
use Rattle.rules.specs.Computes.{rules_computes}
use Rattle.rules.proofs.Samples.{request_of, same_bytes, delivered}
use Rattle.rules.proofs.Samples as Table1

is_refusal : Verdict → (code place : ℕ) → Bool
is_refusal (refused c p) code place = eqb c code && eqb p place
is_refusal (narrowed s) code place = false

passes : Sample2 → Bool
passes (gives file request result) = Table1.gives (verdict 1 0 file (request_of request)) result
passes (refuses file code place) = is_refusal (verdict 1 0 file (request_of none)) code place

handed_on : (v : Verdict) (code place : ℕ) (out : List ℕ) → T (is_refusal v code place) → deliver v out ≡ refusal code place out
unfolding is_refusal deliver
handed_on (refused c p) code place out t = let h = halves (eqb c code) (eqb p place) t in ap₂ (λ x y. refusal x y out) (eqb→eq c code h.0) (eqb→eq p place h.1)
handed_on (narrowed s) code place out t = absurd t

right : (s : Sample2) → T (passes s) → Right2 s
unfolding passes Right2 asked request_of reply
right (gives file none result) t = λ out l. delivered _ _ out t l
right (gives file (some request) result) t = λ out l. delivered _ _ out t l
right (refuses file code place) t = λ out. handed_on _ code place out t

pub samples2-right : All Right2 samples2
unfolding rules_computes passes is_refusal Table1.gives same_bytes request_of
samples2-right = All_map right (all-T passes samples2 tt)
