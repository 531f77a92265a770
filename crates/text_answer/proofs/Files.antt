-- A file's listing by what was found of the file: refused, or accepted with its plan in the lent arrays. Assumes nothing.
use mathlib.Core.Path.{◌≡◌, refl}
use mathlib.Core.List.{List}
use mathlib.Core.Option.{Option, none, some}
use Prim.Native.Nat.{ℕ, ◌^◌, ◌<◌}
use native.Mathlib.Omega.{arith}
use lib.ListN.{length}
use Rattle.cpl.specs.Accept.{Fault, fault, check}
use Rattle.cpl.specs.Exprs.{plan_nodes}
use Rattle.cpl.specs.Plan.{Catalogue, Plan, Source, leaf, unary, binary}
use Rattle.cpl.specs.Read.{Res, ok, bad}
use Rattle.cpl.specs.ReadPlan.{read_file}
use Rattle.cpl.specs.Writable.{FitCatalogue}
use Rattle.rules.specs.Answer.{refusal, written}
use Rattle.rules.specs.Check.{check_file, finding, numbers_of}
use Rattle.rules.specs.Success.{source_of}
use Rattle.plan_text.specs.Answers as text
use Rattle.plan_text.specs.Answers.{delivered, faultless, list_answer, list_of}
use Rattle.plan_text.specs.Listing.{listing}
use Rattle.plan_text.proofs.Long.{listing_short}
use Rattle.tree.specs.Tree.{WfTree, lent, plan_at}

-- a plan that was read but has a fault, and a file that was not read
fault-refuses : (make : Source → List ℕ) (s : Source) (next tags nodes : ℕ) (f : Option Fault) (out : List ℕ) → check s.catalogue s.plan 0 ≡ f →
    0 < (numbers_of (finding (ok s next tags nodes))).code →
    delivered (faultless (make s) f) out ≡ refusal (numbers_of (finding (ok s next tags nodes))).code (numbers_of (finding (ok s next tags nodes))).place out
unfolding finding numbers_of delivered faultless
fault-refuses make s next tags nodes none out e h = let z : 0 < 0 = rw e at h in absurd (omega arith)
fault-refuses make s next tags nodes (some (fault code node)) out e h = rw e

result-refuses : (make : Source → List ℕ) (r : Res Source) (out : List ℕ) → 0 < (numbers_of (finding r)).code →
    delivered (text.accepted make r) out ≡ refusal (numbers_of (finding r)).code (numbers_of (finding r)).place out
unfolding text.accepted finding numbers_of delivered
result-refuses make (ok s next tags nodes) out h = fault-refuses make s next tags nodes (check s.catalogue s.plan 0) out refl h
result-refuses make (bad code place) out h = refl

-- what is refused by the check is refused by the listing, at the same place
pub list-refused : (file out : List ℕ) → 0 < (check_file file).code → list_answer file out ≡ refusal (check_file file).code (check_file file).place out
unfolding list_answer list_of check_file
list-refused file out h = result-refuses (λ s. listing s.plan) (read_file file) out h

-- an accepted plan's listing is written
pub list-accepted : (file out : List ℕ) (C : Catalogue) (p : Plan) (next tags nodes : ℕ) → read_file file ≡ ok (source_of C p) next tags nodes → check C p 0 ≡ none →
    list_answer file out ≡ written (listing p) out
unfolding list_answer list_of text.accepted faultless delivered
list-accepted file out C p next tags nodes e f = rw (e, f)

-- its length can be counted
pub list_counts : (C : Catalogue) (cells rows nodes : List ℕ) (count : ℕ) → FitCatalogue C → WfTree C (lent cells rows nodes) count → 0 < count →
    count ≡ plan_nodes (plan_at (lent cells rows nodes) 0) → length (listing (plan_at (lent cells rows nodes) 0)) < 2 ^ 64
list_counts C cells rows nodes count t w h e =
    let n = w.each 0 h in
    let s = source_of C (plan_at (lent cells rows nodes) 0) in
    let l = listing_short s (record { tables = t; nodes_fit = n.fit; few_nodes = omega (arith, e, w.few); few_tags = n.tags }) in
    omega (arith, l)

-- a plan has a node
pub some-node : (p : Plan) → 0 < plan_nodes p
unfolding plan_nodes
some-node (leaf h) = omega arith
some-node (unary h p) = omega arith
some-node (binary h p q) = omega arith
