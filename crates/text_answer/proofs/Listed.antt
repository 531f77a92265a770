-- A listing that was counted, and one that was written, as an answer. Assumes nothing.
use mathlib.Core.Path.{◌≡◌, sym, ap, ◌∙◌}
use mathlib.Core.List.{List, [], ◌++◌}
use Prim.Native.Nat.{ℕ, ◌^◌, ◌<◌, ◌≤◌}
use native.Mathlib.Omega.{arith}
use lib.ListN.{length, drop}
use Rattle.cpl.specs.Plan.{Plan}
use Rattle.plan_text.specs.Listing.{listing, plan_text}
use Rattle.text_put.specs.Puts.{Puts, run}
use Rattle.text_put.proofs.Laws.{run_far, run_stores}

-- where the whole text was put, and what is behind it
ran : {xs ys : List ℕ} {n : ℕ} (p : Plan) → Puts (plan_text 0 p) 0 xs n ys → run (listing p) 0 xs ≡ (n, ys)
unfolding run listing
ran p w = w.leads []

-- the place that it ended at is its length
pub counted : {xs ys : List ℕ} {n : ℕ} (p : Plan) → length (listing p) < 2 ^ 64 → Puts (plan_text 0 p) 0 xs n ys → n ≡ length (listing p)
counted {xs} {ys} {n} p h w = sym (ap (λ (z : ℕ × List ℕ). z.0) (ran p w)) ∙ (run_far (listing p) 0 xs (omega arith) ∙ omega arith)

-- where it fits, it stands in front of what stays
pub stored : {xs ys : List ℕ} {n : ℕ} (p : Plan) → length (listing p) < 2 ^ 64 → length (listing p) ≤ length xs → Puts (plan_text 0 p) 0 xs n ys →
    ys ≡ listing p ++ drop (length (listing p)) xs
stored {xs} {ys} {n} p h l w = sym (ap (λ (z : ℕ × List ℕ). z.1) (ran p w)) ∙ run_stores (listing p) [] xs (omega arith) l
