-- `vector_runs::holds` meets its contract: each byte of the buffer's front is a letter, and those behind it are as before. Assumes nothing.
use Rattle.std.proofs.Common.{◌≡◌, ◌≢◌, ℕ, arith, drop, length, rules, take}
use Rattle.std.proofs.lemmas.Bool.{MatchBool-at_false, MatchBool-at_true}
use Rattle.std.proofs.lemmas.Iterator.{cases_from_all, YieldsList-from_slice, YieldsList-from_zip}
use Rattle.vector_runs.proofs.Runs.{by_rest, front_missed, Other, Same}
use borrow.Author.Tests.{tests}
use Rattle.vector_runs.proofs.holds.Goals as goal
use Rattle.vector_runs.proofs.holds.Goals.{else-all, then-all}

pub returns : goal.returns
returns g c =
    let Gives : ℕ → ℕ → Type 0 = λ b x. goal.L-post g c.args.letter b x in
    let front = cases_from_all c.all.new.self _ _ (Same Gives c.args.out.now c.args.text.now) (Other Gives c.args.out.now c.args.text.now) c.all.ensures.ran
    (YieldsList-from_zip (YieldsList-from_slice (take (length c.args.text.now) c.args.out.now) (search rules))
    (YieldsList-from_slice c.args.text.now (search rules))) (λ x q k. search (rules, tests)) (λ x q k. search (rules, tests)) in
    elim c.if-all.branch [
      | then-all w ↦
          rw w.result-is (by_rest Gives c.args.out.now c.args.text.now (omega arith) (MatchBool-at_true _ _ w.if-all.true front) w.all-then-all.result
          (cases_from_all w.all-then-all.new.self _ _ (λ x. x ≡ 165) (λ x. x ≢ 165) w.all-then-all.ensures.ran (YieldsList-from_slice (drop (length c.args.text.now) c.args.out.now) (search rules))
          (λ x q k. search (rules, tests)) (λ x q k. search (rules, tests))))
      | else-all w ↦
          rw (w.result-is, w.if-all.false) (front_missed Gives c.args.out.now c.args.text.now (omega arith) (MatchBool-at_false _ _ w.if-all.false front))
    ]
