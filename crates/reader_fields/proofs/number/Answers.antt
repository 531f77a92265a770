-- `number` meets its contract. Assumes nothing.
use native.Mathlib.Omega.{arith}
use Rattle.reader_fields.proofs.Laws.{none_spelt, one_spelt, all_spelt, spelt_fits}
use Rattle.reader_fields.proofs.number.Goals as goal

pub loop-b-init : goal.loop-b-init
loop-b-init c =
    rw (c.into_iter-b-iterator.ensures.into_iter_gives, c.rev-b-items.ensures.source) (none_spelt _ _ _ c.requires.0 _ c.iter.ensures.rest)

pub overflow_mul-n : goal.overflow_mul-n
overflow_mul-n c =
    omega (arith, spelt_fits _ _ _ _ _ _ _ c.loop-b.invariant c.in-Some.ensures.steps c.requires.1)

pub overflow_add-n : goal.overflow_add-n
overflow_add-n c =
    omega (arith, spelt_fits _ _ _ _ _ _ _ c.loop-b.invariant c.in-Some.ensures.steps c.requires.1, c.from.type_inv)

pub loop-b-preserved : goal.loop-b-preserved
loop-b-preserved c =
    rw c.from.ensures (one_spelt _ _ _ _ _ _ _ c.loop-b.invariant c.in-Some.ensures.steps (λ j. omega (arith, c.type_inv.file j)))

pub returns : goal.returns
returns c =
    all_spelt _ _ _ _ _ c.loop-b.invariant c.in-None.ensures.steps.0
