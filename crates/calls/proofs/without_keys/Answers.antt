-- `calls::without_keys` meets its contract: the arguments, the call, and its answer. Assumes nothing.
use Prim.Native.Nat.{◌+◌, ℕ}
use Rattle.calls.proofs.Answers.{answer-bytes, answer-counts, answered-inside}
use Rattle.calls.proofs.Input.{out_is, room-long, unlent}
use Rattle.calls.proofs.Texts.{named, without-keys-text}
use mathlib.Core.Path.{ap, sym}
use native.Mathlib.Omega.{arith}
use Rattle.calls.proofs.without_keys.Goals as goal

pub slice_bounds-without_keys-end : goal.slice_bounds-without_keys-end
slice_bounds-without_keys-end c =
    sym (room-long c.room_at-room.result c.room_at-room.ensures.1)

pub slice_bounds-out-end-2 : goal.slice_bounds-out-end-2
slice_bounds-out-end-2 c =
    (answer-counts c.without_keys-a.ensures.answer_is (answered-inside _ _) (unlent c.room_at-room.result)).0

pub slice_bounds-write_answer-end-2 : goal.slice_bounds-write_answer-end-2
slice_bounds-write_answer-end-2 c =
    (answer-counts c.without_keys-a.ensures.answer_is (answered-inside _ _) (unlent c.room_at-room.result)).1

pub write_answer-requires : goal.write_answer-requires
write_answer-requires c =
    (omega arith, answer-bytes c.without_keys-a.ensures.answer_is (answered-inside _ _) (unlent c.room_at-room.result) c.room_at-room.result c.room_at-room.ensures.1 c.without_keys-a.auto.out)

pub returns : goal.returns
returns c =
    let at : ℕ = 5 + c.word_at-at.result in record { wrote = named (without-keys-text c.args.input.now _ c.file_at-predicate.ensures (ap (λ (i : ℕ). 5 + i) c.word_at-at.ensures.0) c.file_at-keys.ensures (out_is c.args.input.now (ap (λ (i : ℕ). at + 4 + i) c.word_at.ensures.0) c.room_at-room.ensures.0) c.without_keys-a.ensures.answer_is) c.write_answer.ensures.wrote; counts = c.write_answer.ensures.counts }
