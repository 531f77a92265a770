-- `calls::join_keys` meets its contract: the arguments, the call, and its answer. Assumes nothing.
use Prim.Native.Nat.{◌+◌, ℕ}
use Rattle.calls.proofs.Answers.{answer-bytes, answer-counts, answered-inside}
use Rattle.calls.proofs.Input.{out_is, room-long, unlent}
use Rattle.calls.proofs.Texts.{join-keys-text, named}
use mathlib.Core.Path.{ap, sym}
use native.Mathlib.Omega.{arith}
use Rattle.calls.proofs.join_keys.Goals as goal

pub slice_bounds-join_keys-end : goal.slice_bounds-join_keys-end
slice_bounds-join_keys-end c =
    sym (room-long c.room_at-room.result c.room_at-room.ensures.1)

pub slice_bounds-out-end-2 : goal.slice_bounds-out-end-2
slice_bounds-out-end-2 c =
    (answer-counts c.join_keys-a.ensures.answer_is (answered-inside _ _) (unlent c.room_at-room.result)).0

pub slice_bounds-write_answer-end-2 : goal.slice_bounds-write_answer-end-2
slice_bounds-write_answer-end-2 c =
    (answer-counts c.join_keys-a.ensures.answer_is (answered-inside _ _) (unlent c.room_at-room.result)).1

pub write_answer-requires : goal.write_answer-requires
write_answer-requires c =
    (omega arith, answer-bytes c.join_keys-a.ensures.answer_is (answered-inside _ _) (unlent c.room_at-room.result) c.room_at-room.result c.room_at-room.ensures.1 c.join_keys-a.auto.out)

pub returns : goal.returns
returns c = record { wrote = named (join-keys-text c.args.input.now _ c.file_at-predicate.ensures (out_is c.args.input.now (ap (λ (i : ℕ). 5 + i) c.word_at.ensures.0) c.room_at-room.ensures.0) c.join_keys-a.ensures.answer_is) c.write_answer.ensures.wrote; counts = c.write_answer.ensures.counts }
