-- `calls::prune` meets its contract: the arguments, the call, and its answer. Assumes nothing.
use Prim.Native.Nat.{◌*◌, ◌+◌, ℕ}
use Rattle.calls.proofs.Answers.{answer-bytes, answer-counts, reply-inside}
use Rattle.calls.proofs.Input.{out_is, room-long, unlent}
use Rattle.calls.proofs.Texts.{named, prune_text_lem}
use mathlib.Core.Path.{ap, sym}
use native.Mathlib.Omega.{arith}
use Rattle.calls.proofs.prune.Goals as goal

pub slice_bounds-prune-end : goal.slice_bounds-prune-end
slice_bounds-prune-end c =
    sym (room-long c.room_at-room.result c.room_at-room.ensures.1)

pub slice_bounds-out-end-2 : goal.slice_bounds-out-end-2
slice_bounds-out-end-2 c =
    (answer-counts c.prune-a.ensures.answer_is (reply-inside _ _ _ _ _) (unlent c.room_at-room.result)).0

pub slice_bounds-write_answer-end-2 : goal.slice_bounds-write_answer-end-2
slice_bounds-write_answer-end-2 c =
    (answer-counts c.prune-a.ensures.answer_is (reply-inside _ _ _ _ _) (unlent c.room_at-room.result)).1

pub write_answer-requires : goal.write_answer-requires
write_answer-requires c =
    (omega arith, answer-bytes c.prune-a.ensures.answer_is (reply-inside _ _ _ _ _) (unlent c.room_at-room.result) c.room_at-room.result c.room_at-room.ensures.1 c.prune-a.auto.out)

pub returns : goal.returns
returns c =
    let at : ℕ = 8 + c.word_at-at.result in record { wrote = named (prune_text_lem c.args.input.now _ c.byte-mode.ensures c.half_at-mask.ensures.0 c.file_at-file.ensures (ap (λ (i : ℕ). 8 + i) c.word_at-at.ensures.0) c.read_request-request.ensures (out_is c.args.input.now (ap (λ (i : ℕ). at + 4 + 2 * i) c.word_at.ensures.0) c.room_at-room.ensures.0) c.prune-a.ensures.answer_is) c.write_answer.ensures.wrote; counts = c.write_answer.ensures.counts }
