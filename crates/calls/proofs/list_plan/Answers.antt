-- `calls::list_plan` meets its contract: the arguments, the call, and its answer. Assumes nothing.
use Prim.Native.Nat.{◌+◌, ℕ}
use Rattle.calls.proofs.Answers.{answer-bytes, answer-counts, list_inside}
use Rattle.calls.proofs.Input.{out_is, room-long, unlent}
use Rattle.calls.proofs.Texts.{list-plan-text, named}
use mathlib.Core.Path.{ap, sym}
use native.Mathlib.Omega.{arith}
use Rattle.calls.proofs.list_plan.Goals as goal

pub slice_bounds-list_plan-end : goal.slice_bounds-list_plan-end
slice_bounds-list_plan-end c =
    sym (room-long c.room_at-room.result c.room_at-room.ensures.1)

pub slice_bounds-out-end-2 : goal.slice_bounds-out-end-2
slice_bounds-out-end-2 c =
    (answer-counts c.list_plan-a.ensures (list_inside _ _) (unlent c.room_at-room.result)).0

pub slice_bounds-write_answer-end-2 : goal.slice_bounds-write_answer-end-2
slice_bounds-write_answer-end-2 c =
    (answer-counts c.list_plan-a.ensures (list_inside _ _) (unlent c.room_at-room.result)).1

pub write_answer-requires : goal.write_answer-requires
write_answer-requires c =
    (omega arith, answer-bytes c.list_plan-a.ensures (list_inside _ _) (unlent c.room_at-room.result) c.room_at-room.result c.room_at-room.ensures.1 c.list_plan-a.auto.out)

pub returns : goal.returns
returns c = record { wrote = named (list-plan-text c.args.input.now _ c.file_at-file.ensures (out_is c.args.input.now (ap (λ (i : ℕ). 5 + i) c.word_at.ensures.0) c.room_at-room.ensures.0) c.list_plan-a.ensures) c.write_answer.ensures.wrote; counts = c.write_answer.ensures.counts }
