-- The proof of the cycle of calls {write_node}. The measure is the record's number. Each way through is a law of `Plans`. Assumes nothing.
use Rattle.writer.proofs.Plans.{above_length, alone_wrote, countable, first-input, head_le, inside, one-wrote, room_after, second-input, shaped, splits, taken, two-length, two-wrote}
use mathlib.Core.Path.{◌∙◌, refl, sym}
use native.Mathlib.Omega.{arith}
use Rattle.writer.proofs.+write_node.Goals as goal

pub shape_at-shape-requires : goal.shape_at-shape-requires
shape_at-shape-requires t c = record { record_n_in_bounds = inside c.requires.0; taken = taken c.requires.0 (omega arith) }

pub write_head-a-requires : goal.write_head-a-requires
write_head-a-requires t c =
    (shaped c.requires.0 c.shape_at-shape.ensures, omega (arith, c.requires.1, head_le c.requires.0))

pub kids-requires : goal.kids-requires
kids-requires t c = record { record_n_in_bounds = inside c.requires.0; taken = taken c.requires.0 (omega arith) }

pub returns-in_default : goal.returns-in_default
returns-in_default t c =
    λ w. alone_wrote (splits w (sym c.in_default.is ∙ c.kids.ensures)) (c.write_head-a.ensures (shaped w c.shape_at-shape.ensures))

pub slice_bounds-write_node-count : goal.slice_bounds-write_node-count
slice_bounds-write_node-count t c =
    let w = c.requires.0 in
    let o = splits w (sym c.in-Some.is ∙ c.kids.ensures) in
    let l = (c.write_head-a.ensures (shaped w c.shape_at-shape.ensures)).long in
    omega (arith, c.requires.1, above_length o, l, c.write_head-a.auto)

pub slice_bounds-write_node-start : goal.slice_bounds-write_node-start
slice_bounds-write_node-start t c =
    let w = c.requires.0 in
    let o = splits w (sym c.in-Some.is ∙ c.kids.ensures) in
    let l = (c.write_head-a.ensures (shaped w c.shape_at-shape.ensures)).long in
    omega (arith, c.requires.1, above_length o, l, c.write_head-a.auto)

pub write_node-m-requires : goal.write_node-m-requires
write_node-m-requires t c =
    let w = c.requires.0 in
    let o = splits w (sym c.in-Some.is ∙ c.kids.ensures) in
    let l = (c.write_head-a.ensures (shaped w c.shape_at-shape.ensures)).long in
    (omega (arith, c.decreases, o.first_below), ((first-input w o), omega (arith, c.requires.1, above_length o, l, c.write_head-a.auto)))

pub overflow_add-b : goal.overflow_add-b
overflow_add-b t c =
    let w = c.requires.0 in
    let o = splits w (sym c.in-Some.is ∙ c.kids.ensures) in
    let l = (c.write_head-a.ensures (shaped w c.shape_at-shape.ensures)).long in
    omega (arith, c.requires.1, above_length o, l, (c.write_node-m.ensures (first-input w o)).long, countable w)

pub returns-in_default-second : goal.returns-in_default-second
returns-in_default-second t c =
    λ w.
    let o = splits w (sym c.in-Some.is ∙ c.kids.ensures) in
    one-wrote c.in_default-second.is o (c.write_head-a.ensures (shaped w c.shape_at-shape.ensures)) (c.write_node-m.ensures (first-input w o))

pub slice_bounds-write_node-count-2 : goal.slice_bounds-write_node-count-2
slice_bounds-write_node-count-2 t c =
    let w = c.requires.0 in
    let o = splits w (sym c.in-Some.is ∙ c.kids.ensures) in
    let e = c.in-Some-second.is in
    let l = (c.write_head-a.ensures (shaped w c.shape_at-shape.ensures)).long in
    let m = (c.write_node-m.ensures (first-input w o)).long in
    omega (arith, c.requires.1, two-length e o, l, m, c.write_head-a.auto, c.write_node-m.auto)

pub slice_bounds-write_node-start-2 : goal.slice_bounds-write_node-start-2
slice_bounds-write_node-start-2 t c =
    let w = c.requires.0 in
    let o = splits w (sym c.in-Some.is ∙ c.kids.ensures) in
    let e = c.in-Some-second.is in
    let l = (c.write_head-a.ensures (shaped w c.shape_at-shape.ensures)).long in
    let m = (c.write_node-m.ensures (first-input w o)).long in
    omega (arith, c.requires.1, two-length e o, l, m, c.write_head-a.auto, c.write_node-m.auto)

pub write_node-n-requires : goal.write_node-n-requires
write_node-n-requires t c =
    let w = c.requires.0 in
    let o = splits w (sym c.in-Some.is ∙ c.kids.ensures) in
    let e = c.in-Some-second.is in
    let l = (c.write_head-a.ensures (shaped w c.shape_at-shape.ensures)).long in
    let m = (c.write_node-m.ensures (first-input w o)).long in (
      omega (arith, c.decreases, rw e at o.second_below),
      (
        (second-input w e o),
        room_after c.write_head-a.new.out c.write_node-m.new.out c.write_head-a.result c.write_node-m.result _
            c.write_head-a.auto.out c.write_node-m.auto.out (omega (arith, c.requires.1, two-length e o, l, m)),
      ),
    )

pub overflow_add-result : goal.overflow_add-result
overflow_add-result t c =
    let w = c.requires.0 in
    let o = splits w (sym c.in-Some.is ∙ c.kids.ensures) in
    let e = c.in-Some-second.is in
    let l = (c.write_head-a.ensures (shaped w c.shape_at-shape.ensures)).long in
    let m = (c.write_node-m.ensures (first-input w o)).long in
    omega (arith, c.requires.1, two-length e o, l, m, (c.write_node-n.ensures (second-input w e o)).long, countable w)

pub returns : goal.returns
returns t c =
    λ w.
    let o = splits w (sym c.in-Some.is ∙ c.kids.ensures) in
    let e = c.in-Some-second.is in
    two-wrote e o (c.write_head-a.ensures (shaped w c.shape_at-shape.ensures)) (c.write_node-m.ensures (first-input w o)) refl (c.write_node-n.ensures (second-input w e o))
