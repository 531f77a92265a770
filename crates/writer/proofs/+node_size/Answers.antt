-- The proof of the cycle of calls {node_size}. The measure is the record's number. Each way through is a law of `Plans`. Assumes nothing.
use Rattle.writer.proofs.Plans.{above_length, alone_length, countable, first-input, inside, one-counts, second-input, shaped, splits, taken, two-counts, two_sum}
use mathlib.Core.Path.{◌∙◌, sym}
use native.Mathlib.Omega.{arith}
use Rattle.writer.proofs.+node_size.Goals as goal

pub shape_at-shape-requires : goal.shape_at-shape-requires
shape_at-shape-requires t c = record { record_n_in_bounds = inside c.requires; taken = taken c.requires (omega arith) }

pub head_size-head-requires : goal.head_size-head-requires
head_size-head-requires t c =
    shaped c.requires c.shape_at-shape.ensures

pub kids-requires : goal.kids-requires
kids-requires t c = record { record_n_in_bounds = inside c.requires; taken = taken c.requires (omega arith) }

pub returns-in_default : goal.returns-in_default
returns-in_default t c =
    λ w.
    let o = splits w (sym c.in_default.is ∙ c.kids.ensures) in
    omega (arith, alone_length o, o.tags_are, c.head_size-head.ensures (shaped w c.shape_at-shape.ensures))

pub node_size-a-requires : goal.node_size-a-requires
node_size-a-requires t c =
    let o = splits c.requires (sym c.in-Some.is ∙ c.kids.ensures) in
    (omega (arith, c.decreases, o.first_below), (first-input c.requires o))

pub add-sum-requires : goal.add-sum-requires
add-sum-requires t c =
    let o = splits c.requires (sym c.in-Some.is ∙ c.kids.ensures) in
    omega (arith, countable c.requires, above_length o, o.tags_are, c.head_size-head.ensures (shaped c.requires c.shape_at-shape.ensures), c.node_size-a.ensures (first-input c.requires o))

pub returns-in_default-second : goal.returns-in_default-second
returns-in_default-second t c =
    λ w.
    let o = splits w (sym c.in-Some.is ∙ c.kids.ensures) in
    one-counts o (c.head_size-head.ensures (shaped w c.shape_at-shape.ensures)) (c.node_size-a.ensures (first-input w o)) c.add-sum.ensures c.in_default-second.is

pub node_size-b-requires : goal.node_size-b-requires
node_size-b-requires t c =
    let o = splits c.requires (sym c.in-Some.is ∙ c.kids.ensures) in
    let e = c.in-Some-second.is in
    (omega (arith, c.decreases, rw e at o.second_below), (second-input c.requires e o))

pub add-requires : goal.add-requires
add-requires t c =
    let o = splits c.requires (sym c.in-Some.is ∙ c.kids.ensures) in
    let e = c.in-Some-second.is in
    let s = two_sum o (c.head_size-head.ensures (shaped c.requires c.shape_at-shape.ensures)) (c.node_size-a.ensures (first-input c.requires o)) c.add-sum.ensures e (c.node_size-b.ensures (second-input c.requires e o)) in
    omega (arith, countable c.requires, s.bytes_are, s.tags_are)

pub returns : goal.returns
returns t c =
    λ w.
    let o = splits w (sym c.in-Some.is ∙ c.kids.ensures) in
    let e = c.in-Some-second.is in
    let h = c.head_size-head.ensures (shaped w c.shape_at-shape.ensures) in
    two-counts o h (c.node_size-a.ensures (first-input w o)) c.add-sum.ensures e (c.node_size-b.ensures (second-input w e o)) c.add.ensures
