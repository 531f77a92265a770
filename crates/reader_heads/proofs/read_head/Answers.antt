-- `read_head` meets its contract. Assumes nothing.
use Rattle.reader_heads.proofs.Heads.{head-version, union-took, distinct-took, head-value}
use Rattle.reader_heads.specs.Heads.{in_version}
use Rattle.versions.specs.Versions.{version_of}
use Rattle.reader_heads.proofs.read_head.Goals as goal

pub returns-in-1 : goal.returns-in-1
returns-in-1 c =
    λ C same wide n. head-version (version_of c.args.version) C same _ _ _ c.args.s _ _ _ _ n c.read_projection.result (rw c.in-1.is (c.read_projection.ensures C _ n))

pub returns-in-2 : goal.returns-in-2
returns-in-2 c =
    λ C same wide n. head-version (version_of c.args.version) C same _ _ _ c.args.s _ _ _ _ n c.read_filter.result (rw c.in-2.is (c.read_filter.ensures (in_version (version_of c.args.version) C) _ _ n))

pub returns-in-3 : goal.returns-in-3
returns-in-3 c =
    λ C same wide n. head-version (version_of c.args.version) C same _ _ _ c.args.s _ _ _ _ n c.read_sort.result (rw c.in-3.is (c.read_sort.ensures (in_version (version_of c.args.version) C) _ n))

pub returns-in-4 : goal.returns-in-4
returns-in-4 c =
    λ C same wide n. head-version (version_of c.args.version) C same _ _ _ c.args.s _ _ _ _ n c.read_limit.result (rw c.in-4.is (c.read_limit.ensures (in_version (version_of c.args.version) C) _ _ _ n))

pub returns-in-5 : goal.returns-in-5
returns-in-5 c =
    λ C same wide n. head-version (version_of c.args.version) C same _ _ _ c.args.s _ _ _ _ n c.read_aggregate.result (rw c.in-5.is (c.read_aggregate.ensures C _ n))

pub returns-in-6 : goal.returns-in-6
returns-in-6 c =
    λ C same wide n. head-version (version_of c.args.version) C same _ _ _ c.args.s _ _ _ _ n c.read_window.result (rw c.in-6.is (c.read_window.ensures C _ n))

pub returns-in-7 : goal.returns-in-7
returns-in-7 c =
    λ C same wide n. head-version (version_of c.args.version) C same _ _ _ c.args.s _ _ _ _ n c.read_alias.result (rw c.in-7.is (c.read_alias.ensures (in_version (version_of c.args.version) C) _ _ _ n))

pub returns-in-8 : goal.returns-in-8
returns-in-8 c =
    λ C same wide n. rw c.in-8.is (_, union-took C _ _ _ c.requires.made_le_tags.1 _ _ n (version_of c.args.version))

pub returns-in-9 : goal.returns-in-9
returns-in-9 c =
    λ C same wide n. rw c.in-9.is (_, distinct-took C _ _ _ c.requires.made_le_tags.1 _ _ n (version_of c.args.version))

pub returns-in-10 : goal.returns-in-10
returns-in-10 c =
    λ C same wide n. head-version (version_of c.args.version) C same _ _ _ c.args.s _ _ _ _ n c.read_join.result (rw c.in-10.is (c.read_join.ensures (in_version (version_of c.args.version) C) _ n))

pub returns-in-11 : goal.returns-in-11
returns-in-11 c =
    λ C same wide n. head-version (version_of c.args.version) C same _ _ _ c.args.s _ _ _ _ n c.read_scan.result (rw c.in-11.is (c.read_scan.ensures C wide _ n))

pub returns-in-12 : goal.returns-in-12
returns-in-12 c =
    λ C same wide n. head-version (version_of c.args.version) C same _ _ _ c.args.s _ _ _ _ n c.read_empty.result (rw c.in-12.is (c.read_empty.ensures C _ n))

pub returns-in_default : goal.returns-in_default
returns-in_default c =
    λ C same wide n. rw (c.new.ensures.0, c.new.ensures.1) (head-value C _ _ _ _ _ n c.in_default.in_default-own.rest.0.0.0.0.0.0.0.0.0.0.0.1 c.in_default.in_default-own.rest.0.0.0.0.0.0.0.0.0.0.1 c.in_default.in_default-own.rest.0.0.0.0.0.0.0.0.0.1 c.in_default.in_default-own.rest.0.0.0.0.0.0.0.0.1 c.in_default.in_default-own.rest.0.0.0.0.0.0.0.1 c.in_default.in_default-own.rest.0.0.0.0.0.0.1 c.in_default.in_default-own.rest.0.0.0.0.0.1 c.in_default.in_default-own.rest.0.0.0.0.1 c.in_default.in_default-own.rest.0.0.0.1 c.in_default.in_default-own.rest.0.0.1 c.in_default.in_default-own.rest.0.1 c.in_default.in_default-own.rest.1)
