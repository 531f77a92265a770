-- The ways that a walked plan can end: refused as too large or for want of room; or written. Assumes nothing.
use mathlib.Core.Path.{◌≡◌, refl, sym, ap, subst, ◌∙◌}
use mathlib.Core.Logic.{inl, inr}
use mathlib.Core.Bool.{Bool, true, false, ◌||◌}
use mathlib.Core.List.{List, ◌++◌}
use Prim.Native.Nat.{ℕ, ◌+◌, ◌<◌, ◌≤◌}
use native.Mathlib.Omega.{arith}
use lib.Dec.{ltb}
use lib.ListN.{length, length-append, length-take, take}
use borrow.Author.Tests.{le-ltb, lt-ltb}
use Rattle.cpl.specs.Bytes.{bytes_of, plan_bytes}
use Rattle.cpl.specs.Codes.{LARGE}
use Rattle.cpl.specs.Exprs.{plan_nodes, plan_tags}
use Rattle.cpl.specs.Limits.{max_nodes, max_tags}
use Rattle.cpl.specs.Plan.{Catalogue, Plan, Source}
use Rattle.cpl.specs.Read.{pick}
use Rattle.rules.specs.Answer.{deliver, finish, large, narrowed, refusal, refused, written}
use Rattle.rules.specs.Rewrite as rules
use Rattle.rules.specs.Success.{source_of}
use Rattle.versions.specs.Versions.{version_of}
use Rattle.versions.specs.declared.Version.{Version}
use Rattle.tree.specs.Tree.{lent}
use Rattle.result.specs.Records.{results}
use Rattle.result.specs.Result.{result_at}
use Rattle.writer_parts.specs.Wrote.{Wrote, over}
use Rattle.std.proofs.Common.{Ok, Err}
use Rattle.arena.specs.declared.Full.{Full}
use Rattle.walk_steps.specs.declared.Walked.{Walked}
use Rattle.optimize_projections.specs.Walk.{TooLarge}
use Rattle.writer.specs.Plans.{Writes}
use Rattle.refusals.specs.Codes.{code_of}
use Rattle.refusals.specs.declared.Reason.{Reason}
use Rattle.refusals.specs.declared.Refusal.{Refusal}
use Rattle.answers.specs.Answers.{AnswerIs, answer_of}
use Rattle.answers.specs.declared.Answer.{Answer}
use Rattle.answers.proofs.Ends as ends
use Rattle.answers.proofs.Ends.{Refuses, refuses}
use Rattle.delivery.specs.Delivery.{Rewritten, delivered, nothing_used}

-- a refusal is answered by the number of its reason, and its place
pub refuses_by : {e : Refusal} {reason : Reason} {place : ℕ} → (e.reason ≡ reason) × (e.place ≡ place) → Refuses (answer_of (Err e)) (code_of reason) place
refuses_by h = (ap code_of h.0, refl, h.1)

-- ── a plan's tags and bytes ─────────────────────────────────────────────────────────────────

-- the first `start` bytes of the file, and a plan's
pub whole_length : {start b : ℕ} (file bytes : List ℕ) → start ≤ length file → b ≡ length bytes → start + b ≡ length (take start file ++ bytes)
whole_length {start} file bytes l e = omega (arith, length-append (take start file) bytes, length-take start file)

-- "LARGE: … the result breaks the node or tag limit"
pub many_tags : {r : Answer} {tags : ℕ} (bytes out : List ℕ) → 4096 < tags → Refuses r 12 0 → AnswerIs (delivered tags bytes out) r out
unfolding delivered
many_tags {tags = tags} bytes out l h = rw (lt-ltb max_tags tags l) (refuses out h)

-- "ROOM: output shorter than the result; length needed"
pub no_room : {r : Answer} {tags n : ℕ} (bytes out : List ℕ) → tags ≤ 4096 → n ≡ length bytes → length out < n → Refuses r 13 n
    → AnswerIs (delivered tags bytes out) r out
unfolding delivered
no_room {tags = tags} bytes out l e m h = rw (le-ltb max_tags tags l) (ends.no_room bytes out e m h)

-- "success is code 0 with the bytes written and place 0"
pub written_out : {r : Answer} {tags n : ℕ} {out' : List ℕ} (bytes out : List ℕ) → tags ≤ 4096 → n ≡ length bytes → n ≤ length out
    → (r.code ≡ 0) × (r.place ≡ 0) → Wrote bytes out r.length out' → AnswerIs (delivered tags bytes out) r out'
unfolding delivered over
written_out {tags = tags} bytes out l e m h w =
    rw (le-ltb max_tags tags l) (ends.written_out bytes out (omega arith) (h.0, w.long, h.1) w.ends)

-- ── a rewritten plan ────────────────────────────────────────────────────────────────────────

or_right : (b c : Bool) → b ≡ true → (c || b) ≡ true
or_right b true e = refl
or_right b false e = e

-- the walk ended early
is-large : (w : rules.Walked) → TooLarge nothing_used w.overlong (plan_nodes w.plan) (plan_tags w.plan) → large w ≡ true
unfolding large
is-large w (inl e) = rw e
is-large w (inr (inl l)) =
    or_right (ltb max_nodes (plan_nodes w.plan) || ltb max_tags (plan_tags w.plan)) w.overlong
    (rw (lt-ltb max_nodes (plan_nodes w.plan) (omega arith)) refl)
is-large w (inr (inr l)) =
    or_right (ltb max_nodes (plan_nodes w.plan) || ltb max_tags (plan_tags w.plan)) w.overlong
    (or_right (ltb max_tags (plan_tags w.plan)) (ltb max_nodes (plan_nodes w.plan)) (lt-ltb max_tags (plan_tags w.plan) (omega arith)))

large-answer : {r : Answer} (C : Catalogue) (w : rules.Walked) (out : List ℕ) → TooLarge nothing_used w.overlong (plan_nodes w.plan) (plan_tags w.plan)
    → Refuses r 12 0 → AnswerIs (deliver (finish C w) out) r out
unfolding finish deliver
large-answer C w out l h = rw (is-large w l) (refuses out h)

-- the walk ended, and the plan has few nodes: its tags decide
tags-decide : (w : rules.Walked) → w.overlong ≡ false → plan_nodes w.plan ≤ max_nodes → large w ≡ ltb max_tags (plan_tags w.plan)
unfolding large
tags-decide w e l = rw (e, le-ltb max_nodes (plan_nodes w.plan) l) refl

pick-deliver : (b : Bool) (s : Source) (out : List ℕ)
    → deliver (pick b (refused LARGE 0) (narrowed s)) out ≡ pick b (refusal LARGE 0 out) (written (bytes_of s) out)
unfolding deliver
pick-deliver true s out = refl
pick-deliver false s out = refl

done-answer : (C : Catalogue) (w : rules.Walked) (out : List ℕ) → w.overlong ≡ false → plan_nodes w.plan ≤ max_nodes
    → deliver (finish C w) out ≡ delivered (plan_tags w.plan) (bytes_of (source_of C w.plan)) out
unfolding finish delivered
done-answer C w out e l =
    ap (λ b. deliver (pick b (refused LARGE 0) (narrowed (source_of C w.plan))) out) (tags-decide w e l)
    ∙ pick-deliver (ltb max_tags (plan_tags w.plan)) (source_of C w.plan) out

module _ {file : List ℕ} {version : Version} {start : ℕ} {cells rows nodes fields widths records items icells : List ℕ} where
  pub large-ends : {r : Answer} {g : Full} (out : List ℕ) → (x : Rewritten version file start cells rows nodes fields widths records items icells (Err g))
      → Refuses r 12 0 → AnswerIs (deliver (finish x.standing.C x.walked) out) r out
  large-ends out x h = large-answer x.standing.C x.walked out x.ends h

  module _ {w : Walked} (x : Rewritten version file start cells rows nodes fields widths records items icells (Ok w)) where
    abbrev plan : Plan
    plan = result_at x.standing.C (lent cells rows nodes) (results records items icells) w.root

    pub few_nodes : plan_nodes x.walked.plan ≤ max_nodes
    few_nodes = let s = x.ends.0 in omega (arith, s.nodes, s.ready.wf.inside, s.grown.records.long, x.room)

    -- the writer can write the plan
    abbrev pub writes : Writes version cells rows nodes fields widths records items icells w.root
    writes = let s = x.ends.0 in record {
      standing = x.standing;
      version_is = x.version_is;
      used = w.used.records;
      m = w.used.rows;
      n = w.used.cells;
      wf = s.ready.wf;
      below = s.below;
      small = omega (arith, ap plan_nodes s.plan, few_nodes);
    }

    pub done-ends : {r : Answer} {out' : List ℕ} (out : List ℕ) → AnswerIs (delivered (plan_tags plan) (take start file ++ plan_bytes (version_of version) plan) out) r out'
        → AnswerIs (deliver (finish x.standing.C x.walked) out) r out'
    done-ends {r} {out'} out h =
        let same = x.ends.0.plan in
        subst (λ z. AnswerIs z r out')
        (ap (λ bs. delivered (plan_tags plan) bs out) (ap (λ v. take start file ++ plan_bytes v plan) (sym x.version_is) ∙ x.heads.bytes_are plan)
        ∙ (ap (λ p. delivered (plan_tags p) (bytes_of (source_of x.standing.C p)) out) same
        ∙ sym (done-answer x.standing.C x.walked out x.ends.2 few_nodes))) h
