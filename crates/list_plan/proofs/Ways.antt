-- A file's listing by what was found of the file: each way through `list_over`. Assumes nothing.
use mathlib.Core.Path.{◌≡◌, refl, sym, ap, ◌∙◌}
use mathlib.Core.Bool.{false}
use mathlib.Core.List.{List}
use Prim.Native.Nat.{ℕ, ◌^◌, ◌<◌}
use native.Mathlib.Omega.{arith}
use lib.ListN.{length}
use Rattle.rules.specs.Answer.{refusal, written}
use Rattle.rules.specs.Check.{check_file}
use Rattle.std.specs.Prelude.{Err}
use Rattle.refusals.specs.Codes.{code_of}
use Rattle.refusals.specs.declared.Reason.{Reason}
use Rattle.refusals.specs.declared.Reason.TheVariants as reason
use Rattle.refusals.specs.declared.Refusal.{Refusal}
use Rattle.answers.specs.Answers.{AnswerIs, Delivers}
use Rattle.answers.specs.declared.Answer.{Answer}
use Rattle.plan_text.specs.Answers as text
use Rattle.plan_text.specs.Answers.{delivered, list_answer, list_of}
use Rattle.plan_text.specs.Listing.{listing}
use Rattle.reader.proofs.Files.{file_mark, marked-none}
use Rattle.versions.specs.declared.Version.{Version}
use Rattle.acceptance.specs.Readings.{NoneBelow, PlanIn, ReadingIs, root_plan}
use Rattle.text_plan.specs.Heads.{Walks}
use Rattle.text_answer.proofs.Files.{list-accepted, list_counts, list-refused, some-node}

some-code : (r : Reason) → 0 < code_of r
some-code reason.Setting = omega arith
some-code reason.Mark = omega arith
some-code reason.Cut = omega arith
some-code reason.Value = omega arith
some-code reason.Many = omega arith
some-code reason.Tail = omega arith
some-code reason.Clash = omega arith
some-code reason.Unknown = omega arith
some-code reason.Width = omega arith
some-code reason.Fields = omega arith
some-code reason.Request = omega arith
some-code reason.Large = omega arith
some-code reason.Room = omega arith
some-code reason.Ambiguous = omega arith
some-code reason.Pairs = omega arith

-- the file is refused
pub refused : {file cells rows nodes fields widths keys : List ℕ} {e : Refusal} (out : List ℕ) → ReadingIs file cells rows nodes fields widths keys (Err e)
    → Delivers (list_answer file out) (Err e) out
unfolding refusal
refused {file} {e = e} out i =
    rw (list-refused file out (omega (arith, some-code e.reason, i.says.code_is)))
    (record { code_is = i.says.code_is; length_is = refl; place_is = i.says.place_is; out_is = refl })

-- it has no version's mark
pub unmarked : (file out : List ℕ) (n : ℕ) → NoneBelow file n → 2 < n → (e : Refusal) → e.reason ≡ reason.Mark → e.place ≡ 0 → Delivers (list_answer file out) (Err e) out
unfolding list_answer list_of text.accepted delivered refusal
unmarked file out n o h e r p =
    let no = marked-none file {a = false} refl (sym (o 1 (omega arith) (omega arith))) {b = false} refl (sym (o 2 (omega arith) (omega arith))) in
    rw (file_mark file no) (record { code_is = ap code_of r; length_is = refl; place_is = p; out_is = refl })

module _ {file cells rows nodes fields widths keys : List ℕ} {version : Version} {start count : ℕ} (p : PlanIn file cells rows nodes fields widths keys version start count) where
  has-node : 0 < count
  has-node = omega (arith, p.whole, some-node (root_plan cells rows nodes))

  -- its plan can be walked, and its listing counted
  pub walks : Walks cells rows nodes 0
  walks = record { C = p.C; count = count; tree = p.tree; below = has-node }

  pub counts : length (listing (root_plan cells rows nodes)) < 2 ^ 64
  counts = list_counts p.C cells rows nodes count p.tables p.tree has-node p.whole

  -- what is written is the file's listing
  pub accepted : {a : Answer} {out' : List ℕ} (out : List ℕ) → AnswerIs (written (listing (root_plan cells rows nodes)) out) a out' → AnswerIs (list_answer file out) a out'
  accepted out w = rw (list-accepted file out p.C (root_plan cells rows nodes) _ _ _ p.reads p.fine) w
