-- The ways that the listing of a file can end: refused, or listed. Assumes nothing.
use mathlib.Core.Path.{◌≡◌, refl, sym, ap, ap₂, ◌∙◌}
use mathlib.Core.List.{List, ◌++◌}
use mathlib.Core.Option.{Option, none}
use Prim.Native.Nat.{ℕ, ◌<◌, ◌≤◌}
use native.Mathlib.Omega.{arith}
use Rattle.std.specs.Prelude.{Err, Ok}
use Rattle.refusals.specs.Codes.{code_of}
use Rattle.refusals.specs.declared.Reason.{Reason}
use Rattle.refusals.specs.declared.Reason.TheVariants as reason
use Rattle.refusals.specs.declared.Refusal.{Refusal}
use Rattle.cpl.specs.Accept.{Fault, check}
use Rattle.cpl.specs.Plan.{Catalogue, Plan, Source}
use Rattle.cpl.specs.Read.{Res, ok}
use Rattle.cpl.specs.ReadPlan.{read_file}
use Rattle.rules.specs.Check.{Finding, accepted, faulty, finding_of, finding, numbers_of, check_file}
use Rattle.rules.specs.Success.{source_of}
use Rattle.acceptance.specs.Readings.{ReadingIs}
use Rattle.acceptance.specs.declared.Reading.{Reading}
use Rattle.writer_parts.specs.Wrote.{Wrote}
use Rattle.writer_parts.proofs.Over.{so}
use Rattle.listing.specs.Text.{count_text, finding_text, list_text, plan_text, refused_text}
use Rattle.listing.specs.Lines.{line_at, span}
use Rattle.listing.proofs.Nodes.{stored_lines}

pub fine : (file : List ℕ) (C : Catalogue) (p : Plan) (next tags nodes : ℕ) → read_file file ≡ ok (source_of C p) next tags nodes → check C p 0 ≡ none
    → list_text file ≡ plan_text C p
unfolding list_text finding_text finding
fine file C p next tags nodes e f = ap (λ (r : Res Source). finding_text (finding r)) e ∙ ap (λ (g : Option Fault). finding_text (finding_of C p g)) f

refused-text : (f : Finding) → 0 < (numbers_of f).code → finding_text f ≡ refused_text (numbers_of f).code (numbers_of f).place
unfolding numbers_of finding_text
refused-text (accepted C p) l = absurd (omega arith)
refused-text (faulty code place) l = refl

some-code : (r : Reason) → 0 < code_of r
some-code reason.Setting = omega arith
some-code reason.Mark = omega arith
some-code reason.Cut = omega arith
some-code reason.Value = omega arith
some-code reason.Many = omega arith
some-code reason.Tail = omega arith
some-code reason.Clash = omega arith
some-code reason.Unknown = omega arith
some-code reason.Width = omega arith
some-code reason.Fields = omega arith
some-code reason.Request = omega arith
some-code reason.Large = omega arith
some-code reason.Room = omega arith
some-code reason.Ambiguous = omega arith
some-code reason.Pairs = omega arith

module _ {xs ys : List ℕ} {r : ℕ} {file cells rows nodes fields widths keys : List ℕ} where
  pub unlisted : {e : Refusal} {code : ℕ} → ReadingIs file cells rows nodes fields widths keys (Err e) → code ≡ code_of e.reason → Wrote (refused_text code e.place) xs r ys
      → Wrote (list_text file) xs r ys
  unfolding list_text check_file
  unlisted {e} x c w =
      so w
      (ap₂ refused_text (c ∙ x.says.code_is) x.says.place_is ∙ sym (refused-text (finding (read_file file)) (omega (arith, some-code e.reason, x.says.code_is)))) refl

  pub listed : {a : Reading} → ReadingIs file cells rows nodes fields widths keys (Ok a) → Wrote (count_text a.nodes ++ span (line_at nodes widths) 0 a.nodes) xs r ys → Wrote (list_text file) xs r ys
  unfolding plan_text
  listed x w =
      let p = x.plan in
      so w
      (ap₂ (λ (n : ℕ) (lines : List ℕ). count_text n ++ lines) p.whole (stored_lines p.tree p.stand p.whole)
      ∙ sym (fine file _ _ _ _ _ p.reads p.fine)) refl
