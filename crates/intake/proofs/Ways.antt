-- The ways that an intake can end: refused with the file, or for its request; or taken. Assumes nothing.
use mathlib.Core.Path.{◌≡◌, refl, sym, ◌∙◌, ap, ap₂, subst}
use mathlib.Core.List.{List}
use mathlib.Core.Option.{Option, none, some}
use Prim.Native.Nat.{ℕ, ◌<◌}
use native.Mathlib.Omega.{arith}
use lib.ListN.{length}
use Rattle.std.specs.Prelude.{Ok, Err}
use Rattle.cpl.specs.ReadPlan.{read_file}
use Rattle.cpl.specs.Fields.{fields_of}
use Rattle.rules.specs.Merge.{Merge}
use Rattle.rules.specs.Request.{mask_of, request_fault}
use Rattle.rules.specs.Answer.{refused, passed_on, requested, judged}
use Rattle.rules.specs.Check.{finding, check_file}
use Rattle.required_indices.specs.Request.{Asks}
use Rattle.required_indices.specs.declared.RequiredIndices.{RequiredIndices}
use Rattle.refusals.specs.Codes.{code_of}
use Rattle.refusals.specs.declared.Reason.{Reason}
use Rattle.refusals.specs.declared.Reason.TheVariants as reason
use Rattle.refusals.specs.declared.Refusal.{Refusal}
use Rattle.request.specs.Requests.{RequestIs}
use Rattle.acceptance.specs.Readings.{ReadingIs, root_plan}
use Rattle.acceptance.specs.declared.Reading.{Reading}
use Rattle.acceptance.proofs.Findings.{judged_by, refused_by}
use Rattle.acceptance.proofs.Ways.{is-accepted, width_is}
use Rattle.intake.specs.Intake.{IntakeIs}

-- ── refusals ────────────────────────────────────────────────────────────────────────────────

some-code : (r : Reason) → 0 < code_of r
some-code reason.Setting = omega arith
some-code reason.Mark = omega arith
some-code reason.Cut = omega arith
some-code reason.Value = omega arith
some-code reason.Many = omega arith
some-code reason.Tail = omega arith
some-code reason.Clash = omega arith
some-code reason.Unknown = omega arith
some-code reason.Width = omega arith
some-code reason.Fields = omega arith
some-code reason.Request = omega arith
some-code reason.Large = omega arith
some-code reason.Room = omega arith
some-code reason.Ambiguous = omega arith
some-code reason.Pairs = omega arith

module _ {file cells rows nodes fields widths keys : List ℕ} (request : ℕ → List ℕ) where
  -- a refusal of the file is passed on
  pub refused_file : {e : Refusal} → ReadingIs file cells rows nodes fields widths keys (Err e) → IntakeIs file request cells rows nodes fields widths keys (Err e)
  unfolding check_file
  refused_file {e} x M =
      judged_by M request (read_file file) ∙ (refused_by M request (finding (read_file file)) (omega (arith, x.says.code_is, some-code e.reason))
      ∙ ap₂ refused (sym x.says.code_is) (sym x.says.place_is))

  -- ── the request ───────────────────────────────────────────────────────────────────────────

  module _ {a : Reading} (x : ReadingIs file cells rows nodes fields widths keys (Ok a)) where
    asked : (f : Option ℕ) → request_fault a.fields (request a.fields) ≡ f
        → (M : Merge) → judged M request (read_file file) ≡ requested M x.plan.C (root_plan cells rows nodes) (request (length (fields_of x.plan.C (root_plan cells rows nodes)))) f
    asked f h M =
        judged_by M request (read_file file) ∙ (ap (passed_on M request) (is-accepted x.plan)
        ∙ ap (requested M x.plan.C (root_plan cells rows nodes) (request (length (fields_of x.plan.C (root_plan cells rows nodes))))) (subst (λ n. request_fault n (request n) ≡ f) (width_is x) h))

    refuses : (e : Refusal) (f : Option ℕ) → request_fault a.fields (request a.fields) ≡ f → RequestIs a.fields (request a.fields) (Err e) f → IntakeIs file request cells rows nodes fields widths keys (Err e)
    unfolding requested
    refuses e none h r M = absurd r
    refuses e (some place) h r M = asked (some place) h M ∙ ap₂ refused (sym (ap code_of r.0)) (sym r.1)

    takes : (set : RequiredIndices) (f : Option ℕ) → request_fault a.fields (request a.fields) ≡ f → RequestIs a.fields (request a.fields) (Ok set) f
        → IntakeIs file request cells rows nodes fields widths keys (Ok (record { version = a.version; start = a.start; count = a.nodes; set = set }))
    unfolding requested
    takes set none h r = record { plan = x.plan; asks = subst (λ n. Asks set (mask_of n (request n))) (width_is x) r.0; flag = r.1; rest = asked none h }
    takes set (some place) h r = absurd r

    -- refused for its request
    pub refused_request : (e : Refusal) → RequestIs a.fields (request a.fields) (Err e) (request_fault a.fields (request a.fields)) → IntakeIs file request cells rows nodes fields widths keys (Err e)
    refused_request e = refuses e (request_fault a.fields (request a.fields)) refl

    -- taken
    pub taken : (set : RequiredIndices) → RequestIs a.fields (request a.fields) (Ok set) (request_fault a.fields (request a.fields))
        → IntakeIs file request cells rows nodes fields widths keys (Ok (record { version = a.version; start = a.start; count = a.nodes; set = set }))
    taken set = takes set (request_fault a.fields (request a.fields)) refl
