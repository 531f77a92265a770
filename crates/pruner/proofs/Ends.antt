-- The ways that a call can end: refused for its settings or by the intake; or what the walk left is delivered. Assumes nothing.
use mathlib.Core.Path.{◌≡◌, refl, sym, ap, subst⁻¹, ◌∙◌}
use mathlib.Core.Bool.{true, false}
use mathlib.Core.Logic.{◌⊎◌, ⊎_elim}
use mathlib.Core.List.{List}
use Prim.Native.Nat.{ℕ, ◌<◌, ◌≤◌}
use lib.Dec.{eqb}
use borrow.Author.Tests.{le-leb, lt-leb}
use Rattle.cpl.specs.Limits.{max_mask}
use Rattle.std.specs.Prelude.{Result, Ok, Err}
use Rattle.cpl.specs.ReadPlan.{read_file}
use Rattle.rules.specs.Answer.{deliver, finish, judged, merge_of, refused, reply, settings_ok, verdict}
use Rattle.rules.specs.Merge.{Merge}
use Rattle.rules.specs.Rewrite.{Walked, rewrite}
use Rattle.tree.specs.Tree.{lent, plan_at}
use Rattle.intake.specs.Intake.{Taken}
use Rattle.intake.specs.declared.Intake.{Intake}
use Rattle.optimize_projections.specs.declared.Settings.{Settings}
use Rattle.refusals.specs.Codes.{code_of}
use Rattle.refusals.specs.declared.Refusal.{Refusal}
use Rattle.answers.specs.Answers.{AnswerIs, Delivers}
use Rattle.answers.specs.declared.Answer.{Answer}
use Rattle.answers.proofs.Ends.{refuses}
use Rattle.delivery.specs.Delivery.{root_walk}
use Rattle.pruner.specs.Answers.{SettingsAre}
use Rattle.pruner.proofs.Plans.{asked}

-- ── from the intake to the walk ─────────────────────────────────────────────────────────────

module _ {file : List ℕ} {request : ℕ → List ℕ} {cells rows nodes fields widths keys : List ℕ} {t : Intake} where
  -- what the walk makes of the root
  abbrev pub rooted : Settings → Taken file request cells rows nodes fields widths keys t → Walked
  rooted s q = root_walk s q.plan.C cells rows nodes t.set (asked q)

  as_ruled : {s : Settings} (mode mask : ℕ) → s.house ≡ eqb mode 1 → s.mask ≡ mask → (q : Taken file request cells rows nodes fields widths keys t)
      → rooted s q ≡ rewrite (merge_of mode mask) q.plan.C (plan_at (lent cells rows nodes) 0) (asked q)
  unfolding merge_of
  as_ruled mode mask e f q = rw (e, f, q.flag) refl

-- ── the whole call ──────────────────────────────────────────────────────────────────────────

-- which settings are allowed
pub high_settings : (mode mask : ℕ) → (1 < mode) ⊎ ((mode ≤ 1) × (max_mask < mask)) → settings_ok mode mask ≡ false
unfolding settings_ok
high_settings mode mask h = ⊎_elim (λ l. rw (lt-leb mode 1 l) refl) (λ l. rw (le-leb mode 1 l.0, lt-leb mask max_mask l.1) refl) h

pub low_settings : (mode mask : ℕ) → mode ≤ 1 → mask ≤ max_mask → settings_ok mode mask ≡ true
unfolding settings_ok
low_settings mode mask k l = rw (le-leb mode 1 k, le-leb mask max_mask l) refl

module _ (mode mask : ℕ) (file : List ℕ) (request : ℕ → List ℕ) where
  -- "SETTING: mode above 1 (0 crate, 1 house) or push mask above 4,095"
  pub refused_settings : (out : List ℕ) (e : Refusal) → SettingsAre mode mask (Err e) → Delivers (reply mode mask file request out) (Err e) out
  unfolding reply verdict deliver
  refused_settings out e h = rw h.0 (refuses out (h.1, refl, h.2))

  module _ (allowed : settings_ok mode mask ≡ true) where
    judged-answer : (out : List ℕ) → reply mode mask file request out ≡ deliver (judged (merge_of mode mask) request (read_file file)) out
    unfolding reply verdict
    judged-answer out = rw allowed refl

    -- refused while the file is read, at a node or for its request: "2 MARK" to "11 REQUEST"
    pub refused_early : (out : List ℕ) (e : Refusal) → ((M : Merge) → judged M request (read_file file) ≡ refused (code_of e.reason) e.place)
        → Delivers (reply mode mask file request out) (Err e) out
    unfolding deliver
    refused_early out e i =
        subst⁻¹ (λ a. Delivers a (Err e) out) (judged-answer out ∙ ap (λ v. deliver v out) (i (merge_of mode mask))) (refuses out (refl, refl, refl))

    -- what the walk left is delivered
    module _ {cells rows nodes fields widths keys : List ℕ} {t : Intake} where
      pub answered : {s : Settings} (r : Result ℕ Refusal) {out' : List ℕ} (out : List ℕ) (q : Taken file request cells rows nodes fields widths keys t)
          → s.house ≡ eqb mode 1 → s.mask ≡ mask → Delivers (deliver (finish q.plan.C (rooted s q)) out) r out'
          → Delivers (reply mode mask file request out) r out'
      unfolding merge_of
      answered {s} r {out'} out q e f h =
          subst⁻¹ (λ a. Delivers a r out')
          (judged-answer out
          ∙ (ap (λ v. deliver v out) (q.rest (merge_of mode mask)) ∙ ap (λ w. deliver (finish q.plan.C w) out) (sym (as_ruled mode mask e f q)))) h
