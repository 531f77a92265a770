-- The answer of an entry as it is written, and the entry that the input names. Assumes nothing.
use mathlib.Core.Path.{◌≡◌, refl, sym, ap, ap₂, ◌∙◌}
use mathlib.Core.List.{List, [], ◌∷◌, ◌++◌}
use Prim.Native.Nat.{ℕ, suc, ◌≤◌}
use native.Mathlib.Omega.{arith}
use lib.ListN.{length, get_or, take, get_or-eq_default}
use Rattle.cpl.specs.Read.{little}
use Rattle.cpl.specs.ReadPlan.{read_file}
use Rattle.cpl.specs.Tests.{iota}
use Rattle.rules.specs.Answer as rules
use Rattle.rules.specs.Answer.{answer, answer_all}
use Rattle.rules.specs.Check.{check_file, finding}
use Rattle.join_keys.specs.Entries.{join_keys, join_keys_answer, without_keys, without_keys_answer}
use Rattle.plan_text.specs.Answers.{list_answer}
use Rattle.acceptance.specs.Readings.{CheckedIs}
use Rattle.acceptance.specs.declared.Checked.{Checked}
use Rattle.answers.specs.Answers.{AnswerIs}
use Rattle.answers.specs.declared.Answer.{Answer}
use Rattle.writer_parts.specs.Wrote.{Wrote}
use Rattle.writer_parts.proofs.Over.{so, start, then}
use Rattle.listing.specs.Lines.{Puts}
use Rattle.calls.specs.Calls.{behind_file, behind_request, call_text, check_text, checked_text, entries, entry_text, file_in, join_keys_text, list_call_text, list_plan_text, listed}
use Rattle.calls.specs.Calls.{most_asked, no_text, numbers_text, out_in, prune_all_text, prune_text, request_in, said, text_of, without_keys_text}
use Rattle.calls.proofs.Answers.{answer-text, answered-inside, list_inside, reply-inside}
use Rattle.calls.proofs.Requests.{first-asked}

-- the line, and then the bytes
pub answer-wrote : (code place : ℕ) (bytes : List ℕ) {ns x₀ x₁ x₂ : List ℕ} {at r : ℕ} → ns ≡ code ∷ length bytes ∷ place ∷ []
    → Wrote (numbers_text ns) x₀ at x₁ → Puts at bytes x₁ r x₂ → Wrote (text_of code place bytes) x₀ r x₂
unfolding text_of
answer-wrote code place bytes e w p = so (then w p) (ap (λ (ns : List ℕ). numbers_text ns ++ bytes) e) refl

-- ── the entries ─────────────────────────────────────────────────────────────────────────────

module _ (input : List ℕ) {mode mask : ℕ} {file out out' : List ℕ} (rest : List ℕ) {r : Answer} (e : mode ≡ get_or input 1 0) (f : mask ≡ little 2 input 2)
    (g : file ≡ file_in input 4) where
  pub prune_text_lem : {at : ℕ} {request : List ℕ} → at ≡ behind_file input 4 → request ≡ take most_asked (request_in input at) → out ≡ out_in input (behind_request input at)
      → AnswerIs (answer mode mask file request out) r out'
      → text_of r.code r.place (take r.length (out' ++ rest)) ≡ prune_text input
  unfolding prune_text
  prune_text_lem {at} {request} d q o h =
      answer-text h (reply-inside mode mask file (λ width. request) out) rest
      ∙ ap₂ (λ (m : ℕ) (k : ℕ). said (answer m k file request out)) e f
      ∙ ap₂ (λ (xs : List ℕ) (ys : List ℕ). said (answer (get_or input 1 0) (little 2 input 2) xs ys out)) g q
      ∙ ap (λ (a : rules.Answer). said a) (first-asked (get_or input 1 0) (little 2 input 2) (file_in input 4) (request_in input at) out)
      ∙ ap (λ (ys : List ℕ). said (answer (get_or input 1 0) (little 2 input 2) (file_in input 4) (request_in input at) ys)) o
      ∙ ap (λ (i : ℕ). said (answer (get_or input 1 0) (little 2 input 2) (file_in input 4) (request_in input i) (out_in input (behind_request input i)))) d

  pub prune_all_text_lem : out ≡ out_in input (behind_file input 4) → AnswerIs (answer_all mode mask file out) r out'
      → text_of r.code r.place (take r.length (out' ++ rest)) ≡ prune_all_text input
  unfolding prune_all_text
  prune_all_text_lem o h =
      answer-text h (reply-inside mode mask file (λ width. iota 0 width) out) rest
      ∙ ap₂ (λ (m : ℕ) (k : ℕ). said (answer_all m k file out)) e f
      ∙ ap₂ (λ (xs : List ℕ) (ys : List ℕ). said (answer_all (get_or input 1 0) (little 2 input 2) xs ys)) g o

module _ (input : List ℕ) {predicate out out' : List ℕ} (rest : List ℕ) {r : Answer} (e : predicate ≡ file_in input 1) where
  pub join-keys-text : out ≡ out_in input (behind_file input 1) → AnswerIs (join_keys_answer predicate out) r out'
      → text_of r.code r.place (take r.length (out' ++ rest)) ≡ join_keys_text input
  unfolding join_keys_text
  join-keys-text o h =
      answer-text h (answered-inside (join_keys predicate) out) rest ∙ ap₂ (λ (xs : List ℕ) (ys : List ℕ). said (join_keys_answer xs ys)) e o

  pub without-keys-text : {at : ℕ} {keys : List ℕ} → at ≡ behind_file input 1 → keys ≡ file_in input at → out ≡ out_in input (behind_file input at)
      → AnswerIs (without_keys_answer predicate keys out) r out' → text_of r.code r.place (take r.length (out' ++ rest)) ≡ without_keys_text input
  unfolding without_keys_text
  without-keys-text {at} {keys} d k o h =
      answer-text h (answered-inside (without_keys predicate keys) out) rest
      ∙ ap₂ (λ (xs : List ℕ) (ys : List ℕ). said (without_keys_answer predicate xs ys)) k o
      ∙ ap₂ (λ (xs : List ℕ) (i : ℕ). said (without_keys_answer xs (file_in input i) (out_in input (behind_file input i)))) e d

-- the plan of the file that the input has, as text
module _ (input : List ℕ) {file out out' : List ℕ} (rest : List ℕ) {r : Answer} (e : file ≡ file_in input 1) where
  pub list-plan-text : out ≡ out_in input (behind_file input 1) → AnswerIs (list_answer file out) r out'
      → text_of r.code r.place (take r.length (out' ++ rest)) ≡ list_plan_text input
  unfolding list_plan_text
  list-plan-text o h = answer-text h (list_inside file out) rest ∙ ap₂ (λ (xs : List ℕ) (ys : List ℕ). said (list_answer xs ys)) e o

-- what is said of the file that the input has, and its listing
module _ (input : List ℕ) {file : List ℕ} (e : file ≡ file_in input 1) where
  pub check-text : {c : Checked} {code : ℕ} → code ≡ c.code → CheckedIs (check_file file) c → numbers_text (code ∷ c.place ∷ c.nodes ∷ c.fields ∷ []) ≡ check_text input
  unfolding checked_text check_text
  check-text {c} d h =
      ap₂ (λ (i : ℕ) (j : ℕ). numbers_text (i ∷ j ∷ c.nodes ∷ c.fields ∷ [])) (d ∙ h.code_is) h.place_is
      ∙ ap₂ (λ (i : ℕ) (j : ℕ). numbers_text ((check_file file).code ∷ (check_file file).place ∷ i ∷ j ∷ [])) h.nodes_is h.fields_is
      ∙ ap (λ (xs : List ℕ). checked_text (check_file xs)) e

  pub list-text : said (listed (finding (read_file file))) ≡ list_call_text input
  unfolding list_call_text
  list-text = ap (λ (xs : List ℕ). said (listed (finding (read_file xs)))) e

-- ── the entry ───────────────────────────────────────────────────────────────────────────────

some : (n : ℕ) → (n ≡ 0 → ⊥) → 1 ≤ n
some n h = omega arith

past : (k n : ℕ) → k ≤ n → (n ≡ k → ⊥) → suc k ≤ n
past k n l h = omega arith

module _ (input : List ℕ) {n : ℕ} (e : n ≡ get_or input 0 0) where
  pub entry_is : {k : ℕ} → n ≡ k → entry_text k input ≡ call_text input
  unfolding call_text
  entry_is d = ap (λ (i : ℕ). entry_text i input) (sym d ∙ e)

  pub prune_named : n ≡ 0 → prune_text input ≡ call_text input
  unfolding entries entry_text
  prune_named d = entry_is d

  pub prune_all_named : n ≡ 1 → prune_all_text input ≡ call_text input
  unfolding entries entry_text
  prune_all_named d = entry_is d

  pub check-named : n ≡ 2 → check_text input ≡ call_text input
  unfolding entries entry_text
  check-named d = entry_is d

  pub join-keys-named : n ≡ 3 → join_keys_text input ≡ call_text input
  unfolding entries entry_text
  join-keys-named d = entry_is d

  pub without-keys-named : n ≡ 4 → without_keys_text input ≡ call_text input
  unfolding entries entry_text
  without-keys-named d = entry_is d

  pub list-named : n ≡ 5 → list_call_text input ≡ call_text input
  unfolding entries entry_text
  list-named d = entry_is d

  pub list-plan-named : n ≡ 6 → list_plan_text input ≡ call_text input
  unfolding entries entry_text
  list-plan-named d = entry_is d

  pub none_named : (n ≡ 0 → ⊥) → (n ≡ 1 → ⊥) → (n ≡ 2 → ⊥) → (n ≡ 3 → ⊥) → (n ≡ 4 → ⊥) → (n ≡ 5 → ⊥) → (n ≡ 6 → ⊥) → [] ≡ call_text input
  unfolding entries entry_text no_text
  none_named a b c d f g h =
      let l : length entries ≤ n = past 6 n (past 5 n (past 4 n (past 3 n (past 2 n (past 1 n (some n a) b) c) d) f) g) h in
      sym (ap (λ (text : List ℕ → List ℕ). text input) (get_or-eq_default entries no_text l)) ∙ entry_is refl

-- the same bytes by another name
pub named : {v w xs ys : List ℕ} {r : ℕ} → v ≡ w → Wrote v xs r ys → Wrote w xs r ys
named e w = so w e refl

pub no_bytes : {w xs : List ℕ} → [] ≡ w → Wrote w xs 0 xs
no_bytes e = so start e refl
