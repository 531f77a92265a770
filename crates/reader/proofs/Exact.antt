-- What `read_file` answers is what the definition reads, said from the definition's side: where the file reads as a source, the answer is Ok, and the arrays
-- hold that source; where it is refused, the answer is that refusal. Assumes nothing.
use Prim.Native.Nat.{ℕ}
use mathlib.Core.Path.{◌≡◌, refl, sym, ap, ap₂, ◌∙◌, subst}
use mathlib.Core.List.{List}
use native.Mathlib.Omega.{arith}
use lib.ListN.{length}
use Rattle.std.specs.Prelude.{Result, Ok, Err}
use Rattle.cpl.specs.Plan.{Source}
use Rattle.cpl.specs.Read.{Res, ok, bad}
use Rattle.cpl.specs.ReadPlan.{read_file}
use Rattle.versions.specs.Versions.{version_of}
use Rattle.versions.specs.declared.Version.{Version}
use Rattle.catalogue.specs.Tables.{tables_at}
use Rattle.key_sets.specs.Slots.{TableKeys}
use Rattle.reader.specs.Plans.{Holds, RightFile}
use Rattle.reader.specs.declared.Read as answer
use Rattle.refusals.specs.Codes.{code_of}
use Rattle.refusals.specs.declared.Refusal.{Refusal}

same_ok : {A : Type 0} {a b : A} {n n' t t' k k' : ℕ} → ok a n t k ≡ ok b n' t' k' → (a ≡ b) × (n ≡ n') × (t ≡ t') × (k ≡ k')
same_ok e = (cc, cc, cc, cc)

same-bad : {A : Type 0} {x : Res A} {c c' p p' : ℕ} → x ≡ bad c p → x ≡ bad c' p' → (c ≡ c') × (p ≡ p')
same-bad e f = (cc, cc)

never : {A : Type 0} {x : Res A} {a : A} {n t k c p : ℕ} → x ≡ ok a n t k → x ≡ bad c p → ⊥
never e f = let z : ◌≡◌ {A = ℕ} 0 1 = cc in omega arith

module _ (file cells cells' rows rows' nodes nodes' names' keys' : List ℕ) where
  -- an answer for the source s
  pub record Accepted (r : Result answer.Read Refusal) (s : Source) (next tags count : ℕ) : Type 0 where
    pub version : Version
    pub tables : ℕ
    pub start : ℕ
    pub made : ℕ
    pub done : r ≡ Ok (record { version = version; tables = tables; start = start; nodes = count; tags = tags; made = made })
    pub end : next ≡ length file
    pub version_is : s.catalogue.version ≡ version_of version
    pub tables_are : s.catalogue.tables ≡ tables_at names' 0 tables
    pub keys_are : TableKeys s.catalogue keys'
    pub holds : Holds cells cells' rows rows' nodes nodes' s.plan count tags made

  pub file_accepted : (r : Result answer.Read Refusal) → RightFile file cells cells' rows rows' nodes nodes' names' keys' r → (s : Source) (next tags count : ℕ) → read_file file ≡ ok s next tags count →
      Accepted r s next tags count
  file_accepted (Ok r) h s next tags count e =
      let q = same_ok (sym h.is ∙ e) in
      record {
        version = r.version;
        tables = r.tables;
        start = r.start;
        made = r.made;
        done = ap₂ (λ (k t : ℕ). Ok (record { version = r.version; tables = r.tables; start = r.start; nodes = k; tags = t; made = r.made })) q.3 q.2;
        end = sym q.1;
        version_is = sym (ap (λ (s : Source). s.catalogue.version) q.0) ∙ h.version_is;
        tables_are = sym (ap (λ (s : Source). s.catalogue.tables) q.0) ∙ h.tables_are;
        keys_are = subst (λ (s : Source). TableKeys s.catalogue keys') q.0 h.keys_are;
        holds = rw (← q.0, ← q.2, ← q.3) h.holds;
      }
  file_accepted (Err e₁) h s next tags count e = absurd (never e h)

  pub file_refused : (r : Result answer.Read Refusal) → RightFile file cells cells' rows rows' nodes nodes' names' keys' r → (code place : ℕ) → read_file file ≡ bad code place →
      (e : Refusal) × (r ≡ Err e) × (code_of e.reason ≡ code) × (e.place ≡ place)
  file_refused (Ok r) h code place e = absurd (never h.is e)
  file_refused (Err e₁) h code place e = let b = same-bad h e in (e₁, refl, b.0, b.1)
