-- Demand 3 of files and answers: every house-mode answer of code 0 keeps its promise.
use mathlib.Core.Path.{◌≡◌, ◌∙◌, ap, subst, subst⁻¹}
use mathlib.Core.List.{List, []}
use mathlib.Core.Bool.{false}
use Prim.Native.Nat.{ℕ}
use lib.ListN.{length}
use Rattle.cpl.specs.AreBytes.{AreBytes}
use Rattle.cpl.specs.Limits.{version2}
use Rattle.cpl.specs.ReadPlan.{mark_bytes, starts}
use Rattle.cpl.specs.Fields.{fields_of}
use Rattle.cpl.specs.Writable.{Writable}
use Rattle.cpl.proofs.Version1.{no_keys, is-version1}
use Rattle.cpl.proofs.RoundTrip.{written_read}
use Rattle.rules.specs.Rewrite.{rewrite}
use Rattle.rules.specs.Answer.{Answer, reply, merge_of}
use Rattle.rules.specs.Success.{Success, source_of}
use Rattle.rules.proofs.Successes.{read_back}
use Rattle.meaning.specs.Reads.{Agree}
use Rattle.meaning.specs.Promise.{Promise, KeyedPromise}
use Rattle.meaning.proofs.Demand3.{house_pass, demand3, demand3_logs, demand3_plain, demand3_plain_logs}

module _ (mask : ℕ) (file : List ℕ) (request : ℕ → List ℕ) (a : Answer) (h : AreBytes file) (s : Success 1 mask file request a) where
  abbrev indices : List ℕ
  indices = request (length (fields_of s.catalogue s.old))

  by_house : s.walked ≡ house_pass mask s.catalogue s.old indices
  unfolding merge_of
  by_house = s.by_the_rules ∙ ap (λ R. rewrite (merge_of 1 mask) s.catalogue s.old R) s.asks

  -- what was read can be written
  writable : Writable (source_of s.catalogue s.old)
  writable = (written_read file h _ _ _ _ s.reads).writable

  keyed_promise : KeyedPromise mask file request a
  keyed_promise =
      let C = s.catalogue in
      let p = s.old in
      record {
        plans = s;
        narrows = rw (by_house, s.asks) (demand3 mask C p s.accepted indices);
        logs = λ D E j k g. rw by_house (demand3_logs mask C p s.accepted indices writable.tables writable.nodes_fit D E j k (subst (λ v. Agree C v.plan D E) by_house g));
      }

  -- of a file whose catalogue declares no key, in either version
  pub plain_promise : s.catalogue.keys ≡ [] → Promise mask file request a
  plain_promise e =
      let C = s.catalogue in
      let p = s.old in
      record {
        plans = s;
        narrows = rw (by_house, s.asks) (demand3_plain mask C p s.accepted indices e);
        logs = λ D E g. rw by_house (demand3_plain_logs mask C p s.accepted indices writable.tables writable.nodes_fit e D E (subst (λ v. Agree C v.plan D E) by_house g));
      }

-- of any file
pub promise_keyed : (mask : ℕ) (file : List ℕ) (request : ℕ → List ℕ) (out : List ℕ) → AreBytes file → (reply 1 mask file request out).code ≡ 0 → KeyedPromise mask file request (reply 1 mask file request out)
promise_keyed mask file request out h e = keyed_promise mask file request _ h (read_back 1 mask file request out h e)

-- of a version 1 file, which has no keys
pub promise : (mask : ℕ) (file : List ℕ) (request : ℕ → List ℕ) (out : List ℕ) → AreBytes file → starts (mark_bytes version2) file ≡ false → (reply 1 mask file request out).code ≡ 0 → Promise mask file request (reply 1 mask file request out)
promise mask file request out h old e =
    let s = read_back 1 mask file request out h e in
    let w = written_read file h _ _ _ _ s.reads in
    plain_promise mask file request _ h s (no_keys s.catalogue w.writable.tables (is-version1 _ w.writable (subst⁻¹ (λ bs. starts (mark_bytes version2) bs ≡ false) w.same old)))
