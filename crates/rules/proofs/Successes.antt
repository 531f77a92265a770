-- An answer of code 0: where it comes from, and that it reads back as the rewritten plan, accepted.
use mathlib.Core.Path.{◌≡◌, refl, sym, ◌∙◌, ap, subst⁻¹}
use mathlib.Core.List.{List}
use mathlib.Core.Bool.{Bool, true, false, ◌||◌, not, true≢false}
use mathlib.Core.Option.{Option, none, some}
use Prim.Native.Nat.{ℕ, ◌≤◌}
use native.Mathlib.Omega.{arith}
use lib.Dec.{T, ltb, leb, nltb→le, eqb}
use lib.ListN.{length, drop}
use lib.Seq.{take-append_seam}
use Rattle.cpl.specs.Limits.{max_nodes, max_tags}
use Rattle.cpl.specs.Codes.{ROOM}
use Rattle.cpl.specs.AreBytes.{AreBytes}
use Rattle.cpl.specs.Plan.{Plan, Catalogue, Source}
use Rattle.cpl.specs.Exprs.{plan_nodes, plan_tags}
use Rattle.cpl.specs.Read.{Res, ok, bad, pick}
use Rattle.cpl.specs.ReadPlan.{read_file}
use Rattle.cpl.specs.Bytes.{bytes_of}
use Rattle.cpl.specs.Fields.{fields_of}
use Rattle.cpl.specs.Writable.{Writable}
use Rattle.cpl.specs.Accept.{Fault, fault, check}
use Rattle.cpl.proofs.Bools.{nor}
use Rattle.cpl.proofs.Accepted.{accepted, no_fault}
use Rattle.cpl.proofs.RoundTrip.{read_written, written_read}
use Rattle.rules.specs.Request.{request_fault, mask_of}
use Rattle.rules.specs.Merge.{Merge}
use Rattle.rules.specs.Rewrite.{Walked, rewrite}
use Rattle.rules.specs.Answer.{Verdict, refused, narrowed, settings_ok, merge_of, large, finish, requested, checked, judged, verdict, Answer, refusal, success, written, deliver, reply}
use Rattle.rules.specs.Success.{ReadsAs, wrote, source_of, Success}
use Rattle.rules.proofs.Requests.{fit-mask}
use Rattle.rules.proofs.Inputs.{Result}
use Rattle.rules.proofs.Results.{walk_good}
use Rattle.rules.proofs.Answers.{Lawful, code_above, verdict_lawful}

-- ── where a narrowed source comes from ──────────────────────────────────────────────────────

-- the plan was read, accepted and rightly requested, and its rewriting is not large
record From (M : Merge) (request : ℕ → List ℕ) (r : Res Source) (s : Source) : Type 0 where
  C : Catalogue
  p : Plan
  next : ℕ
  tags : ℕ
  nodes : ℕ
  read : r ≡ ok (source_of C p) next tags nodes
  checks : check C p 0 ≡ none
  right : request_fault (length (fields_of C p)) (request (length (fields_of C p))) ≡ none
  small : T (not (large (rewrite M C p (mask_of (length (fields_of C p)) (request (length (fields_of C p)))))))
  result : s ≡ source_of C (rewrite M C p (mask_of (length (fields_of C p)) (request (length (fields_of C p))))).plan

-- two verdicts of different kinds
refused≢narrowed : {X : Type 0} {code place : ℕ} {s : Source} → refused code place ≡ narrowed s → X
refused≢narrowed e = absurd (let z : true ≡ false = cc in true≢false z)

narrowed_eq : {s t : Source} → narrowed s ≡ narrowed t → s ≡ t
narrowed_eq e = cc

module _ (M : Merge) (request : ℕ → List ℕ) where
  from-judged : (r : Res Source) (s : Source) → judged M request r ≡ narrowed s → From M request r s
  unfolding judged checked requested finish
  from-judged (bad code place) s e = refused≢narrowed e
  from-judged (ok t next tags nodes) s e = checks (check t.catalogue t.plan 0) refl e
    where
      C : Catalogue
      C = t.catalogue

      p : Plan
      p = t.plan

      width : ℕ
      width = length (fields_of C p)

      w : Walked
      w = rewrite M C p (mask_of width (request width))

      small : (b : Bool) → large w ≡ b → (f : check C p 0 ≡ none) → (g : request_fault width (request width) ≡ none) → pick b (refused 12 0) (narrowed (source_of C w.plan)) ≡ narrowed s → From M request (ok t next tags nodes) s
      small true h f g e = refused≢narrowed e
      small false h f g e =
          record { C = C; p = p; next = next; tags = tags; nodes = nodes; read = refl; checks = f; right = g; small = subst⁻¹ (λ b. T (not b)) h tt; result = sym (narrowed_eq e) }

      asked : (q : Option ℕ) → request_fault width (request width) ≡ q → (f : check C p 0 ≡ none) → requested M C p (request width) q ≡ narrowed s → From M request (ok t next tags nodes) s
      asked none g f e = small (large w) refl f g e
      asked (some i) g f e = refused≢narrowed e

      checks : (c : Option Fault) → check C p 0 ≡ c → checked M C p request c ≡ narrowed s → From M request (ok t next tags nodes) s
      checks none f e = asked (request_fault width (request width)) refl f e
      checks (some (fault code node)) f e = refused≢narrowed e

from-verdict : (mode mask : ℕ) (file : List ℕ) (request : ℕ → List ℕ) (s : Source) → verdict mode mask file request ≡ narrowed s → From (merge_of mode mask) request (read_file file) s
unfolding verdict
from-verdict mode mask file request s = go (settings_ok mode mask)
  where
    go : (b : Bool) → pick b (judged (merge_of mode mask) request (read_file file)) (refused 1 0) ≡ narrowed s → From (merge_of mode mask) request (read_file file) s
    go true e = from-judged (merge_of mode mask) request (read_file file) s e
    go false e = refused≢narrowed e

-- ── what was delivered ──────────────────────────────────────────────────────────────────────

-- code 0 comes of a narrowed source whose bytes fit
record Delivered (v : Verdict) (a : Answer) : Type 0 where
  source : Source
  is : v ≡ narrowed source
  bytes : wrote a ≡ bytes_of source

delivered-bytes : (s : Source) (bs out : List ℕ) (b : Bool) → bs ≡ bytes_of s → (pick b (success bs out) (refusal ROOM (length bs) out)).code ≡ 0 → Delivered (narrowed s) (pick b (success bs out) (refusal ROOM (length bs) out))
unfolding success refusal
delivered-bytes s bs out true h e = record { source = s; is = refl; bytes = take-append_seam bs (drop (length bs) out) ∙ h }
delivered-bytes s bs out false h e = absurd (omega arith)

delivered : (v : Verdict) (out : List ℕ) → Lawful v → (deliver v out).code ≡ 0 → Delivered v (deliver v out)
unfolding deliver refusal written
delivered (refused code place) out l e = absurd (let h = code_above code l in omega arith)
delivered (narrowed s) out l e = delivered-bytes s (bytes_of s) out (leb (length (bytes_of s)) (length out)) refl e

-- ── an answer of code 0 ─────────────────────────────────────────────────────────────────────

small-counts : (w : Walked) → T (not (large w)) → (plan_nodes w.plan ≤ max_nodes) × (plan_tags w.plan ≤ max_tags)
unfolding large
small-counts w t =
    let h = nor w.overlong (ltb max_nodes (plan_nodes w.plan) || ltb max_tags (plan_tags w.plan)) t in
    let k = nor (ltb max_nodes (plan_nodes w.plan)) (ltb max_tags (plan_tags w.plan)) h.1 in
    (nltb→le max_nodes (plan_nodes w.plan) k.0, nltb→le max_tags (plan_tags w.plan) k.1)

module _ (mode mask : ℕ) (file : List ℕ) (bytes-file : AreBytes file) (request : ℕ → List ℕ) where
  -- what the pass makes of the plan that was read is good, and can be written
  passed : (s : Source) (f : From (merge_of mode mask) request (read_file file) s) → let C = f.C in
      let R = mask_of (length (fields_of C f.p)) (request (length (fields_of C f.p))) in
      let w = rewrite (merge_of mode mask) C f.p R in
      Result C (fields_of C f.p) R w × Writable (source_of C w.plan)
  unfolding merge_of
  passed s f =
      let C = f.C in
      let p = f.p in
      let R = mask_of (length (fields_of C p)) (request (length (fields_of C p))) in
      let w = rewrite (merge_of mode mask) C p R in
      let fits = (written_read file bytes-file (source_of C p) f.next f.tags f.nodes f.read).writable in
      let r : Result C (fields_of C p) R w =
      walk_good (eqb mode 1) mask C fits.tables p (accepted C p 0 f.checks) fits.nodes_fit none tt false R (fit-mask (request (length (fields_of C p))) (fields_of C p)) in
      let counts = small-counts w f.small in
      (r, record { tables = fits.tables; nodes_fit = r.fit; few_nodes = counts.0; few_tags = counts.1 })

  -- a narrowed source can be written, whether or not the output has room for it
  pub narrowed_writable : (s : Source) → verdict mode mask file request ≡ narrowed s → Writable s
  narrowed_writable s e = let f = from-verdict mode mask file request s e in subst⁻¹ Writable f.result (passed s f).1

module _ (mode mask : ℕ) (file : List ℕ) (bytes-file : AreBytes file) (request : ℕ → List ℕ) (a : Answer) where
  succeeded : (s : Source) → wrote a ≡ bytes_of s → From (merge_of mode mask) request (read_file file) s → Success mode mask file request a
  succeeded s e f =
      let C = f.C in
      let p = f.p in
      let R = mask_of (length (fields_of C p)) (request (length (fields_of C p))) in
      let w = rewrite (merge_of mode mask) C p R in
      let o = written_read file bytes-file (source_of C p) f.next f.tags f.nodes f.read in
      let r : Result C (fields_of C p) R w = (passed mode mask file bytes-file request s f).0 in
      let good : Writable (source_of C w.plan) = (passed mode mask file bytes-file request s f).1 in
      record {
        catalogue = C;
        old = p;
        reads = rw (← o.end, ← o.tags_read, ← o.nodes_read) f.read;
        accepted = f.checks;
        asked = f.right;
        R = R;
        asks = refl;
        walked = w;
        by_the_rules = refl;
        reads_back = subst⁻¹ (λ bs. ReadsAs bs (source_of C w.plan)) (e ∙ ap bytes_of f.result) (read_written (source_of C w.plan) good);
        accepted_back = no_fault C w.plan 0 r.accepted;
        kept = r.kept;
      }

-- "the written plan reads back"
pub read_back : (mode mask : ℕ) (file : List ℕ) (request : ℕ → List ℕ) (out : List ℕ) → AreBytes file → (reply mode mask file request out).code ≡ 0 → Success mode mask file request (reply mode mask file request out)
unfolding reply
read_back mode mask file request out h e =
    let v = verdict mode mask file request in
    let d = delivered v out (verdict_lawful mode mask file request) e in
    succeeded mode mask file h request (deliver v out) d.source d.bytes (from-verdict mode mask file request d.source d.is)
