-- The round trip: what can be written is read back, and what is read was written. Assumes nothing.
use Prim.Native.Nat.{ℕ, suc, ◌+◌}
use mathlib.Core.Path.{◌≡◌, refl, sym, ◌∙◌}
use mathlib.Core.Bool.{true, true≢false}
use mathlib.Core.List.{List, [], ◌∷◌, ◌++◌}
use native.Mathlib.Omega.{arith}
use native.Mathlib.Nat.{zero-add}
use lib.ListN.{length, length-append}
use lib.Dec.{eqb, lit<}
use borrow.Author.Tests.{eqb-true, eq-eqb}
use Rattle.cpl.specs.Limits.{Version, version1, version2, IsVersion, is_1, is_2, max_nodes}
use Rattle.cpl.specs.Lists.{a[], ◌a∷◌}
use Rattle.cpl.specs.AreBytes.{AreBytes}
use Rattle.cpl.specs.Plan.{Plan, Catalogue, Source}
use Rattle.cpl.specs.Exprs.{plan_tags, plan_nodes}
use Rattle.cpl.specs.Read.{ok, ◌>>=◌, give}
use Rattle.cpl.specs.ReadPlan.{mark_bytes, starts, read_mark, read_catalogue, plan_to, read_end, read_source, read_file}
use Rattle.cpl.specs.Bytes.{plan_bytes, catalogue_bytes, bytes_of}
use Rattle.cpl.specs.Writable.{FitPlan, FitCatalogue, Writable}
use Rattle.cpl.proofs.Versions.{sound}
use Rattle.cpl.proofs.Lists.{All_++}
use Rattle.cpl.proofs.Stands.{Stands, stands_cons, stands_self, stands_first, stands_rest, stands_all}
use Rattle.cpl.proofs.Codec.{same_ok, Holds, holds_then, holds-pick, holds-ok, Stood, stood_inside, stood_then, found_stood}
use Rattle.cpl.proofs.Bools.{and_left, and_right}
use Rattle.cpl.proofs.CatalogueTrip.{catalogue_codec}
use Rattle.cpl.proofs.PlanTrip.{plan_codec}

-- ── the mark ────────────────────────────────────────────────────────────────────────────────

mark_bytes_lem : {v : Version} → IsVersion v → AreBytes (mark_bytes v)
mark_bytes_lem i = lit< tt a∷ lit< tt a∷ lit< tt a∷ (sound i).number_fits a∷ lit< tt a∷ a[]

-- the mark of a version is read as that version
mark_read : {v : Version} → IsVersion v → (rest : List ℕ) → read_mark (mark_bytes v ++ rest) 0 0 0 ≡ ok v 5 0 0
unfolding read_mark starts
mark_read is_1 rest = refl
mark_read is_2 rest = refl

-- what a file starts with stands at its start
pub starts_stands : (ms file : List ℕ) → starts ms file ≡ true → Stands file 0 ms
unfolding starts
starts_stands [] file e = omega arith
starts_stands (m ∷ ms) [] e = absurd (true≢false (sym e))
starts_stands (m ∷ ms) (b ∷ file) e = (omega arith, sym (eqb-true m b (and_left (eqb m b) _ e)), stands_cons file ms 0 b (starts_stands ms file (and_right (eqb m b) _ e)))

-- ── what is written is read ─────────────────────────────────────────────────────────────────

pub bytes_are_bytes : (s : Source) → Writable s → AreBytes (bytes_of s)
unfolding bytes_of
bytes_are_bytes s w =
    All_++ (mark_bytes_lem w.tables.version_is) (All_++ ((catalogue_codec s.catalogue.version w.tables.version_is).reads s.catalogue (w.tables, refl)).are_bytes ((plan_codec s.catalogue w.tables).reads s.plan w.nodes_fit).are_bytes)

-- a mark, a catalogue, a plan and the end
source_ok : (file : List ℕ) (v : Version) (C : Catalogue) (p : Plan) (at at' tags nodes : ℕ) → read_mark file 0 0 0 ≡ ok v 5 0 0 → read_catalogue v file 5 0 0 ≡ ok C at 0 0 →
    plan_to C (suc max_nodes) file at 0 0 ≡ ok p at' tags nodes → at' ≡ length file → read_file file ≡ ok (record { catalogue = C; plan = p }) at' tags nodes
unfolding read_source read_end
source_ok file v C p at at' tags nodes e f g h = rw (e, f, g, eq-eqb at' (length file) h)

pub read_written : (s : Source) → Writable s → read_file (bytes_of s) ≡ ok s (length (bytes_of s)) (plan_tags s.plan) (plan_nodes s.plan)
unfolding bytes_of
read_written s w =
    let C = s.catalogue in
    let v = C.version in
    let file = bytes_of s in
    let cs = catalogue_bytes C in
    let ps = plan_bytes v s.plan in
    let body : Stands file 5 (cs ++ ps) = stands_rest file (mark_bytes v) (cs ++ ps) 0 (stands_self file) in
    source_ok file v C s.plan (5 + length cs) (length file) (plan_tags s.plan) (plan_nodes s.plan) (mark_read w.tables.version_is (cs ++ ps))
    (((catalogue_codec v w.tables.version_is).reads C (w.tables, refl)).read file 5 0 0 (stands_first file cs ps 5 body) (omega arith) (omega arith))
    (((plan_codec C w.tables).reads s.plan w.nodes_fit).read file (5 + length cs) 0 0 (stands_rest file cs ps 5 body) (omega (arith, w.few_tags)) (omega (arith, w.few_nodes))
    ∙ same_ok s.plan (omega (arith, length-append cs ps)) (omega arith) (omega arith))
    refl

-- ── what is read was written ────────────────────────────────────────────────────────────────

pub record Wrote (file : List ℕ) (s : Source) (next tags nodes : ℕ) : Type 0 where
  pub writable : Writable s
  pub same : bytes_of s ≡ file
  pub end : next ≡ length file
  pub tags_read : tags ≡ plan_tags s.plan
  pub nodes_read : nodes ≡ plan_nodes s.plan

-- the bytes of a source that end where the file ends
whole : (file : List ℕ) (s : Source) → FitCatalogue s.catalogue → FitPlan s.catalogue s.plan → (next tags nodes : ℕ) →
    Stood file 0 0 0 (bytes_of s) (plan_tags s.plan) (plan_nodes s.plan) next tags nodes → next ≡ length file → Wrote file s next tags nodes
whole file s C p next tags nodes z e =
    record {
      writable = record { tables = C; nodes_fit = p; few_nodes = omega arith; few_tags = omega arith };
      same = stands_all file (bytes_of s) z.stands (omega arith);
      end = e;
      tags_read = omega arith;
      nodes_read = omega arith;
    }

-- the end of the file, and s
ends : (file : List ℕ) (s : Source) (at t n : ℕ) → (at ≡ length file → Wrote file s at t n) → Holds (Wrote file) ((read_end >>= λ z. give s) file at t n)
unfolding read_end
ends file s at t n f =
    holds_then Ended (Wrote file) (read_end file at t n) _ (holds-pick Ended (eqb at (length file)) (ok 0 at t n) _ (λ e. f (eqb-true at (length file) e)) (λ e. tt)) λ z at' t' n' h. h
  where
    Ended : ℕ → ℕ → ℕ → ℕ → Type 0
    Ended z at' t' n' = Wrote file s at' t' n'

wrote : (file : List ℕ) → AreBytes file → Holds (Wrote file) (read_file file)
unfolding read_source read_mark bytes_of
wrote file b =
    holds_then Marked (Wrote file) (read_mark file 0 0 0) _
    (holds-pick Marked (starts (mark_bytes version1) file) (ok version1 5 0 0) _ (λ e. (is_1, marked version1 e)) λ _.
    holds-pick Marked (starts (mark_bytes version2) file) (ok version2 5 0 0) _ (λ e. (is_2, marked version2 e)) λ _. tt)
    λ v at t n m.
    let mark = m.1 in
    holds_then _ (Wrote file) (read_catalogue v file at t n) _ ((catalogue_codec v m.0).only.found file b at t n (stood_inside mark) mark.few_tags mark.few_nodes) λ C at' t' n' c.
    let cs = found_stood c in
    holds_then _ (Wrote file) (plan_to C (suc max_nodes) file at' t' n') _ ((plan_codec C c.is.0.0).only.found file b at' t' n' (stood_inside cs) cs.few_tags cs.few_nodes) λ p at'' t'' n'' q.
    ends file (record { catalogue = C; plan = p }) at'' t'' n''
    (whole file (record { catalogue = C; plan = p }) c.is.0.0 q.is.0 at'' t'' n'' (simp zero-add at (stood_then (rw (← c.is.0.1) at mark) (stood_then cs (found_stood q)))))
  where
    Marked : Version → ℕ → ℕ → ℕ → Type 0
    Marked v at t n = IsVersion v × Stood file 0 0 0 (mark_bytes v) 0 0 at t n

    marked : (v : Version) → starts (mark_bytes v) file ≡ true → Stood file 0 0 0 (mark_bytes v) 0 0 5 0 0
    marked v e = record { stands = starts_stands (mark_bytes v) file e; next = refl; tags_read = refl; nodes_read = refl; few_tags = omega arith; few_nodes = omega arith }

pub written_read : (file : List ℕ) → AreBytes file → (s : Source) (next tags nodes : ℕ) → read_file file ≡ ok s next tags nodes → Wrote file s next tags nodes
written_read file b s next tags nodes e = holds-ok (Wrote file) e (wrote file b)

-- two files that read as the same source are the same file
pub same_file : (file file' : List ℕ) → AreBytes file → AreBytes file' → (s : Source) (next tags nodes next' tags' nodes' : ℕ) →
    read_file file ≡ ok s next tags nodes → read_file file' ≡ ok s next' tags' nodes' → file ≡ file'
same_file file file' b b' s next tags nodes next' tags' nodes' e e' = sym (written_read file b s next tags nodes e).same ∙ (written_read file' b' s next' tags' nodes' e').same
