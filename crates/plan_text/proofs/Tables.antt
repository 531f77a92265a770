-- A catalogue by itself is read as it is written. Assumes nothing.
use Prim.Native.Nat.{ℕ}
use mathlib.Core.Path.{◌≡◌, refl, ◌∙◌}
use mathlib.Core.Bool.{true}
use mathlib.Core.List.{List, ◌++◌}
use native.Mathlib.Omega.{arith}
use native.Mathlib.Nat.{zero-add}
use lib.ListN.{length}
use lib.Dec.{eqb}
use borrow.Author.Tests.{eqb-true, eq-eqb}
use Rattle.cpl.specs.AreBytes.{AreBytes}
use Rattle.cpl.specs.Limits.{Version, version1, IsVersion, is_1}
use Rattle.cpl.specs.Plan.{Catalogue}
use Rattle.cpl.specs.Read.{ok, ◌>>=◌, give}
use Rattle.cpl.specs.ReadPlan.{mark_bytes, starts, read_catalogue, read_end}
use Rattle.cpl.specs.Bytes.{catalogue_bytes}
use Rattle.cpl.specs.Writable.{FitCatalogue}
use Rattle.cpl.proofs.Stands.{Stands, stands_self, stands_rest, stands_all}
use Rattle.cpl.proofs.Codec.{same_ok, Holds, holds_then, holds-pick, holds-ok, Stood, stood_inside, stood_then, found_stood}
use Rattle.cpl.proofs.RoundTrip.{starts_stands}
use Rattle.cpl.proofs.CatalogueTrip.{catalogue_codec}
use Rattle.plan_text.specs.Answers.{read_mark1, read_tables}

-- mark, version and tables, of version 1
abbrev pub table_file : Catalogue → List ℕ
table_file C = mark_bytes version1 ++ catalogue_bytes C

tables-ok : (file : List ℕ) (C : Catalogue) (at : ℕ) → read_mark1 file 0 0 0 ≡ ok version1 5 0 0 → read_catalogue version1 file 5 0 0 ≡ ok C at 0 0 → at ≡ length file →
    read_tables file 0 0 0 ≡ ok C at 0 0
unfolding read_tables read_end
tables-ok file C at e f h = rw (e, f, eq-eqb at (length file) h)

pub tables_read : (C : Catalogue) → FitCatalogue C → C.version ≡ version1 → read_tables (table_file C) 0 0 0 ≡ ok C (length (table_file C)) 0 0
unfolding read_mark1 starts
tables_read C h e =
    let file = table_file C in
    let cs = catalogue_bytes C in
    let body : Stands file 5 cs = stands_rest file (mark_bytes version1) cs 0 (stands_self file) in
    tables-ok file C (length file) refl
    (((catalogue_codec version1 is_1).reads C (h, e)).read file 5 0 0 body (omega arith) (omega arith) ∙ same_ok C (omega arith) (omega arith) (omega arith))
    refl

pub record Tabled (file : List ℕ) (C : Catalogue) (next tags nodes : ℕ) : Type 0 where
  pub fits : FitCatalogue C
  pub first-version : C.version ≡ version1
  pub same : table_file C ≡ file

ends : (file : List ℕ) (C : Catalogue) (at t n : ℕ) → (at ≡ length file → Tabled file C at t n) → Holds (Tabled file) ((read_end >>= λ z. give C) file at t n)
unfolding read_end
ends file C at t n f =
    holds_then Ended (Tabled file) (read_end file at t n) _ (holds-pick Ended (eqb at (length file)) (ok 0 at t n) _ (λ e. f (eqb-true at (length file) e)) (λ e. tt)) λ z at' t' n' h. h
  where
    Ended : ℕ → ℕ → ℕ → ℕ → Type 0
    Ended z at' t' n' = Tabled file C at' t' n'

whole : (file : List ℕ) (C : Catalogue) → FitCatalogue C → C.version ≡ version1 → (at t n : ℕ) → Stood file 0 0 0 (table_file C) 0 0 at t n → at ≡ length file → Tabled file C at t n
whole file C h v at t n z e = record { fits = h; first-version = v; same = stands_all file (table_file C) z.stands (omega (arith, z.next)) }

tabled : (file : List ℕ) → AreBytes file → Holds (Tabled file) (read_tables file 0 0 0)
unfolding read_tables read_mark1
tabled file b =
    holds_then Marked (Tabled file) (read_mark1 file 0 0 0) _
    (holds-pick Marked (starts (mark_bytes version1) file) (ok version1 5 0 0) _ (λ e. (refl, marked e)) (λ e. tt)) λ v at t n m.
    let mark = m.1 in
    let is-version : IsVersion v = rw m.0 is_1 in
    holds_then _ (Tabled file) (read_catalogue v file at t n) _ ((catalogue_codec v is-version).only.found file b at t n (stood_inside mark) mark.few_tags mark.few_nodes) λ C at' t' n' c.
    ends file C at' t' n' (whole file C c.is.0.0 (c.is.0.1 ∙ m.0) at' t' n' (simp zero-add at (stood_then mark (found_stood c))))
  where
    Marked : Version → ℕ → ℕ → ℕ → Type 0
    Marked v at t n = (v ≡ version1) × Stood file 0 0 0 (mark_bytes version1) 0 0 at t n

    marked : starts (mark_bytes version1) file ≡ true → Stood file 0 0 0 (mark_bytes version1) 0 0 5 0 0
    marked e = record { stands = starts_stands (mark_bytes version1) file e; next = refl; tags_read = refl; nodes_read = refl; few_tags = omega arith; few_nodes = omega arith }

-- what reads as tables is their bytes
pub tables_was : (file : List ℕ) → AreBytes file → (C : Catalogue) (next tags nodes : ℕ) → read_tables file 0 0 0 ≡ ok C next tags nodes → Tabled file C next tags nodes
tables_was file b C next tags nodes e = holds-ok (Tabled file) e (tabled file b)
