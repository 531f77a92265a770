-- Version 1 has neither keys nor filters: their counts take no bytes and are 0. And a count of one byte is that byte.
use Prim.Native.Nat.{ℕ, ◌+◌, ◌≤◌, ◌<◌}
use mathlib.Core.Path.{◌≡◌, refl, ap}
use mathlib.Core.List.{List, [], ◌∷◌, ◌++◌}
use mathlib.Core.Bool.{false, true≢false}
use mathlib.Core.Option.{Option}
use native.Mathlib.Omega.{arith}
use lib.ListN.{length}
use borrow.Author.Tests.{le-leb}
use Rattle.cpl.specs.Limits.{Version, version1, version2, IsVersion, is_1, is_2}
use Rattle.cpl.specs.Tests.{concat_map}
use Rattle.cpl.specs.Plan.{Expr, scan, Catalogue, Source}
use Rattle.cpl.specs.Read.{ok, Reader, little, field, value, count, any, times, counted, times_after, counted_after}
use Rattle.cpl.specs.ReadPlan.{mark_bytes, starts}
use Rattle.cpl.specs.Bytes.{bytes, counted_bytes, bytes_of}
use Rattle.cpl.specs.Writable.{FitList, FitAfter, FitLeaf, FitCatalogue, Writable}

empty-list : {A : Type 0} (xs : List A) → length xs ≤ 0 → xs ≡ []
empty-list [] h = refl
empty-list (x ∷ xs) h = absurd (omega arith)

-- ── what can be written ─────────────────────────────────────────────────────────────────────

pub no_keys : (C : Catalogue) → FitCatalogue C → C.version ≡ version1 → C.keys ≡ []
unfolding FitAfter
no_keys C h e = empty-list C.keys (rw (ap (λ (v : Version). v.max_table_keys) e) at h.keys_fit.0)

pub no_filters : (C : Catalogue) (t q : ℕ) (is : Option (List ℕ)) (es : List Expr) → FitLeaf C (scan t q is es) → C.version ≡ version1 → es ≡ []
unfolding FitLeaf FitList
no_filters C t q is es h e = empty-list es (rw (ap (λ (v : Version). v.max_filters) e) at h.3.0)

-- what does not start as version 2 does is of version 1
pub is-version1 : (s : Source) → Writable s → starts (mark_bytes version2) (bytes_of s) ≡ false → s.catalogue.version ≡ version1
unfolding bytes_of
is-version1 s w e = go w.tables.version_is _ e
  where
    go : {v : Version} → IsVersion v → (rest : List ℕ) → starts (mark_bytes version2) (mark_bytes v ++ rest) ≡ false → v ≡ version1
    go is_1 rest e = refl
    go is_2 rest e = absurd (unfold starts in true≢false e)

-- ── reading and writing ─────────────────────────────────────────────────────────────────────

-- inside the file, a list whose count has no bytes is read as no element
module _ {A : Type 0} (limit : ℕ) (file : List ℕ) (at tags nodes : ℕ) (inside : at ≤ length file) where
  pub none-counted : (p : Reader A) → counted 0 any limit p file at tags nodes ≡ ok [] at tags nodes
  unfolding counted count value field any times little
  none-counted p = let e : at + 0 ≡ at = omega arith in rw (e, le-leb at (length file) inside, le-leb 0 limit (omega arith))

  pub none-counted-after : (p : List A → Reader A) → counted_after 0 any limit p file at tags nodes ≡ ok [] at tags nodes
  unfolding counted_after count value field any times_after little
  none-counted-after p = let e : at + 0 ≡ at = omega arith in rw (e, le-leb at (length file) inside, le-leb 0 limit (omega arith))

pub count-byte : {A : Type 0} (w : A → List ℕ) (xs : List A) → length xs < 256 → counted_bytes 1 w xs ≡ length xs ∷ concat_map w xs
unfolding counted_bytes bytes
count-byte w xs h = ap (λ (n : ℕ). n ∷ concat_map w xs) (omega arith)
