-- The arrays that entries make are long enough for the file's version. Assumes nothing.
use mathlib.Core.Path.{◌≡◌, ap, subst}
use mathlib.Core.Bool.{Bool, true, false}
use mathlib.Core.List.{List}
use Prim.Native.Nat.{ℕ, ◌≤◌}
use native.Mathlib.Omega.{arith}
use lib.ListN.{length}
use Rattle.cpl.specs.Codes.{MARK}
use Rattle.cpl.specs.Limits.{Version, IsVersion, is_1, is_2, version1, version2}
use Rattle.cpl.specs.Read.{Res, ok, bad, pick}
use Rattle.cpl.specs.ReadPlan.{mark_bytes, read_mark, starts}
use Rattle.versions.specs.Versions.{fields_room, rows_room}
use Rattle.acceptance.specs.Readings.{Fits, Marked, Narrow, Room}

-- ── a mark is that of a version ─────────────────────────────────────────────────────────────

abbrev version_or : Version → Res Version → Version
version_or v (ok u at tags nodes) = u
version_or v (bad code place) = v

marked_by : (v : Version) (a b : Bool) → pick a (ok version1 5 0 0) (pick b (ok version2 5 0 0) (bad MARK 0)) ≡ ok v 5 0 0 → IsVersion v
marked_by v true b e = subst IsVersion (ap (version_or v) e) is_1
marked_by v false true e = subst IsVersion (ap (version_or v) e) is_2
marked_by v false false e = absurd (let z : false ≡ true = ap good e in mathlib.Core.Bool.true≢false (mathlib.Core.Path.sym z))
  where
    good : Res Version → Bool
    good (ok u at tags nodes) = true
    good (bad code place) = false

pub mark_known : (file : List ℕ) (v : Version) → Marked file v → IsVersion v
unfolding read_mark
mark_known file v e = marked_by v (starts (mark_bytes version1) file) (starts (mark_bytes version2) file) e

-- ── lengths ─────────────────────────────────────────────────────────────────────────────────

wide_rows : {v : Version} → IsVersion v → rows_room v ≤ 1065088
wide_rows is_1 = omega arith
wide_rows is_2 = omega arith

wide-fields : {v : Version} → IsVersion v → fields_room v ≤ 262144
wide-fields is_1 = omega arith
wide-fields is_2 = omega arith

narrow_rows : {v : Version} → IsVersion v → v.max_fields ≤ 128 → rows_room v ≤ 278656
narrow_rows is_1 l = omega arith
narrow_rows is_2 l = absurd (omega (arith, l))

narrow_fields : {v : Version} → IsVersion v → v.max_fields ≤ 128 → fields_room v ≤ 65536
narrow_fields is_1 l = omega arith
narrow_fields is_2 l = absurd (omega (arith, l))

module _ (file : List ℕ) where
  -- for every file
  pub wide_fits : Fits file 1065088 262144
  wide_fits v k = (wide_rows (mark_known file v k), wide-fields (mark_known file v k))

  -- for a narrow one
  pub narrow_fits : Narrow file → Fits file 278656 65536
  narrow_fits h v k = (narrow_rows (mark_known file v k) (h v k), narrow_fields (mark_known file v k) (h v k))

module _ (file : List ℕ) {cells rows nodes names fields widths keys : List ℕ} (c : length cells ≡ 12288) (n : length nodes ≡ 1792) (m : length names ≡ 8208)
    (w : length widths ≡ 512) (y : length keys ≡ 2448) where
  pub fitted_room : {of_rows of_fields : ℕ} → Fits file of_rows of_fields → length rows ≡ of_rows → length fields ≡ of_fields → Room file cells rows nodes names fields widths keys
  fitted_room h r f = record {
    cells_long = omega arith;
    rows_long = λ v k. omega (arith, h v k, r);
    nodes_long = omega arith;
    names_long = omega arith;
    fields_long = λ v k. omega (arith, h v k, f);
    widths_long = omega arith;
    keys_long = omega arith;
  }

  -- for every file
  pub wide_room : length rows ≡ 1065088 → length fields ≡ 262144 → Room file cells rows nodes names fields widths keys
  wide_room = fitted_room (wide_fits file)

  -- for a narrow one
  pub narrow_room : Narrow file → length rows ≡ 278656 → length fields ≡ 65536 → Room file cells rows nodes names fields widths keys
  narrow_room h = fitted_room (narrow_fits file h)
