-- The numbers of every version are small, so that sums of them fit a word: the only place in the code's proofs that goes by versions.
use Prim.Native.Nat.{ℕ, ◌+◌, ◌*◌, ◌≤◌, ◌<◌}
use native.Mathlib.Omega.{arith}
use Rattle.cpl.specs.Limits.{Version, IsVersion, is_1, is_2}

pub record Small (v : Version) : Type 0 where
  pub some-wide : 0 < v.wide
  pub wide-small : v.wide ≤ 2
  pub late-small : v.late ≤ 1
  pub columns-small : v.max_columns ≤ 512
  pub items-small : v.max_items ≤ 512
  pub fields-small : v.max_fields ≤ 512
  pub fields-items : v.max_fields ≤ v.max_items
  pub columns-fields : v.max_columns ≤ v.max_fields
  pub keys-small : v.max_table_keys ≤ 16
  pub filters-small : v.max_filters ≤ 16
  pub scan-rows : v.max_columns + v.max_filters ≤ 2 * v.max_items

pub small : {v : Version} → IsVersion v → Small v
small is_1 = record { some-wide = omega arith; wide-small = omega arith; late-small = omega arith; columns-small = omega arith; items-small = omega arith; fields-small = omega arith; fields-items = omega arith; columns-fields = omega arith; keys-small = omega arith; filters-small = omega arith; scan-rows = omega arith }
small is_2 = record { some-wide = omega arith; wide-small = omega arith; late-small = omega arith; columns-small = omega arith; items-small = omega arith; fields-small = omega arith; fields-items = omega arith; columns-fields = omega arith; keys-small = omega arith; filters-small = omega arith; scan-rows = omega arith }
