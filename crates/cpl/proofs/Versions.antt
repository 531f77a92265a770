-- What the widths and limits of a version must satisfy, and that those of every version do: the only place that goes by versions, but for the mark.
use Prim.Native.Nat.{◌≤◌, ◌<◌, ◌^◌}
use native.Mathlib.Omega.{arith}
use Rattle.cpl.specs.Limits.{Version, IsVersion, is_1, is_2}

-- every count and every column index fits its bytes, and as many items may be written as a node has fields
pub record Sound (v : Version) : Type 0 where
  pub columns-fit : v.max_columns < 256 ^ v.wide
  pub items-fit : v.max_items < 256 ^ v.wide
  pub fields_fit : v.max_fields ≤ v.max_items
  pub table-keys-fit : v.max_table_keys < 256 ^ v.late
  pub filters-fit : v.max_filters < 256 ^ v.late
  pub number_fits : v.number < 256

pub sound : {v : Version} → IsVersion v → Sound v
sound is_1 = record { columns-fit = omega arith; items-fit = omega arith; fields_fit = omega arith; table-keys-fit = omega arith; filters-fit = omega arith; number_fits = omega arith }
sound is_2 = record { columns-fit = omega arith; items-fit = omega arith; fields_fit = omega arith; table-keys-fit = omega arith; filters-fit = omega arith; number_fits = omega arith }
