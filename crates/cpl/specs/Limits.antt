-- Every limit, in one place: those of the version, those that all versions have, and that of the settings. A count above its limit is refused with MANY, a
-- field list with FIELDS, a setting with SETTING.
use Rattle.std.specs.Prelude.{ℕ}

-- ── what a version decides ──────────────────────────────────────────────────────────────────

pub record Version : Type 0 where
  -- the number behind the mark
  pub number : ℕ
  -- the bytes of a count that `max_columns` or `max_items` limits, and of a column index
  pub wide : ℕ
  -- the columns of a table, of a scan's list and of a table's key
  pub max_columns : ℕ
  -- the items of a Projection, the groups and the aggregates of an Aggregate, the windows of a Window, the pairs of an Empty
  pub max_items : ℕ
  -- the fields of a node
  pub max_fields : ℕ
  -- the keys behind the tables and the filters behind a scan: the bytes of their counts, and their limits. A count of no bytes is 0.
  pub late : ℕ
  pub max_table_keys : ℕ
  pub max_filters : ℕ

-- Document 01: "u8 column count (to 64)", "Projection: u8 n (0 to 128)", "g and a to 128", "Window: u8 n (1 to 128)", "Empty: u8 n to 128", "Scan: u8 n
-- to 64, n u8 column indices", "FIELDS: over 128 fields"; neither keys nor filters
abbrev pub version1 : Version
version1 = record { number = 1; wide = 1; max_columns = 64; max_items = 128; max_fields = 128; late = 0; max_table_keys = 0; max_filters = 0 }

-- "limit 512, as is the field limit": no version has more columns, items or fields
abbrev pub max_wide : ℕ
max_wide = 512

-- Document 02: "each count limited to 64 or 128 is u16 with limit 512, as is the field limit; column indices are u16"; "u8 key count (to 16)", "a scan
-- ends in u8 n to 16 and n filter expressions"
abbrev pub version2 : Version
version2 = record { number = 2; wide = 2; max_columns = max_wide; max_items = max_wide; max_fields = max_wide; late = 1; max_table_keys = 16; max_filters = 16 }

-- the versions that there are
pub data IsVersion : Version → Type 0 where
  is_1 : IsVersion version1
  is_2 : IsVersion version2

-- ── what all versions have ──────────────────────────────────────────────────────────────────

-- "u8 table count (to 16)"
abbrev pub max_tables : ℕ
max_tables = 16

-- "Sort: u8 n (1 to 16)", "u8 p to 16", "u8 k to 16", "Join: u8 n to 16"
abbrev pub max_keys : ℕ
max_keys = 16

-- "At most 256 nodes and 4,096 expression tags in a file."
abbrev pub max_nodes : ℕ
max_nodes = 256

abbrev pub max_tags : ℕ
max_tags = 4096

-- "u32 fetch (4,294,967,295 = none)"
abbrev pub no_fetch : ℕ
no_fetch = 4294967295

-- ── settings ────────────────────────────────────────────────────────────────────────────────

-- "push mask above 4,095"
abbrev pub max_mask : ℕ
max_mask = 4095
