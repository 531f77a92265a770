-- A version of the format as code has it, and the lengths of the lent arrays that depend on the version.
use Rattle.std.specs.Prelude.{ℕ, ◌+◌, ◌*◌}
use Rattle.cpl.specs.Limits.{IsVersion, max_nodes, max_tags}
use Rattle.cpl.specs.Limits as cpl
use Rattle.versions.specs.declared.Version.{Version}

-- the version that the numbers are those of
abbrev pub version_of : Version → cpl.Version
version_of v =
    record { number = v.number; wide = v.wide; max_columns = v.columns; max_items = v.items; max_fields = v.fields; late = v.late; max_table_keys = v.keys; max_filters = v.filters }

-- it is one of those that there are
abbrev pub Known : Version → Type 0
Known v = IsVersion (version_of v)

-- ── lengths of lent arrays ──────────────────────────────────────────────────────────────────

-- the most rows that a node takes beside one for each of its tags: two for each window
abbrev pub node_rows : cpl.Version → ℕ
node_rows v = 2 * v.max_items

-- four numbers for each row: those of 256 nodes, of 4,096 tags, and 32 that a window may ask for
abbrev pub rows_room : cpl.Version → ℕ
rows_room v = 4 * (node_rows v * max_nodes + max_tags + 32)

-- two numbers for each field of 256 nodes
abbrev pub fields_room : cpl.Version → ℕ
fields_room v = v.max_fields * max_nodes * 2
