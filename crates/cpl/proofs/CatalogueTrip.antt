-- The catalogue is read as it is written. Assumes nothing.
use Prim.Native.Nat.{ℕ, ◌≤◌, ◌<◌}
use mathlib.Core.Path.{◌≡◌, refl}
use mathlib.Core.Bool.{true}
use mathlib.Core.List.{List, []}
use native.Mathlib.Omega.{arith}
use lib.ListN.{length, get_or}
use Rattle.cpl.specs.Limits.{Version, IsVersion, max_tables}
use Rattle.cpl.specs.Lists.{a[]}
use Rattle.cpl.specs.Plan.{TableKey, Catalogue, names_of, keyed_tables}
use Rattle.cpl.specs.Read.{value, is_not, nonzero, fresh, any, counted, counted_after}
use Rattle.cpl.specs.ReadPlan.{read_table_key, read_catalogue}
use Rattle.cpl.specs.Bytes.{bytes, counted_bytes, table_key_bytes, catalogue_bytes}
use Rattle.cpl.specs.Writable.{FitList, FitAfter, FitName, FitTableKey, FitCatalogue}
use Rattle.cpl.proofs.Versions.{Sound, sound}
use Rattle.cpl.proofs.Stands.{all_at}
use Rattle.cpl.proofs.Codec.{Reads, reads_then, reads-map, only_then, only_map, Codec, nought}
use Rattle.cpl.proofs.FieldTrip.{name_codec, plain_codec, fresh_codec, list-after_codec, some-after_codec}

-- a table, there or not, has few columns
few : (most : ℕ) (tables : List (List ℕ)) → FitList (FitList FitName most) max_tables tables → (t : ℕ) → length (get_or tables t []) ≤ most
unfolding FitList
few most tables h t = (all_at [] h.1 (omega arith, a[]) t).0

pub few-columns : (C : Catalogue) → FitCatalogue C → (t : ℕ) → length (names_of C t) ≤ C.version.max_columns
few-columns C h t = few C.version.max_columns C.tables h.tables_fit t

module _ (v : Version) (is-version : IsVersion v) where
  abbrev laws : Sound v
  laws = sound is-version

  abbrev FitTables : List (List ℕ) → Type 0
  FitTables tables = FitList (FitList FitName v.max_columns) max_tables tables

  tables_codec : Codec FitTables (counted_bytes 1 (counted_bytes v.wide (bytes 2))) nought nought (counted 1 any max_tables (counted v.wide any v.max_columns (nonzero 2)))
  tables_codec = plain_codec (plain_codec name_codec v.wide v.max_columns laws.columns-fit) 1 max_tables (omega arith)

  module _ (tables : List (List ℕ)) (tables_fit : FitTables tables) where
    columns_of-key : (t : ℕ) → let n = length (get_or tables t []) in
        Codec (λ is. (0 < length is) × FitAfter (λ taken i. fresh n taken i ≡ true) v.max_columns is) (counted_bytes v.wide (bytes v.wide)) nought nought
        (counted_after v.wide (is_not 0) v.max_columns (λ taken. value v.wide (fresh n taken)))
    columns_of-key t =
        some-after_codec (λ taken. fresh_codec v.wide (length (get_or tables t [])) taken (omega (arith, laws.columns-fit, few v.max_columns tables tables_fit t))) v.wide v.max_columns laws.columns-fit

    few_tables : length tables ≤ 256
    unfolding FitList
    few_tables = omega (arith, tables_fit.0)

    table-key_codec : (before : List TableKey) → Codec (FitTableKey v tables before) (table_key_bytes v) nought nought (read_table_key v tables before)
    unfolding table_key_bytes read_table_key
    table-key_codec before =
        record {
          reads =
              λ k h.
              reads_then _ ((fresh_codec 1 (length tables) (keyed_tables before) few_tables).reads k.table h.table_fresh)
              (reads-map (of_table k.table) ((columns_of-key k.table).reads k.columns (h.some_columns, h.columns_fresh)));
          only =
              only_then _ (fresh_codec 1 (length tables) (keyed_tables before) few_tables) λ t h.
              only_map (of_table t) (columns_of-key t) λ is g. (record { table_fresh = h; some_columns = g.0; columns_fresh = g.1 }, refl, refl, refl);
        }
      where
        of_table : ℕ → List ℕ → TableKey
        of_table t is = record { table = t; columns = is }

    keys_codec : Codec (FitAfter (FitTableKey v tables) v.max_table_keys) (counted_bytes v.late (table_key_bytes v)) nought nought (counted_after v.late any v.max_table_keys (read_table_key v tables))
    keys_codec = list-after_codec table-key_codec v.late v.max_table_keys laws.table-keys-fit

catalogue-reads : (C : Catalogue) → FitCatalogue C → Reads (read_catalogue C.version) C (catalogue_bytes C) 0 0
unfolding catalogue_bytes read_catalogue
catalogue-reads C h =
    let v = C.version in
    reads_then _ ((tables_codec v h.version_is).reads C.tables h.tables_fit)
    (reads-map (λ (ks : List TableKey). record { version = v; tables = C.tables; keys = ks }) ((keys_codec v h.version_is C.tables h.tables_fit).reads C.keys h.keys_fit))

-- the catalogues of a version
pub catalogue_codec : (v : Version) → IsVersion v → Codec (λ C. FitCatalogue C × (C.version ≡ v)) catalogue_bytes nought nought (read_catalogue v)
unfolding catalogue_bytes read_catalogue
catalogue_codec v is-version =
    record {
      reads = λ C h. rw (← h.1) (catalogue-reads C h.0);
      only =
          only_then _ (tables_codec v is-version) λ ts g.
          only_map (λ (ks : List TableKey). record { version = v; tables = ts; keys = ks }) (keys_codec v is-version ts g) λ ks h.
          ((record { version_is = is-version; tables_fit = g; keys_fit = h }, refl), refl, refl, refl);
    }
