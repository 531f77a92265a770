-- `read_all_keys` meets its contract. Assumes nothing.
use Rattle.std.proofs.lemmas.Result.{err_from_is_err_and}
use Rattle.cpl.specs.Read.{any}
use Rattle.cpl.specs.ReadPlan.{read_table_key}
use Rattle.reader_parts.proofs.Counts.{from-any}
use Rattle.catalogue.proofs.Keys.{counted-after-bad, counted-after-right, tables_put}
use Rattle.versions.specs.Versions.{version_of}
use native.Mathlib.Omega.{arith}
use Rattle.catalogue.proofs.read_all_keys.Goals as goal

pub read_keys-requires : goal.read_keys-requires
read_keys-requires c = record { tables_bound = omega (arith, c.requires.tables_bound, c.clear_keys.auto.keys); by_index = c.requires.by_index; widths = c.requires.widths }

pub returns-in_err-count : goal.returns-in_err-count
returns-in_err-count c =
    let p = err_from_is_err_and c.from_residual.result c.from_residual.ensures.1 in
    λ C wide. rw (p.1, p.2) (counted-after-bad _ any _ (read_table_key (version_of c.args.version) C.tables) _ _ (rw c.in_err-count.was at (c.read_count.ensures any from-any)))

pub returns : goal.returns
returns c =
    λ C wide. let e = rw c.in_ok-count.was at (c.read_count.ensures any from-any) in
    counted-after-right _ any _ (read_table_key (version_of c.args.version) C.tables) _ _ _ _ e.0 (λ ks. tables_put ks c.clear_keys.ensures) c.read_keys.result (c.read_keys.ensures C wide)
