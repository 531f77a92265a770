-- `node_keys::scan_key` meets its contract: all columns, or those that are given. Assumes nothing.
use Rattle.node_keys.proofs.Scans.{scan_carries, scan-empty, scan-whole}
use mathlib.Core.Bool.{Bool, true, false, not, true≢false}
use mathlib.Core.Path.{◌≡◌, refl, sym, ◌∙◌}
use Rattle.node_keys.proofs.scan_key.Goals as goal
use Rattle.node_keys.proofs.scan_key.Goals.{then-not-scan-via-then-not-scan, then-not-scan-via-else-not-scan+then-is_empty}

is_given : {b : Bool} → not b ≡ false → b ≡ true
is_given {b = true} e = refl
is_given {b = false} e = absurd (true≢false e)

not_given : {b : Bool} → not b ≡ true → b ≡ false
not_given {b = true} e = sym e
not_given {b = false} e = refl

pub returns-then-not-scan : goal.returns-then-not-scan
returns-then-not-scan c = elim c.then-not-scan.branch [
  | then-not-scan-via-then-not-scan w ↦ scan-whole (not_given w.if-not-scan.true) c.key_at-key.ensures
  | then-not-scan-via-else-not-scan+then-is_empty w ↦ scan-empty (is_given w.if-not-scan.false) c.key_at-key.ensures (sym w.is_empty.ensures ∙ w.if-is_empty.true)
]

pub returns : goal.returns
returns c = scan_carries (is_given c.if-not-scan.false) c.key_at-key.ensures c.found_columns-found.ensures c.carried.ensures
