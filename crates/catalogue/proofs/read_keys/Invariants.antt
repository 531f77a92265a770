-- The loop of `read_keys`: some keys were read, the others are left. Assumes nothing.
use Rattle.std.proofs.Common.{◌≡◌, ◌-◌, length}
use Rattle.cpl.specs.Plan.{Catalogue}
use Rattle.versions.specs.Versions.{version_of}
use Rattle.reader_heads.specs.Heads.{Widths}
use Rattle.catalogue.proofs.Keys.{KeysLeft}
use Rattle.catalogue.proofs.read_keys.Given as goal

abbrev pub invariant-loop : goal.invariant-loop
invariant-loop l =
    record {
      long : length l.keys ≡ length l.fn.keys;
      each : (C : Catalogue) → Widths l.names l.tables C → KeysLeft (version_of l.version) C.tables l.file l.n l.at l.fn.keys (l.n - l.counter) l.next l.taken l.keys;
    }
