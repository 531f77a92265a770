-- From a plan that can be walked to what the walk left. Assumes nothing.
use mathlib.Core.Path.{◌≡◌}
use mathlib.Core.List.{List}
use Prim.Native.Nat.{ℕ}
use native.Mathlib.Omega.{arith}
use lib.ListN.{length}
use Rattle.arena.proofs.Laws.{wf-none}
use Rattle.versions.specs.declared.Version.{Version}
use Rattle.required_indices.specs.declared.RequiredIndices.{RequiredIndices}
use Rattle.result.specs.Records.{results}
use Rattle.result.proofs.Grow as records
use Rattle.std.proofs.Common.{Result}
use Rattle.arena.specs.declared.Full.{Full}
use Rattle.walk_steps.specs.declared.Walked.{Walked}
use Rattle.optimize_projections.specs.Walk.{After, Before}
use Rattle.optimize_projections.specs.declared.Settings.{Settings}
use Rattle.delivery.specs.Delivery.{Rewritten, Walkable, nothing_used, root_walk}

module _ {version : Version} {file : List ℕ} {start : ℕ} {cells rows nodes fields widths keys : List ℕ} {request : RequiredIndices}
    (x : Walkable version file start cells rows nodes fields widths keys request) where
  -- the walk can start at the root, with nothing in use of the result's arrays
  abbrev pub walk-starts : {records items icells : List ℕ} → length records ≡ 3328 → length items ≡ 16896 → length icells ≡ 12288
      → Before cells rows nodes fields widths keys (results records items icells) 0 request nothing_used
  walk-starts {icells = icells} lr li lc = record {
    standing = x.standing;
    keyed = x.keyed;
    within = x.within;
    ready = record {
      wf = records.wf-none;
      records_long = omega (arith, lr);
      cells_long = omega (arith, lc);
      room = record { behind = omega arith; rows_fit = omega (arith, li, lc); few = omega (arith, lc); wf = wf-none icells };
    };
    R = x.R;
    fit = x.fit;
    asks = x.asks;
  }

  -- what the walk leaves is handed on
  abbrev pub handed_on : {s : Settings} {records items icells records' items' icells' : List ℕ} {w : Result Walked Full}
      → length records ≡ 3328 → length items ≡ 16896 → length icells ≡ 12288
      → After s cells rows nodes fields widths keys (results records items icells) (results records' items' icells') 0 request nothing_used w
      → Rewritten version file start cells rows nodes fields widths records' items' icells' w
  handed_on {s} {records} {items} {icells} {w = w} lr li lc a = record {
    standing = x.standing;
    version_is = x.version_is;
    heads = x.heads;
    walked = root_walk s x.standing.C cells rows nodes request x.R;
    before = results records items icells;
    ends = a.is (walk-starts lr li lc);
    room = lr;
  }
