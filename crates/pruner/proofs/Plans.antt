-- What is known of a plan that was taken in: it stands, and the walk can start at its root. Assumes nothing.
use mathlib.Core.Path.{◌≡◌, refl}
use mathlib.Core.List.{List}
use Prim.Native.Nat.{ℕ, ◌≤◌}
use native.Mathlib.Omega.{arith}
use lib.ListN.{length}
use Rattle.cpl.specs.AreBytes.{AreBytes}
use Rattle.cpl.specs.Fields.{fields_of}
use Rattle.rules.specs.Mask.{Mask}
use Rattle.rules.proofs.Requests.{fit-mask}
use Rattle.tree.proofs.Plans.{nodes-pos}
use Rattle.lookup.specs.Standing.{Standing}
use Rattle.node_keys.specs.Keys.{KeysFound, PlanAsked}
use Rattle.acceptance.specs.Readings.{root_plan}
use Rattle.acceptance.proofs.Plans.{standing}
use Rattle.intake.specs.Intake.{Taken, asked_of}
use Rattle.intake.specs.declared.Intake.{Intake}
use Rattle.delivery.specs.Delivery.{Walkable}
use Rattle.pruner.proofs.Files.{taken-heads}

-- ── what was taken in ───────────────────────────────────────────────────────────────────────

module _ {file : List ℕ} {request : ℕ → List ℕ} {cells rows nodes fields widths keys : List ℕ} {r : Intake}
    (t : Taken file request cells rows nodes fields widths keys r) where
  abbrev pub taken_stands : Standing cells rows nodes fields widths
  taken_stands = standing t.plan

  -- the keys of its nodes can be worked out
  abbrev pub keys_start : 2448 ≤ length keys → PlanAsked cells rows nodes fields widths keys r.count
  keys_start lk = record { standing = taken_stands; count_is = refl; room = omega (arith, lk) }

  -- the fields of the root that are asked for
  abbrev pub asked : Mask
  asked = asked_of t.plan.C (root_plan cells rows nodes) request

  -- the walk can start at the root
  abbrev pub walkable : {keys' : List ℕ} → AreBytes file → 2448 ≤ length keys → KeysFound cells rows nodes fields widths r.count keys keys'
      → Walkable r.version file r.start cells rows nodes fields widths keys' r.set
  walkable b lk f = record {
    standing = taken_stands;
    version_is = t.plan.version_is;
    heads = taken-heads b t;
    keyed = record { room = omega (arith, lk, f.long); nodes_have = (f.is taken_stands refl t.plan.keyed).1 };
    within = omega (arith, t.plan.whole, nodes-pos (root_plan cells rows nodes));
    R = asked;
    fit = fit-mask (request (length (fields_of t.plan.C (root_plan cells rows nodes)))) (fields_of t.plan.C (root_plan cells rows nodes));
    asks = t.asks;
  }
