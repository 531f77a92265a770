-- A plan that can be walked, and the rewritten plan on its way to the output.
use Rattle.std.specs.Prelude.{◌≡◌, Result, List, ◌++◌, ℕ, ◌*◌, ◌<◌, ◌≤◌, ltb, length, take}
use Rattle.std.proofs.Math.Option.{none}
use Rattle.cpl.specs.Bytes.{bytes_of, plan_bytes}
use Rattle.cpl.specs.Codes.{LARGE}
use Rattle.cpl.specs.Fields.{fields_of}
use Rattle.cpl.specs.Limits.{max_nodes, max_tags}
use Rattle.cpl.specs.Lists.{Fit}
use Rattle.cpl.specs.Plan.{Catalogue, Plan}
use Rattle.cpl.specs.Read.{pick}
use Rattle.rules.specs.Answer as rules
use Rattle.rules.specs.Mask.{Mask}
use Rattle.rules.specs.Rewrite as rewriting
use Rattle.rules.specs.Success.{source_of}
use Rattle.versions.specs.Versions.{version_of}
use Rattle.versions.specs.declared.Version.{Version}
use Rattle.required_indices.specs.Request.{Asks, flag_of}
use Rattle.required_indices.specs.declared.RequiredIndices.{RequiredIndices}
use Rattle.tree.specs.Tree.{lent, plan_at}
use Rattle.lookup.specs.Standing.{Standing}
use Rattle.result.specs.Result.{Results, record_n}
use Rattle.result.specs.Records.{results}
use Rattle.jobs.specs.Asked.{AllKeys}
use Rattle.arena.specs.declared.Full.{Full}
use Rattle.walk_steps.specs.declared.Used.{Used}
use Rattle.walk_steps.specs.declared.Walked.{Walked}
use Rattle.optimize_projections.specs.Walk.{WalkIs, merge_by}
use Rattle.optimize_projections.specs.declared.Settings.{Settings}

-- a result of so many tags and these bytes: "LARGE … 0", "ROOM: output shorter than the result; length needed", or the bytes
unfoldable pub delivered : (tags : ℕ) (bytes out : List ℕ) → rules.Answer
delivered tags bytes out = pick (ltb max_tags tags) (rules.refusal LARGE 0 out) (rules.written bytes out)

-- the first `start` bytes of the file are those that a file with the catalogue C has before its plan
pub record Heads (file : List ℕ) (start : ℕ) (C : Catalogue) : Type 0 where
  pub inside : start ≤ length file
  pub bytes_are : (p : Plan) → take start file ++ plan_bytes C.version p ≡ bytes_of (source_of C p)

-- ── a plan that can be walked ───────────────────────────────────────────────────────────────

-- the plan at node 0, in a file of that version that starts with the catalogue's bytes, and the fields R of it that are asked for
pub record Walkable (version : Version) (file : List ℕ) (start : ℕ) (cells rows nodes fields widths keys : List ℕ) (request : RequiredIndices) : Type 0 where
  pub standing : Standing cells rows nodes fields widths
  pub version_is : standing.C.version ≡ version_of version
  pub heads : Heads file start standing.C
  pub keyed : AllKeys standing keys
  pub within : 0 < standing.count
  pub R : Mask
  pub fit : Fit R (fields_of standing.C (plan_at (lent cells rows nodes) 0))
  pub asks : Asks request R

-- what the rules make of it
abbrev pub root_walk : (s : Settings) (C : Catalogue) (cells rows nodes : List ℕ) (request : RequiredIndices) (R : Mask) → rewriting.Walked
root_walk s C cells rows nodes request R = rewriting.walk (merge_by s) C (plan_at (lent cells rows nodes) 0) none (flag_of request) R

-- ── a rewritten plan ────────────────────────────────────────────────────────────────────────

-- nothing of the result's arrays is in use
abbrev pub nothing_used : Used
nothing_used = record { records = 0; rows = 0; cells = 0 }

-- the plan that the walk left: at a record of the result's arrays, which hold 256 of them as they did before the walk, or too large
pub record Rewritten (version : Version) (file : List ℕ) (start : ℕ) (cells rows nodes fields widths records items icells : List ℕ) (end : Result Walked Full) : Type 0 where
  pub standing : Standing cells rows nodes fields widths
  pub version_is : standing.C.version ≡ version_of version
  pub heads : Heads file start standing.C
  pub walked : rewriting.Walked
  pub before : Results
  pub ends : WalkIs standing.C (lent cells rows nodes) standing.count before (results records items icells) nothing_used walked end
  pub room : length before.records ≡ max_nodes * record_n
