-- What the walk says of lent arrays by their types (`Plan`, `Scratch`, `Rewriting`): the definitions of Walk.
use Rattle.std.specs.Prelude.{Result, Bool, ℕ}
use Rattle.required_indices.specs.declared.RequiredIndices.{RequiredIndices}
use Rattle.arena.specs.declared.Full.{Full}
use Rattle.result.specs.Records.{results}
use Rattle.result.specs.Result.{Results}
use Rattle.jobs.specs.declared.Job.{Job}
use Rattle.walk_steps.specs.declared.Inputs.{Inputs}
use Rattle.walk_steps.specs.declared.Pending.{Pending}
use Rattle.walk_steps.specs.declared.Used.{Used}
use Rattle.walk_steps.specs.declared.Walked.{Walked}
use Rattle.optimize_projections.specs.Walk.{After, Before, BeforeInputs, BeforeList, InputAfter, InputsAfter, ListAfter, PutAfter}
use Rattle.optimize_projections.specs.declared.Plan.{Plan}
use Rattle.optimize_projections.specs.declared.Rewriting.{Rewriting}
use Rattle.optimize_projections.specs.declared.Scratch.{Scratch}
use Rattle.optimize_projections.specs.declared.Settings.{Settings}

-- what stands in the result's arrays
abbrev pub rewritten : Rewriting → Results
rewritten w = results w.records.now w.items.now w.icells.now

-- before the walk over a node, with a list or without, or over its inputs
abbrev pub PlanBefore : Plan → Rewriting → (k : ℕ) → RequiredIndices → Used → Type 0
PlanBefore p w = Before p.cells.now p.rows.now p.nodes.now p.fields.now p.widths.now p.keys.now (rewritten w)

abbrev pub PlanBeforeList : Plan → Scratch → Rewriting → (k : ℕ) → Pending → RequiredIndices → Used → Type 0
PlanBeforeList p a w = BeforeList p.cells.now p.rows.now p.nodes.now p.fields.now p.widths.now p.keys.now a.rows.now a.cells.now (rewritten w)

abbrev pub PlanBeforeInputs : Plan → Rewriting → (k : ℕ) → Job → Used → Type 0
PlanBeforeInputs p w = BeforeInputs p.cells.now p.rows.now p.nodes.now p.fields.now p.widths.now p.keys.now (rewritten w)

-- and after it
abbrev pub PlanAfter : Settings → Plan → (w w' : Rewriting) → (k : ℕ) → RequiredIndices → Used → Result Walked Full → Type 0
PlanAfter s p w w' = After s p.cells.now p.rows.now p.nodes.now p.fields.now p.widths.now p.keys.now (rewritten w) (rewritten w')

abbrev pub PlanInputAfter : Settings → Plan → (w w' : Rewriting) → (k : ℕ) → RequiredIndices → (topped : Bool) → Used → Result Walked Full → Type 0
PlanInputAfter s p w w' = InputAfter s p.cells.now p.rows.now p.nodes.now p.fields.now p.widths.now p.keys.now (rewritten w) (rewritten w')

abbrev pub PlanListAfter : Settings → Plan → Scratch → (w w' : Rewriting) → (k : ℕ) → Pending → RequiredIndices → Used → Result Walked Full → Type 0
PlanListAfter s p a w w' = ListAfter s p.cells.now p.rows.now p.nodes.now p.fields.now p.widths.now p.keys.now a.rows.now a.cells.now (rewritten w) (rewritten w')

abbrev pub PlanPutAfter : Settings → Plan → Scratch → (w w' : Rewriting) → (k : ℕ) → Pending → RequiredIndices → Used → Result Walked Full → Type 0
PlanPutAfter s p a w w' = PutAfter s p.cells.now p.rows.now p.nodes.now p.fields.now p.widths.now p.keys.now a.rows.now a.cells.now (rewritten w) (rewritten w')

abbrev pub PlanInputsAfter : Settings → Plan → (w w' : Rewriting) → (k : ℕ) → Job → Used → Result Inputs Full → Type 0
PlanInputsAfter s p w w' = InputsAfter s p.cells.now p.rows.now p.nodes.now p.fields.now p.widths.now p.keys.now (rewritten w) (rewritten w')
