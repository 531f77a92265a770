-- Scan and Empty. Assumes nothing.
use mathlib.Core.Path.{◌≡◌, refl, ap, subst, ◌∙◌}
use mathlib.Core.Bool.{Bool, false}
use mathlib.Core.List.{List}
use mathlib.Core.Option.{Option}
use Prim.Native.Nat.{ℕ, ◌-◌, ◌^◌, ◌<◌}
use lib.ListN.{length, length-map}
use Rattle.cpl.specs.Fields.{columns_of, leaf_fields, scan_field}
use Rattle.cpl.specs.Plan.{Expr, Pair, empty, names_of, scan}
use Rattle.cpl.proofs.Lists.{Fit-length}
use Rattle.rules.specs.Rules.{leaf_kept, leaf_rule}
use Rattle.required_indices.specs.Request.{Holds, set_of}
use Rattle.required_indices.specs.declared.RequiredIndices.{RequiredIndices}
use Rattle.required_indices.proofs.Methods.{all-asks}
use Rattle.result.specs.Result.{leaf_part}
use Rattle.jobs.specs.Job.{LeafJob}
use Rattle.jobs.specs.declared.Todo.TheVariants as todos
use Rattle.jobs.specs.declared.Rest.TheVariants as rests
use Rattle.jobs.proofs.Plain.{asks-mask, job}

pub scan-leaf : (none r : RequiredIndices) (t q : ℕ) (is : Option (List ℕ)) (es : List Expr) → LeafJob (scan t q is es) r (job todos.Leaf rests.Own none none r r)
unfolding leaf_part leaf_kept leaf_fields
scan-leaf none r t q is es = record {
  todo_is = refl;
  is = λ C R f a. record {
    part = ap (leaf_rule C (scan t q is es)) (asks-mask a (Fit-length f));
    set = subst (λ x. set_of r < 2 ^ x) (Fit-length f ∙ length-map (columns_of (names_of C t) is) (scan_field (names_of C t) q)) a.within;
    kept = a;
  };
}

pub empty_leaf : {kept : RequiredIndices} (none r : RequiredIndices) (b : Bool) (cs : List Pair) (n : ℕ) → n ≡ length cs → Holds kept (2 ^ n - 1) false
    → LeafJob (empty b cs) r (job todos.Leaf rests.Own none none none kept)
unfolding leaf_part leaf_rule leaf_kept
empty_leaf none r b cs n e g = record { todo_is = refl; is = λ C R f a. record { part = refl; set = tt; kept = all-asks cs n e g } }
