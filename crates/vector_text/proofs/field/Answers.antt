-- `vector_text::field` meets its contract: the pieces are those of `split`. Assumes nothing.
use Rattle.std.proofs.Common.{rules}
use Rattle.std.proofs.lemmas.Iterator.Consumers.{nth_from_yields_List}
use Rattle.std.proofs.lemmas.Iterator.Splits.{YieldsList-from_slice_split}
use Rattle.std.proofs.lemmas.Option.{unwrap_or-slice_get}
use Rattle.std.specs.List.{slice_get}
use Rattle.std.specs.Option.{option_map, unwrap_or}
use Rattle.std.specs.Prelude.{None, Option, Some}
use Prim.Native.Nat.{ℕ}
use borrow.Author.Tests.{tests}
use denote.Bor.{Bor}
use lib.Dec.{eqb}
use mathlib.Core.List.{List, []}
use mathlib.Core.Path.{◌≡◌, ap, ◌∙◌}
use Rattle.vector_text.proofs.field.Goals as goal

seen : (pieces : List (List ℕ)) (k : ℕ) (r : Option (Bor (List ℕ))) (none : Bor (List ℕ)) → option_map (λ x. x.now) r ≡ slice_get pieces k
    → (unwrap_or r none).now ≡ unwrap_or (slice_get pieces k) none.now
seen pieces k None none e = ap (λ o. unwrap_or o none.now) e
seen pieces k (Some x) none e = ap (λ o. unwrap_or o none.now) e

pub returns : goal.returns
returns c =
    let nth = nth_from_yields_List _ c.nth.new.self c.args.k c.nth.ensures.ran
    (YieldsList-from_slice_split _ (λ (x : ℕ). eqb x 32) c.args.line.now c.split.ensures.rest c.split.ensures.done c.split.ensures.closure
    (λ x b q k. search (rules, tests))) in
    ap (λ p. p.now) c.unwrap_or.ensures ∙ seen _ c.args.k c.nth.result _ nth ∙ unwrap_or-slice_get _ c.args.k []
