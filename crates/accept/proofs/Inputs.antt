-- The head of a node by its inputs. Assumes nothing.
use mathlib.Core.Path.{◌≡◌, refl, sym, subst}
use Rattle.cpl.specs.Plan.{Binary, Leaf, Unary}
use Rattle.cpl.specs.ReadPlan.{h0, h1, h2}
use Rattle.tree.specs.Node.{inputs_of}
use Rattle.tree.specs.Tree.{Arrays, head_of, right_of}
use Rattle.tree.specs.declared.Inputs.{Inputs}
use Rattle.tree.specs.declared.Inputs.TheVariants.{Nothing, One, Two}
use Rattle.tree.specs.declared.Node.{Node}
use Rattle.tree.specs.declared.Node.TheVariants.{Projection, Filter, Sort, Limit, Aggregate, Window, SubqueryAlias, Union, Distinct, Join, Scan, Empty}

-- a node's head has as many inputs as the node
abbrev pub KidsAre : Node → Inputs → Type 0
KidsAre n Nothing = (a : Arrays) → (h : Leaf) × (head_of a n ≡ h0 h)
KidsAre n One = (a : Arrays) → (h : Unary) × (head_of a n ≡ h1 h)
KidsAre n (Two r) = (r ≡ right_of n) × ((a : Arrays) → (h : Binary) × (head_of a n ≡ h2 h))

kids : (n : Node) → KidsAre n (inputs_of n)
kids (Projection f n) = λ a. (_, refl)
kids (Filter r) = λ a. (_, refl)
kids (Sort f n) = λ a. (_, refl)
kids (Limit s n) = λ a. (_, refl)
kids (Aggregate f g v) = λ a. (_, refl)
kids (Window f n) = λ a. (_, refl)
kids (SubqueryAlias q) = λ a. (_, refl)
kids (Union r) = (refl, λ a. (_, refl))
kids Distinct = λ a. (_, refl)
kids (Join j) = (refl, λ a. (_, refl))
kids (Scan s) = λ a. (_, refl)
kids (Empty b f n) = λ a. (_, refl)

pub kids_are : (n : Node) {i : Inputs} → i ≡ inputs_of n → KidsAre n i
kids_are n e = subst (KidsAre n) (sym e) (kids n)
