-- The lines of a plan in the lent arrays: a node's own, then those of its inputs. Assumes nothing.
use mathlib.Core.Path.{◌≡◌, refl, ap}
use mathlib.Core.List.{List, [], ◌++◌}
use Prim.Native.Nat.{ℕ, suc, ◌+◌, ◌<◌}
use native.Mathlib.Omega.{arith}
use Rattle.cpl.specs.Plan.{Binary, Leaf, Unary, leaf}
use Rattle.cpl.specs.ReadPlan.{Head, h0, h1, h2}
use Rattle.plan_text.specs.Listing.{indent, line_text, plan_text}
use Rattle.plan_text.specs.Words.{w_newline}
use Rattle.plan_text.specs.Write.{◌·◌, head_text, word}
use Rattle.tree.specs.Shows.{HasInput, HasInputs, Shows, TakenApart}
use Rattle.tree.specs.Tree.{PartsOk, head_of, lent, plan_at}
use Rattle.tree.specs.declared.Node.{Node}
use Rattle.tree.specs.declared.Node.TheVariants.{Projection, Filter, Sort, Limit, Aggregate, Window, SubqueryAlias, Union, Distinct, Join, Scan, Empty}
use Rattle.text_put.specs.Puts.{Puts}
use Rattle.text_put.proofs.Laws.{◌then◌, as_text}
use Rattle.tree.specs.Node.{inputs_of}
use Rattle.text_plan.specs.Heads.{NodeOk, Walks, node_text}
use Rattle.tree.specs.declared.Inputs.{Inputs}
use Rattle.tree.specs.declared.Inputs.TheVariants.{Nothing, One, Two}

-- a node's text and its rows do not depend on the array of nodes
head-same : (cells s xs ys : List ℕ) (n : Node) → head_of (lent cells s xs) n ≡ head_of (lent cells s ys) n
head-same cells s xs ys (Projection f n) = refl
head-same cells s xs ys (Filter r) = refl
head-same cells s xs ys (Sort f n) = refl
head-same cells s xs ys (Limit k n) = refl
head-same cells s xs ys (Aggregate f g v) = refl
head-same cells s xs ys (Window f n) = refl
head-same cells s xs ys (SubqueryAlias q) = refl
head-same cells s xs ys (Union r) = refl
head-same cells s xs ys Distinct = refl
head-same cells s xs ys (Join j) = refl
head-same cells s xs ys (Scan k) = refl
head-same cells s xs ys (Empty b f n) = refl

parts_same : (cells s xs ys : List ℕ) (n : Node) → PartsOk (lent cells s xs) n → PartsOk (lent cells s ys) n
parts_same cells s xs ys (Projection f n) o = o
parts_same cells s xs ys (Filter r) o = o
parts_same cells s xs ys (Sort f n) o = o
parts_same cells s xs ys (Limit k n) o = o
parts_same cells s xs ys (Aggregate f g v) o = o
parts_same cells s xs ys (Window f n) o = o
parts_same cells s xs ys (SubqueryAlias q) o = o
parts_same cells s xs ys (Union r) o = o
parts_same cells s xs ys Distinct o = o
parts_same cells s xs ys (Join j) o = o
parts_same cells s xs ys (Scan k) o = o
parts_same cells s xs ys (Empty b f n) o = o

-- ── a node and its inputs ───────────────────────────────────────────────────────────────────

module _ (cells s nodes : List ℕ) (count k : ℕ) where
  -- the lines of the plan at node k, by its inputs
  abbrev Goes : Head → Inputs → Type 0
  Goes h Nothing = (level : ℕ) (rest : List ℕ) → plan_text level (plan_at (lent cells s nodes) k) rest ≡ line_text level h rest
  Goes h One =
      (k + 1 < count)
      × ((level : ℕ) (rest : List ℕ) → plan_text level (plan_at (lent cells s nodes) k) rest ≡ line_text level h (plan_text (suc level) (plan_at (lent cells s nodes) (k + 1)) rest))
  Goes h (Two r) =
      (k + 1 < r) × (r < count)
      × ((level : ℕ) (rest : List ℕ) → plan_text level (plan_at (lent cells s nodes) k) rest
      ≡ line_text level h (plan_text (suc level) (plan_at (lent cells s nodes) (k + 1)) (plan_text (suc level) (plan_at (lent cells s nodes) r) rest)))

  leaf_goes : (h : Leaf) → plan_at (lent cells s nodes) k ≡ leaf h → Goes (h0 h) Nothing
  unfolding plan_text
  leaf_goes h e level rest = ap (λ p. plan_text level p rest) e

  one_goes : (h : Unary) → HasInput (lent cells s nodes) count k h → Goes (h1 h) One
  unfolding plan_text
  one_goes h i = (i.below, λ level rest. ap (λ p. plan_text level p rest) i.plan)

  two_goes : (h : Binary) (r : ℕ) → HasInputs (lent cells s nodes) count k r h → Goes (h2 h) (Two r)
  unfolding plan_text
  two_goes h r i = (i.after, i.below, λ level rest. ap (λ p. plan_text level p rest) i.plan)

  goes : (n : Node) → Shows (lent cells s nodes) count k n → Goes (head_of (lent cells s nodes) n) (inputs_of n)
  goes (Projection f n) i = one_goes _ i.0
  goes (Filter r) i = one_goes _ i.0
  goes (Sort f n) i = one_goes _ i.0
  goes (Limit x n) i = one_goes _ i.0
  goes (Aggregate f g v) i = one_goes _ i.0
  goes (Window f n) i = one_goes _ i.0
  goes (SubqueryAlias q) i = one_goes _ i.0
  goes (Union r) i = two_goes _ r i.0
  goes Distinct i = one_goes _ i.0
  goes (Join j) i = two_goes _ j.right i.0
  goes (Scan x) i = leaf_goes _ i.0
  goes (Empty b f n) i = leaf_goes _ i.0

-- ── what the code that walks a plan knows ───────────────────────────────────────────────────

module _ {cells s nodes : List ℕ} {k : ℕ} {n : Node} (w : Walks cells s nodes k) (t : TakenApart nodes k n) where
  shown : Shows (lent cells s nodes) w.count k n
  shown = t.shows w.C cells s w.count w.tree w.below

  -- its line can be put
  pub line_ok : NodeOk s cells n
  line_ok = parts_same cells s nodes [] n shown.1

  -- its line, by its head
  line_put : {at r : ℕ} {xs ys : List ℕ} (level : ℕ) → Puts (indent level · node_text s cells n · word w_newline) at xs r ys →
      Puts (line_text level (head_of (lent cells s nodes) n)) at xs r ys
  unfolding line_text
  line_put level p =
      as_text (indent level · node_text s cells n · word w_newline) (line_text level (head_of (lent cells s nodes) n))
      (λ rest. ap (λ (h : Head). indent level (head_text h (w_newline ++ rest))) (head-same cells s nodes [] n)) p

  pub leaf-plan : {at r : ℕ} {xs ys : List ℕ} (level : ℕ) → inputs_of n ≡ Nothing → Puts (indent level · node_text s cells n · word w_newline) at xs r ys →
      Puts (plan_text level (plan_at (lent cells s nodes) k)) at xs r ys
  leaf-plan level e p =
      let g : Goes cells s nodes w.count k (head_of (lent cells s nodes) n) Nothing = rw e at (goes cells s nodes w.count k n shown) in
      as_text (line_text level (head_of (lent cells s nodes) n)) (plan_text level (plan_at (lent cells s nodes) k)) (g level) (line_put level p)

  one_goes_on : inputs_of n ≡ One → Goes cells s nodes w.count k (head_of (lent cells s nodes) n) One
  one_goes_on e = rw e at (goes cells s nodes w.count k n shown)

  pub one_input : inputs_of n ≡ One → Walks cells s nodes (k + 1)
  one_input e = record { C = w.C; count = w.count; tree = w.tree; below = (one_goes_on e).0 }

  pub one_plan : {at b r : ℕ} {xs ys zs : List ℕ} (level : ℕ) → inputs_of n ≡ One → Puts (indent level · node_text s cells n · word w_newline) at xs b ys →
      Puts (plan_text (level + 1) (plan_at (lent cells s nodes) (k + 1))) b ys r zs → Puts (plan_text level (plan_at (lent cells s nodes) k)) at xs r zs
  one_plan {b = b} {r} {ys = ys} {zs} level e p q =
      let f : level + 1 ≡ suc level = omega arith in
      let q' : Puts (plan_text (suc level) (plan_at (lent cells s nodes) (k + 1))) b ys r zs = rw f at q in
      as_text (line_text level (head_of (lent cells s nodes) n) · plan_text (suc level) (plan_at (lent cells s nodes) (k + 1))) (plan_text level (plan_at (lent cells s nodes) k)) ((one_goes_on e).1 level)
      (line_put level p then q')

  module _ {i : ℕ} (e : inputs_of n ≡ Two i) where
    two_go_on : Goes cells s nodes w.count k (head_of (lent cells s nodes) n) (Two i)
    two_go_on = rw e at (goes cells s nodes w.count k n shown)

    pub second-after : k + 1 < i
    second-after = two_go_on.0

    pub first-input : Walks cells s nodes (k + 1)
    first-input = record { C = w.C; count = w.count; tree = w.tree; below = omega (arith, two_go_on.0, two_go_on.1) }

    pub second-input : Walks cells s nodes i
    second-input = record { C = w.C; count = w.count; tree = w.tree; below = two_go_on.1 }

    pub two-plan : {at b c r : ℕ} {xs ys us zs : List ℕ} (level : ℕ) → Puts (indent level · node_text s cells n · word w_newline) at xs b ys →
        Puts (plan_text (level + 1) (plan_at (lent cells s nodes) (k + 1))) b ys c us → Puts (plan_text (level + 1) (plan_at (lent cells s nodes) i)) c us r zs →
        Puts (plan_text level (plan_at (lent cells s nodes) k)) at xs r zs
    two-plan {b = b} {c} {r} {ys = ys} {us} {zs} level p q₁ q₂ =
        let f : level + 1 ≡ suc level = omega arith in
        let r₁ : Puts (plan_text (suc level) (plan_at (lent cells s nodes) (k + 1))) b ys c us = rw f at q₁ in
        let r₂ : Puts (plan_text (suc level) (plan_at (lent cells s nodes) i)) c us r zs = rw f at q₂ in
        as_text (line_text level (head_of (lent cells s nodes) n) · plan_text (suc level) (plan_at (lent cells s nodes) (k + 1)) · plan_text (suc level) (plan_at (lent cells s nodes) i))
        (plan_text level (plan_at (lent cells s nodes) k)) (two_go_on.2 level) (line_put level p then r₁ then r₂)
