-- The lines of a listing as they follow from the numbers in the lent arrays.
use Rattle.std.specs.Prelude.{◌≡◌, List, [], ◌∷◌, ◌++◌, ℕ, zero, suc, ◌+◌, ◌<◌, ◌≤◌, length, get_or, take}
use Rattle.tree.specs.Node.{NodeFits, node_at}
use Rattle.tree.specs.declared.Node.{Node}
use Rattle.tree.specs.declared.Node.TheVariants.{Projection, Filter, Sort, Limit, Aggregate, Window, SubqueryAlias, Union, Distinct, Join, Scan, Empty}
use Rattle.writer_parts.specs.Wrote.{Laid}
use Rattle.listing.specs.Text.{line_text}

-- xs became ys: v was written over it from `at` on, up to r
abbrev pub Puts : (at : ℕ) (v xs : List ℕ) (r : ℕ) (ys : List ℕ) → Type 0
Puts at v xs r ys = Laid at v (length v) xs r ys

-- the first r numbers of xs can be lent. The second part follows from the first; both are stated so that `&text[..r]` asks for no proof
abbrev pub Counts : (r : ℕ) (xs : List ℕ) → Type 0
Counts r xs = (r ≤ length xs) × (r ≡ length (take r xs))

-- the kind of a node, in small letters
unfoldable pub node_text : Node → List ℕ
node_text (Projection f n) = 112 ∷ 114 ∷ 111 ∷ 106 ∷ 101 ∷ 99 ∷ 116 ∷ 105 ∷ 111 ∷ 110 ∷ []
node_text (Filter r) = 102 ∷ 105 ∷ 108 ∷ 116 ∷ 101 ∷ 114 ∷ []
node_text (Sort f n) = 115 ∷ 111 ∷ 114 ∷ 116 ∷ []
node_text (Limit s n) = 108 ∷ 105 ∷ 109 ∷ 105 ∷ 116 ∷ []
node_text (Aggregate f g v) = 97 ∷ 103 ∷ 103 ∷ 114 ∷ 101 ∷ 103 ∷ 97 ∷ 116 ∷ 101 ∷ []
node_text (Window f n) = 119 ∷ 105 ∷ 110 ∷ 100 ∷ 111 ∷ 119 ∷ []
node_text (SubqueryAlias q) = 115 ∷ 117 ∷ 98 ∷ 113 ∷ 117 ∷ 101 ∷ 114 ∷ 121 ∷ 97 ∷ 108 ∷ 105 ∷ 97 ∷ 115 ∷ []
node_text (Union r) = 117 ∷ 110 ∷ 105 ∷ 111 ∷ 110 ∷ []
node_text Distinct = 100 ∷ 105 ∷ 115 ∷ 116 ∷ 105 ∷ 110 ∷ 99 ∷ 116 ∷ []
node_text (Join j) = 106 ∷ 111 ∷ 105 ∷ 110 ∷ []
node_text (Scan s) = 115 ∷ 99 ∷ 97 ∷ 110 ∷ []
node_text (Empty b f n) = 101 ∷ 109 ∷ 112 ∷ 116 ∷ 121 ∷ []

-- the line of node k: its number, the kind that its numbers say, its stored width
unfoldable pub line_at : (nodes widths : List ℕ) → ℕ → List ℕ
line_at nodes widths k = line_text k (node_text (node_at nodes k)) (get_or widths k 0)

-- n texts one after the other, those of the numbers from k on
unfoldable pub span : (ℕ → List ℕ) → (k n : ℕ) → List ℕ
span text k zero = []
span text k (suc n) = text k ++ span text (k + 1) n

-- the first `count` nodes lie in the array, and their numbers fit; each has a width
pub record Listable (nodes widths : List ℕ) (count : ℕ) : Type 0 where
  pub each : (k : ℕ) → k < count → NodeFits nodes k
  pub wide : count ≤ length widths
