-- The lines of a plan's nodes, from the numbers in the lent arrays. Assumes nothing.
use mathlib.Core.Path.{◌≡◌, refl, sym, ap, ap₂, ◌∙◌}
use mathlib.Core.List.{List, [], ◌++◌, append_assoc, append-nil}
use Prim.Native.Nat.{ℕ, zero, suc, ◌+◌, ◌*◌, ◌-◌, ◌^◌, ◌<◌, ◌≤◌}
use native.Mathlib.Omega.{arith}
use lib.ListN.{length, get_or, take, drop, length-append}
use Rattle.cpl.specs.Exprs.{plan_nodes}
use Rattle.cpl.specs.Fields.{fields_of}
use Rattle.cpl.specs.Plan.{Catalogue, leaf}
use Rattle.cpl.specs.ReadPlan.{Head, h0, h1, h2}
use Rattle.tree.specs.Node.{node_at}
use Rattle.tree.specs.Rows.{one}
use Rattle.tree.specs.Shows.{Stands}
use Rattle.tree.specs.Tree.{Arrays, WfTree, head_of, lent, plan_at, right_of}
use Rattle.tree.specs.declared.Node.{Node}
use Rattle.tree.specs.declared.Node.TheVariants.{Projection, Filter, Sort, Limit, Aggregate, Window, SubqueryAlias, Union, Distinct, Join, Scan, Empty}
use Rattle.tree.proofs.Lists.{list_length}
use Rattle.tree.proofs.Plans.{nodes-pos, shows}
use Rattle.lookup.specs.Fields.{fields_at, width_at}
use Rattle.accept.specs.Verdicts.{FieldsStand}
use Rattle.writer_parts.specs.Wrote.{Wrote}
use Rattle.writer_parts.proofs.Over.{kept, part, so, start}
use Rattle.listing.specs.Text.{leaf_kind, unary_kind, binary_kind, kind_text, line_text, line_of, lines_of}
use Rattle.listing.specs.Lines.{Listable, line_at, node_text, span}
use Rattle.listing.proofs.Puts.{line_short}

-- ── texts one after the other ───────────────────────────────────────────────────────────────

pub span_append : (text : ℕ → List ℕ) (k m n : ℕ) → span text k (m + n) ≡ span text k m ++ span text (k + m) n
unfolding span
span_append text k zero n =
    let e : 0 + n ≡ n = omega arith in
    let d : k ≡ k + 0 = omega arith in
    ap (span text k) e ∙ ap (λ i. span text i n) d
span_append text k (suc m) n =
    let s : suc m + n ≡ suc (m + n) = omega arith in
    let e : k + 1 + m ≡ k + suc m = omega arith in
    ap (span text k) s
    ∙ (ap (text k ++◌) (span_append text (k + 1) m n ∙ ap (λ i. span text (k + 1) m ++ span text i n) e)
    ∙ sym (append_assoc (text k) (span text (k + 1) m) (span text (k + suc m) n)))

pub span-one : (text : ℕ → List ℕ) (k : ℕ) → span text k 1 ≡ text k
unfolding span
span-one text k = append-nil (text k)

pub span-next : (text : ℕ → List ℕ) (k : ℕ) → span text 0 (k + 1) ≡ span text 0 k ++ text k
span-next text k =
    let e : 0 + k ≡ k = omega arith in
    span_append text 0 k 1 ∙ ap (span text 0 k ++◌) (ap (λ i. span text i 1) e ∙ span-one text k)

-- the same texts
pub span_same : (s t : ℕ → List ℕ) (k n : ℕ) → ((j : ℕ) → k ≤ j → j < k + n → s j ≡ t j) → span s k n ≡ span t k n
unfolding span
span_same s t k zero e = refl
span_same s t k (suc n) e = ap₂ ◌++◌ (e k (omega arith) (omega arith)) (span_same s t (k + 1) n (λ j l h. e j (omega arith) (omega arith)))

-- ── lines, one after the other ──────────────────────────────────────────────────────────────

pub no_lines : (text : ℕ → List ℕ) {xs : List ℕ} → Wrote (span text 0 0) xs 0 xs
unfolding span
no_lines text = start

pub next-line : {xs ys out : List ℕ} {at n : ℕ} {node : Node} (nodes widths : List ℕ) (k : ℕ) → Wrote (span (line_at nodes widths) 0 k) xs at out
    → node ≡ node_at nodes k
    → Wrote (line_text k (node_text node) (get_or widths k 0)) (take (length out - at) (drop at out)) n ys
    → Wrote (span (line_at nodes widths) 0 (k + 1)) xs (at + n) (take at out ++ (ys ++ drop (length out - at) (drop at out)))
unfolding line_at
next-line nodes widths k o e l =
    so (part o l)
    (ap (λ (m : Node). span (line_at nodes widths) 0 k ++ line_text k (node_text m) (get_or widths k 0)) e ∙ sym (span-next (line_at nodes widths) k)) refl

-- a turn of the loop: what holds of k lines holds of k + 1
pub lines_again : {xs ys out : List ℕ} {at n : ℕ} {node : Node} (nodes widths : List ℕ) (k count : ℕ) → k < count → 56 * count ≤ length xs → at ≤ 56 * k
    → Wrote (span (line_at nodes widths) 0 k) xs at out → node ≡ node_at nodes k → k < 2 ^ 64 → get_or widths k 0 < 2 ^ 64
    → Wrote (line_text k (node_text node) (get_or widths k 0)) (take (length out - at) (drop at out)) n ys
    → (k + 1 ≤ count) × (at + n ≤ 56 * (k + 1)) × (length (take at out ++ (ys ++ drop (length out - at) (drop at out))) ≡ length xs)
    × Wrote (span (line_at nodes widths) 0 (k + 1)) xs (at + n) (take at out ++ (ys ++ drop (length out - at) (drop at out)))
lines_again {node = node} nodes widths k count h room a o e b c l =
    let w = next-line nodes widths k o e l in
    let s = line_short k (get_or widths k 0) node b c in
    (omega arith, omega (arith, l.long), kept w (omega (arith, l.long)), w)

pub lines_done : {xs out : List ℕ} {at k count : ℕ} (text : ℕ → List ℕ) → k ≡ count → Wrote (span text 0 k) xs at out → Wrote (span text 0 count) xs at out
lines_done text e o = so o (ap (span text 0) e) refl

-- they are not long
span_short : (text : ℕ → List ℕ) (k n : ℕ) → ((j : ℕ) → j < k + n → length (text j) ≤ 56) → length (span text k n) ≤ 56 * n
unfolding span
span_short text k zero h = omega arith
span_short text k (suc n) h =
    let a = h k (omega arith) in
    let b = span_short text (k + 1) n (λ j l. h j (omega arith)) in
    omega (arith, length-append (text k) (span text (k + 1) n))

pub lines_short : (nodes widths : List ℕ) (count : ℕ) → count < 2 ^ 64 → ((j : ℕ) → get_or widths j 0 < 2 ^ 64)
    → length (span (line_at nodes widths) 0 count) ≤ 56 * count
unfolding line_at
lines_short nodes widths count h i = span_short (line_at nodes widths) 0 count (λ j l. line_short j (get_or widths j 0) (node_at nodes j) (omega arith) (i j))

-- ── kinds ───────────────────────────────────────────────────────────────────────────────────

head_kind : Head → List ℕ
head_kind (h0 h) = leaf_kind h
head_kind (h1 h) = unary_kind h
head_kind (h2 h) = binary_kind h

head_kind_lem : (a : Arrays) (n : Node) → head_kind (head_of a n) ≡ node_text n
unfolding leaf_kind unary_kind binary_kind node_text head_kind
head_kind_lem a (Projection f n) = refl
head_kind_lem a (Filter r) = refl
head_kind_lem a (Sort f n) = refl
head_kind_lem a (Limit s n) = refl
head_kind_lem a (Aggregate f g v) = refl
head_kind_lem a (Window f n) = refl
head_kind_lem a (SubqueryAlias q) = refl
head_kind_lem a (Union r) = refl
head_kind_lem a Distinct = refl
head_kind_lem a (Join j) = refl
head_kind_lem a (Scan s) = refl
head_kind_lem a (Empty b f n) = refl

stands_kind : (a : Arrays) (count k right : ℕ) (h : Head) → Stands a count k right h → kind_text (plan_at a k) ≡ head_kind h
unfolding kind_text head_kind
stands_kind a count k right (h0 h) s = ap kind_text s
stands_kind a count k right (h1 h) s = ap kind_text s.plan
stands_kind a count k right (h2 h) s = ap kind_text s.plan

-- ── the lines of a plan ─────────────────────────────────────────────────────────────────────

module _ (C : Catalogue) (a : Arrays) (count : ℕ) where
  -- the line of node j, from the plan that stands there
  pub line : ℕ → List ℕ
  line j = line_of C (plan_at a j) j

  -- the lines of the plan at k are those of its nodes
  abbrev Each : ℕ → Type 0
  Each k = k < count → lines_of C (plan_at a k) k ≡ span line k (plan_nodes (plan_at a k))

  at_head : (deep k right : ℕ) (h : Head) → Stands a count k right h → plan_nodes (plan_at a k) ≤ suc deep
      → ((i : ℕ) → plan_nodes (plan_at a i) ≤ deep → Each i) → Each k
  unfolding lines_of plan_nodes span line
  at_head deep k right (h0 h) s d go l =
      ap (λ p. lines_of C p k) s
      ∙ (sym (append-nil (line_of C (leaf h) k)) ∙ (ap (λ p. line_of C p k ++ []) (sym s) ∙ ap (λ p. span line k (plan_nodes p)) (sym s)))
  at_head deep k right (h1 h) s d go l =
      let size = ap plan_nodes s.plan in
      ap (λ p. lines_of C p k) s.plan
      ∙ (ap₂ ◌++◌ (ap (λ p. line_of C p k) (sym s.plan)) (go (k + 1) (omega arith) s.below)
      ∙ ap (λ p. span line k (plan_nodes p)) (sym s.plan))
  at_head deep k right (h2 h) s d go l =
      let size = ap plan_nodes s.plan in
      let first = plan_at a (k + 1) in
      ap (λ p. lines_of C p k) s.plan
      ∙ (ap₂ ◌++◌ (ap (λ p. line_of C p k) (sym s.plan))
      (ap₂ ◌++◌ (go (k + 1) (omega (arith, nodes-pos (plan_at a right))) (omega (arith, s.after, s.below)))
      (ap (lines_of C (plan_at a right)) (sym s.ends)
      ∙ (go right (omega (arith, nodes-pos first)) s.below ∙ ap (λ i. span line i (plan_nodes (plan_at a right))) s.ends))
      ∙ sym (span_append line (k + 1) (plan_nodes first) (plan_nodes (plan_at a right))))
      ∙ ap (λ p. span line k (plan_nodes p)) (sym s.plan))

  module _ (w : WfTree C a count) where
    nested : (deep k : ℕ) → plan_nodes (plan_at a k) ≤ deep → Each k
    nested zero k d l = absurd (omega (arith, nodes-pos (plan_at a k)))
    nested (suc deep) k d l = at_head deep k (right_of (node_at a.nodes k)) (head_of a (node_at a.nodes k)) (shows w k l).0 d (λ i e. nested deep i e) l

    pub lines_are : count ≡ plan_nodes (plan_at a 0) → lines_of C (plan_at a 0) 0 ≡ span line 0 count
    lines_are e = nested (plan_nodes (plan_at a 0)) 0 (omega arith) (omega (arith, nodes-pos (plan_at a 0))) ∙ ap (span line 0) (sym e)

    kind_is : (k : ℕ) → k < count → kind_text (plan_at a k) ≡ node_text (node_at a.nodes k)
    kind_is k l = stands_kind a count k (right_of (node_at a.nodes k)) (head_of a (node_at a.nodes k)) (shows w k l).0 ∙ head_kind_lem a (node_at a.nodes k)

-- ── from the stored numbers ─────────────────────────────────────────────────────────────────

-- a stored width is the number of the node's fields
width_is : {C : Catalogue} {a : Arrays} {s w : List ℕ} (k : ℕ) → FieldsStand C a s w k → width_at w k ≡ length (fields_of C (plan_at a k))
unfolding fields_at
width_is {w = w} k f = sym (list_length _ one _ (width_at w k)) ∙ ap length f.fields

module _ {C : Catalogue} {cells rows nodes fields widths : List ℕ} {count : ℕ} (w : WfTree C (lent cells rows nodes) count)
    (stand : (j : ℕ) → j < count → FieldsStand C (lent cells rows nodes) fields widths j) where
  pub stored_lines : count ≡ plan_nodes (plan_at (lent cells rows nodes) 0) → span (line_at nodes widths) 0 count ≡ lines_of C (plan_at (lent cells rows nodes) 0) 0
  unfolding line_at line_of line
  stored_lines e = span_same (line_at nodes widths) (line C (lent cells rows nodes) count) 0 count
      (λ j l h. ap₂ (line_text j) (sym (kind_is C (lent cells rows nodes) count w j (omega arith))) (width_is j (stand j (omega arith))))
      ∙ sym (lines_are C (lent cells rows nodes) count w e)

-- the numbers of every node fit, and it has a width
pub listable : {C : Catalogue} {cells rows nodes widths : List ℕ} {count : ℕ} → WfTree C (lent cells rows nodes) count → length widths ≡ 512
    → Listable nodes widths count
listable w e = record { each = λ k l. (w.each k l).numbers; wide = omega (arith, w.few) }
