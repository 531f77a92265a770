-- The texts of nodes, put part after part: a law for each way through a function. Assumes nothing.
use mathlib.Core.Path.{◌≡◌, refl, sym, ap}
use mathlib.Core.Bool.{Bool, true, false, true≢false}
use mathlib.Core.List.{List, ◌∷◌, ◌++◌}
use mathlib.Core.Option.{Option}
use Prim.Native.Nat.{ℕ, zero, suc, ◌+◌, ◌-◌, ◌<◌}
use native.Mathlib.Omega.{arith}
use borrow.Author.Tests.{eq-eqb, ne_eqb}
use Rattle.cpl.specs.Limits.{no_fetch}
use Rattle.cpl.specs.Plan.{Expr, JoinType, aggregate, empty, join, limit, scan}
use Rattle.cpl.specs.ReadPlan.{fetch_of}
use Rattle.plan_text.specs.Listing.{indent}
use Rattle.plan_text.specs.Words.{w_aggregate, w_as_q, w_columns, w_empty, w_if, w_join, w_level, w_limit, w_none, w_one_row, w_open_list, w_scan, w_space, w_where}
use Rattle.plan_text.specs.Write.{Text, ◌·◌, agg_text, binary_text, columns_text, cond_text, expr_text, fetch_text, filters_text, if, item_text, join_text, leaf_text, list_text, members_text, number, on_text, pair_text, unary_text, word}
use Rattle.arena.specs.Cells.{expr_at}
use Rattle.arena.specs.Rows.{item_at, items_at, pair_at, root_at}
use Rattle.tree.specs.Rows.{agg_at, aggs_at, columns_at, exprs_at, list_at, number_at, on_at, ons_at, one, pairs_at}
use Rattle.tree.specs.Tree.{if?}
use Rattle.text_put.specs.Puts.{Leads, Puts}
use Rattle.text_put.proofs.Laws.{◌then◌, as_text, finished, none_put, turn}
use Rattle.text_parts.specs.Parts.{members_at}
use Rattle.text_parts.proofs.Parts.{members_put, members-same}

-- ── parts of nodes ──────────────────────────────────────────────────────────────────────────

pub fetch_none : {at r : ℕ} {xs ys : List ℕ} (n : ℕ) → n ≡ no_fetch → Puts (word w_none) at xs r ys → Puts (fetch_text (fetch_of n)) at xs r ys
unfolding fetch_text fetch_of
fetch_none n e p = rw (eq-eqb n no_fetch e) p

pub fetch_some : {at r : ℕ} {xs ys : List ℕ} (n : ℕ) → (n ≡ no_fetch → ⊥) → Puts (number n) at xs r ys → Puts (fetch_text (fetch_of n)) at xs r ys
unfolding fetch_text fetch_of
fetch_some n e p = rw (ne_eqb n no_fetch e) p

pub condition_some : {at b r : ℕ} {xs ys zs : List ℕ} (has : Bool) (e : Expr) → has ≡ true → Puts (word w_if) at xs b ys → Puts (expr_text e) b ys r zs →
    Puts (cond_text (if? has e)) at xs r zs
unfolding cond_text
condition_some true e h p q = p then q
condition_some false e h p q = absurd (true≢false (sym h))

pub condition_none : {at : ℕ} {xs : List ℕ} (has : Bool) (e : Expr) → has ≡ false → Puts (cond_text (if? has e)) at xs at xs
unfolding cond_text
condition_none true e h = absurd (true≢false h)
condition_none false e h = none_put

pub columns_some : {at b r : ℕ} {xs ys zs : List ℕ} (given : Bool) (s : List ℕ) (first n : ℕ) → given ≡ true → Puts (word w_columns) at xs b ys →
    Puts (members_at (λ i. number (number_at s i)) one first n) b ys r zs → Puts (columns_text (if? given (columns_at s first n))) at xs r zs
unfolding columns_text
columns_some true s first n h p q = p then members_put number (number_at s) one first n q
columns_some false s first n h p q = absurd (true≢false (sym h))

pub columns_none : {at : ℕ} {xs : List ℕ} (given : Bool) (s : List ℕ) (first n : ℕ) → given ≡ false → Puts (columns_text (if? given (columns_at s first n))) at xs at xs
unfolding columns_text
columns_none true s first n h = absurd (true≢false h)
columns_none false s first n h = none_put

pub filters_none : {at : ℕ} {xs : List ℕ} (s cells : List ℕ) (first n : ℕ) → n ≡ 0 → Puts (filters_text (exprs_at s cells first n)) at xs at xs
unfolding filters_text list_at
filters_none s cells first zero h = none_put
filters_none s cells first (suc n) h = absurd (omega arith)

pub filters_some : {at b r : ℕ} {xs ys zs : List ℕ} (s cells : List ℕ) (first n : ℕ) → 0 < n → Puts (word w_where) at xs b ys →
    Puts (members_at (λ i. expr_text (expr_at cells (root_at s i))) one first n) b ys r zs → Puts (filters_text (exprs_at s cells first n)) at xs r zs
unfolding filters_text list_at
filters_some s cells first zero h p q = absurd (omega arith)
filters_some s cells first (suc n) h p q = p then members_put expr_text (λ i. expr_at cells (root_at s i)) one first (suc n) q

-- ── nodes ───────────────────────────────────────────────────────────────────────────────────

pub limit_put : {at b c d r : ℕ} {xs ys us vs ws : List ℕ} (skip : ℕ) (fetch : Option ℕ) → Puts (word w_limit) at xs b us → Puts (number skip) b us c vs → Puts (word w_space) c vs d ws →
    Puts (fetch_text fetch) d ws r ys → Puts (unary_text (limit skip fetch)) at xs r ys
unfolding unary_text
limit_put skip fetch p₁ p₂ p₃ p₄ = p₁ then p₂ then p₃ then p₄

-- items are a list of rows
pub items-list : (s cells : List ℕ) (first n : ℕ) → items_at s cells first n ≡ list_at (item_at s cells) one first n
unfolding items_at list_at
items-list s cells first zero = refl
items-list s cells first (suc n) = let e : suc first ≡ first + 1 = omega arith in rw e (ap (item_at s cells first ∷◌) (items-list s cells (first + 1) n))

pub items_put : {at r : ℕ} {xs ys : List ℕ} (w s cells : List ℕ) (first n : ℕ) → Puts (word w · members_at (λ i. item_text (item_at s cells i)) one first n) at xs r ys →
    Puts (word w · members_text item_text (items_at s cells first n)) at xs r ys
items_put w s cells first n p =
    as_text (word w · members_at (λ i. item_text (item_at s cells i)) one first n) (word w · members_text item_text (items_at s cells first n))
    (λ rest. rw (items-list s cells first n) (ap (w ++◌) (members-same item_text (item_at s cells) one first n rest))) p

-- a list of rows behind a word
pub list_put : {A : Type 0} {at r : ℕ} {xs ys : List ℕ} (w : List ℕ) (t : A → Text) (g : ℕ → A) (first n : ℕ) → Puts (word w · members_at (λ i. t (g i)) one first n) at xs r ys →
    Puts (word w · members_text t (list_at g one first n)) at xs r ys
list_put w t g first n p =
    as_text (word w · members_at (λ i. t (g i)) one first n) (word w · members_text t (list_at g one first n)) (λ rest. ap (w ++◌) (members-same t g one first n rest)) p

pub aggregate_put : {at b r : ℕ} {xs ys zs : List ℕ} (s cells : List ℕ) (first g v : ℕ) →
    Puts (word (w_aggregate ++ w_open_list) · members_at (λ i. item_text (item_at s cells i)) one first g) at xs b ys →
    Puts (word (w_space ++ w_open_list) · members_at (λ i. agg_text (agg_at s cells i)) one (first + g) v) b ys r zs →
    Puts (unary_text (aggregate (items_at s cells first g) (aggs_at s cells (first + g) v))) at xs r zs
unfolding unary_text list_text
aggregate_put s cells first g v p q =
    items_put (w_aggregate ++ w_open_list) s cells first g p then list_put (w_space ++ w_open_list) agg_text (agg_at s cells) (first + g) v q

pub empty_put : {at b c r : ℕ} {xs ys us vs : List ℕ} (row : Bool) (s : List ℕ) (first n : ℕ) → Puts (word w_empty) at xs b us → Puts (if row (word w_one_row)) b us c vs →
    Puts (word w_open_list · members_at (λ i. pair_text (pair_at s i)) one first n) c vs r ys → Puts (leaf_text (empty row (pairs_at s first n))) at xs r ys
unfolding leaf_text list_text
empty_put row s first n p₁ p₂ p₃ = p₁ then p₂ then list_put w_open_list pair_text (pair_at s) first n p₃

pub scan_put : {at b c d e f r : ℕ} {xs ys us vs ws zs ps : List ℕ} (t q : ℕ) (is : Option (List ℕ)) (es : List Expr) → Puts (word w_scan) at xs b us → Puts (number t) b us c vs →
    Puts (word w_as_q) c vs d ws → Puts (number q) d ws e zs → Puts (columns_text is) e zs f ps → Puts (filters_text es) f ps r ys → Puts (leaf_text (scan t q is es)) at xs r ys
unfolding leaf_text
scan_put t q is es p₁ p₂ p₃ p₄ p₅ p₆ = p₁ then p₂ then p₃ then p₄ then p₅ then p₆

pub join_put : {at b c d r : ℕ} {xs ys us vs ws : List ℕ} (t : JoinType) (s cells : List ℕ) (first n : ℕ) (e : Option Expr) → Puts (word w_join) at xs b us → Puts (join_text t) b us c vs →
    Puts (word w_open_list · members_at (λ i. on_text (on_at s cells i)) one first n) c vs d ws → Puts (cond_text e) d ws r ys →
    Puts (binary_text (join t (ons_at s cells first n) e)) at xs r ys
unfolding binary_text list_text
join_put t s cells first n e p₁ p₂ p₃ p₄ = p₁ then p₂ then list_put w_open_list on_text (on_at s cells) first n p₃ then p₄

-- ── lines ───────────────────────────────────────────────────────────────────────────────────

pub indent_turn : {t : Text} {at b r : ℕ} {xs ys zs : List ℕ} (left : ℕ) → 0 < left → Leads t at xs (indent left) b ys → Puts (word w_level) b ys r zs → Leads t at xs (indent (left - 1)) r zs
unfolding indent
indent_turn zero h l p = absurd (omega arith)
indent_turn (suc left) h l p = let e : suc left - 1 ≡ left = omega arith in rw e (turn (indent left) l p (λ rest. refl))

pub indent-done : {t : Text} {at r : ℕ} {xs ys : List ℕ} (left : ℕ) → left ≡ 0 → Leads t at xs (indent left) r ys → Puts t at xs r ys
unfolding indent
indent-done zero h l = finished l (λ rest. refl)
indent-done (suc left) h l = absurd (omega arith)
