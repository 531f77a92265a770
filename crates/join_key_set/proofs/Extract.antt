-- The ways through `extract_possible_join_keys`, over plain lists and numbers. Assumes nothing.
use mathlib.Core.Path.{◌≡◌, refl, sym, ap, ◌∙◌}
use mathlib.Core.List.{List, []}
use mathlib.Core.Option.{none, some}
use Prim.Native.Nat.{ℕ, ◌+◌, ◌*◌, ◌<◌, ◌≤◌}
use native.Mathlib.Omega.{arith}
use lib.ListN.{length}
use Rattle.cpl.specs.Codes.{op2_of, op2_tag}
use Rattle.cpl.specs.Plan.{Op2, o_add, o_sub, o_mul, o_eq, o_lt, o_and, o_or, Expr, bin}
use Rattle.arena.specs.Cells.{Wf, expr_at}
use Rattle.arena.specs.Kept.{Kept}
use Rattle.arena.specs.View.{HasTwo}
use Rattle.arena.proofs.Kept.{kept_refl, kept_trans}
use Rattle.arena.proofs.Laws.{lower, op2-tag}
use Rattle.join_keys.specs.Keys as keys
use Rattle.join_keys.specs.Keys.{insert, insert_intersection}
use Rattle.join_keys.specs.Extract.{extract_possible_join_keys}
use Rattle.join_keys.specs.Flat.{equalities}
use Rattle.join_key_set.specs.Pairs.{KeysOk, keys_at}
use Rattle.join_key_set.specs.Answers.{Fills}
use Rattle.join_key_set.specs.declared.JoinKeySet.{JoinKeySet}
use Rattle.join_key_set.specs.declared.Pairs.{Pairs}
use Rattle.std.specs.Prelude.{Result, Ok}
use Rattle.join_key_set.proofs.Laws.{keys-same, kept_less, kept_same, ok-none}
use Rattle.join_key_set.proofs.Sets.{fills_after, fills_same}

-- an expression that is not looked into
pub ret_leaf : (cells s : List ℕ) (set : JoinKeySet) (node : ℕ) (e : Expr) → KeysOk cells s set.start set.size → expr_at cells node ≡ e
    → extract_possible_join_keys e (keys_at cells s set.start set.size) ≡ some (keys_at cells s set.start set.size)
    → Fills (extract_possible_join_keys (expr_at cells node) (keys_at cells s set.start set.size)) cells s set.start (set.size + equalities (expr_at cells node)) (Ok set) s
ret_leaf cells s set node e k v h = fills_same set k (ap (λ f. extract_possible_join_keys f (keys_at cells s set.start set.size)) v ∙ h) (omega arith)

other_op : (o : Op2) (t : ℕ) (a b : Expr) (s : keys.JoinKeySet) → op2_tag o ≡ t → (t ≡ 8 → ⊥) → (t ≡ 10 → ⊥) → (t ≡ 11 → ⊥) → extract_possible_join_keys (bin o a b) s ≡ some s
unfolding op2_tag extract_possible_join_keys
other_op o_add t a b s e n m l = refl
other_op o_sub t a b s e n m l = refl
other_op o_mul t a b s e n m l = refl
other_op o_eq t a b s e n m l = absurd (n (sym e))
other_op o_lt t a b s e n m l = refl
other_op o_and t a b s e n m l = absurd (m (sym e))
other_op o_or t a b s e n m l = absurd (l (sym e))

-- what a call asks: t is the caller's measure, and what it is given
abbrev pub Ask : (cells s : List ℕ) (set : JoinKeySet) (node : ℕ) → Type 0
Ask cells s set node = Wf cells (node + 1) × (KeysOk cells s set.start set.size × ((set.start + set.size + equalities (expr_at cells node)) * 2 ≤ length s))

-- what it answers
abbrev pub Done : (cells s : List ℕ) (set : JoinKeySet) (node : ℕ) → Result JoinKeySet Pairs → List ℕ → Type 0
Done cells s set node r s' = Fills (extract_possible_join_keys (expr_at cells node) (keys_at cells s set.start set.size)) cells s set.start (set.size + equalities (expr_at cells node)) r s'

module _ (m : ℕ) (cells s : List ℕ) (set : JoinKeySet) (node t x y : ℕ) (g : (node ≡ m) × Ask cells s set node) (v : HasTwo cells node t x y) where
  two : (k : ℕ) → t ≡ k → expr_at cells node ≡ bin (op2_of k) (expr_at cells x) (expr_at cells y)
  two k h = v.means ∙ ap (λ n. bin (op2_of n) (expr_at cells x) (expr_at cells y)) h

  pub ret_other : (t ≡ 8 → ⊥) → (t ≡ 10 → ⊥) → (t ≡ 11 → ⊥) → Done cells s set node (Ok set) s
  ret_other a b c = ret_leaf cells s set node _ g.1.1.0 v.means (other_op (op2_of t) t _ _ _ (op2-tag t v.least v.most) a b c)

  pub wf_x : Wf cells (x + 1)
  wf_x = lower cells node x g.1.0 v.first

  pub wf-y : Wf cells (y + 1)
  wf-y = lower cells node y g.1.0 v.second

  -- ── an equality ───────────────────────────────────────────────────────────────────────────

  module _ (h : t ≡ 8) where
    one : equalities (expr_at cells node) ≡ 1
    unfolding equalities op2_of
    one = ap equalities (two 8 h)

    pub ask_eq : KeysOk cells s set.start set.size × ((Wf cells (x + 1) × Wf cells (y + 1)) × ((set.start + set.size + 1) * 2 ≤ length s))
    ask_eq = (g.1.1.0, ((wf_x, wf-y), omega (arith, g.1.1.1, one)))

    pub ret_eq : (r : Result JoinKeySet Pairs) (s' : List ℕ) → Fills (insert (expr_at cells x) (expr_at cells y) (keys_at cells s set.start set.size)) cells s set.start (set.size + 1) r s' → Done cells s set node r s'
    unfolding extract_possible_join_keys op2_of
    ret_eq r s' f = fills_after cells r s' (ap (λ e. extract_possible_join_keys e (keys_at cells s set.start set.size)) (two 8 h)) (kept_refl _ s) refl (omega (arith, one)) f

  -- ── an `and` ──────────────────────────────────────────────────────────────────────────────

  module _ (h : t ≡ 10) where
    sum : equalities (expr_at cells node) ≡ equalities (expr_at cells x) + equalities (expr_at cells y)
    unfolding equalities op2_of
    sum = ap equalities (two 10 h)

    pub ask-and : (x < m) × Ask cells s set x
    ask-and = (omega (arith, v.first, g.0), (wf_x, (g.1.1.0, omega (arith, g.1.1.1, sum))))

    pub none-and : extract_possible_join_keys (expr_at cells x) (keys_at cells s set.start set.size) ≡ none → extract_possible_join_keys (expr_at cells node) (keys_at cells s set.start set.size) ≡ none
    unfolding extract_possible_join_keys op2_of
    none-and n = ap (λ e. extract_possible_join_keys e (keys_at cells s set.start set.size)) (two 10 h) ∙ rw n

    module _ (more : JoinKeySet) (s₁ : List ℕ) (d : Done cells s set x (Ok more) s₁) where
      pub ask-and-right : (y < m) × Ask cells s₁ more y
      ask-and-right = (omega (arith, v.second, g.0), (wf-y, (rw d.starts d.ok, omega (arith, g.1.1.1, sum, d.few, d.starts, d.kept.long))))

      pub ret_and : (r : Result JoinKeySet Pairs) (s₂ : List ℕ) → Done cells s₁ more y r s₂ → Done cells s set node r s₂
      unfolding extract_possible_join_keys op2_of
      ret_and r s₂ f =
          fills_after cells r s₂
          (ap (λ e. extract_possible_join_keys e (keys_at cells s set.start set.size)) (two 10 h) ∙ (rw d.is (ap (λ n. extract_possible_join_keys (expr_at cells y) (keys_at cells s₁ n more.size)) (sym d.starts))))
          d.kept d.starts (omega (arith, sum, d.few)) f

  -- ── an `or` ───────────────────────────────────────────────────────────────────────────────

  module _ (h : t ≡ 11) (left : JoinKeySet) (el : (left.start ≡ set.start + set.size) × (left.size ≡ 0)) where
    sum_or : equalities (expr_at cells node) ≡ equalities (expr_at cells x) + equalities (expr_at cells y)
    unfolding equalities op2_of
    sum_or = ap equalities (two 11 h)

    empty : (s : List ℕ) (e : JoinKeySet) → e.size ≡ 0 → keys_at cells s e.start e.size ≡ []
    unfolding keys_at
    empty s e z = ap (keys_at cells s e.start) z

    empty-ok : (s : List ℕ) (e : JoinKeySet) → e.size ≡ 0 → e.start * 2 ≤ length s → KeysOk cells s e.start e.size
    empty-ok s e z k = rw z (ok-none cells s e.start k)

    pub ask-left : (x < m) × Ask cells s left x
    ask-left = (omega (arith, v.first, g.0), (wf_x, (empty-ok s left el.1 (omega (arith, el.0, g.1.1.0.room)), omega (arith, g.1.1.1, sum_or, el.0, el.1))))

    pub none_left : extract_possible_join_keys (expr_at cells x) (keys_at cells s left.start left.size) ≡ none → extract_possible_join_keys (expr_at cells node) (keys_at cells s set.start set.size) ≡ none
    unfolding extract_possible_join_keys op2_of
    none_left n = ap (λ e. extract_possible_join_keys e (keys_at cells s set.start set.size)) (two 11 h) ∙ rw (ap (extract_possible_join_keys (expr_at cells x)) (sym (empty s left el.1)) ∙ n)

    module _ (ls : JoinKeySet) (s₁ : List ℕ) (d : Done cells s left x (Ok ls) s₁) (right : JoinKeySet) (er : (right.start ≡ ls.start + ls.size) × (right.size ≡ 0)) where
      gives_left : extract_possible_join_keys (expr_at cells x) [] ≡ some (keys_at cells s₁ ls.start ls.size)
      gives_left = ap (extract_possible_join_keys (expr_at cells x)) (sym (empty s left el.1)) ∙ (d.is ∙ ap (λ n. some (keys_at cells s₁ n ls.size)) (sym d.starts))

      pub ask-right : (y < m) × Ask cells s₁ right y
      ask-right = (
        omega (arith, v.second, g.0),
        (wf-y, (empty-ok s₁ right er.1 (omega (arith, er.0, d.ok.room, d.starts)), omega (arith, g.1.1.1, sum_or, el.0, el.1, er.0, er.1, d.few, d.starts, d.kept.long))),
      )

      pub none_right : extract_possible_join_keys (expr_at cells y) (keys_at cells s₁ right.start right.size) ≡ none → extract_possible_join_keys (expr_at cells node) (keys_at cells s set.start set.size) ≡ none
      unfolding extract_possible_join_keys op2_of
      none_right n = ap (λ e. extract_possible_join_keys e (keys_at cells s set.start set.size)) (two 11 h) ∙ rw (gives_left, ap (extract_possible_join_keys (expr_at cells y)) (sym (empty s₁ right er.1)) ∙ n)

      module _ (rs : JoinKeySet) (s₂ : List ℕ) (f : Done cells s₁ right y (Ok rs) s₂) where
        kept₁ : Kept ((set.start + set.size) * 2) s s₁
        kept₁ = kept_less (omega (arith, el.0)) d.kept

        kept₂ : Kept ((ls.start + ls.size) * 2) s₁ s₂
        kept₂ = kept_less (omega (arith, er.0)) f.kept

        kept : Kept ((set.start + set.size) * 2) s s₂
        kept = kept_trans (omega (arith, d.starts, el.0)) kept₁ kept₂

        gives-right : extract_possible_join_keys (expr_at cells y) [] ≡ some (keys_at cells s₂ rs.start rs.size)
        gives-right = ap (extract_possible_join_keys (expr_at cells y)) (sym (empty s₁ right er.1)) ∙ (f.is ∙ ap (λ n. some (keys_at cells s₂ n rs.size)) (sym f.starts))

        pub ret_or : (r : Result JoinKeySet Pairs) (s₃ : List ℕ)
            → Fills (insert_intersection (keys_at cells s₂ ls.start ls.size) (keys_at cells s₂ rs.start rs.size) (keys_at cells s₂ set.start set.size)) cells s₂ set.start (set.size + ls.size) r s₃
            → Done cells s set node r s₃
        unfolding extract_possible_join_keys op2_of
        ret_or r s₃ z =
            fills_after cells r s₃
            (ap (λ e. extract_possible_join_keys e (keys_at cells s set.start set.size)) (two 11 h)
            ∙ rw (gives_left, gives-right, keys-same cells s s₂ set.start set.size (kept_same set.start set.size (set.start + set.size) (omega arith) kept), keys-same cells s₁ s₂ ls.start ls.size (kept_same ls.start ls.size (ls.start + ls.size) (omega arith) kept₂)))
            (kept_less (omega arith) kept) refl (omega (arith, sum_or, d.few, el.1)) z
