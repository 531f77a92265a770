-- The ways through `remove_join_expressions`, over plain lists and numbers. Assumes nothing.
use mathlib.Core.Path.{◌≡◌, refl, sym, ap, ap₂, subst⁻¹, ◌∙◌}
use mathlib.Core.Bool.{Bool, true, false, cond, true≢false}
use mathlib.Core.List.{List, ◌∷◌}
use mathlib.Core.Option.{Option, none, some}
use Prim.Native.Nat.{ℕ, zero, suc, ◌+◌, ◌*◌, ◌<◌, ◌≤◌}
use native.Mathlib.Omega.{arith}
use borrow.Author.Tests.{eq-eqb, eqb-true}
use lib.Dec.{eqb}
use lib.ListN.{length}
use Rattle.cpl.specs.Codes.{op2_of, op2_tag}
use Rattle.cpl.specs.Exprs.{expr_tags}
use Rattle.cpl.specs.Plan.{Op2, o_add, o_sub, o_mul, o_eq, o_lt, o_and, o_or, Expr, col, lit, miss, un, bin, on}
use Rattle.arena.specs.Cells.{Wf, expr_at}
use Rattle.arena.specs.Kept.{Kept}
use Rattle.arena.specs.View.{HasTwo}
use Rattle.arena.proofs.Kept.{kept_expr, kept_refl, kept_trans}
use Rattle.arena.proofs.Laws.{at_two, op2-tag, wf_less}
use Rattle.arena.specs.declared.Full.{Full}
use Rattle.arena_build.specs.Build.{Pushed, Stored, put_node}
use Rattle.arena_build.specs.declared.Built.{Built}
use Rattle.arena_build.proofs.Grow.{put_kept, put_tag, put_wf, put_x, put_y}
use Rattle.join_keys.specs.Keys as keys
use Rattle.join_keys.specs.Keys.{contains}
use Rattle.join_keys.specs.Remove.{left_of_and, left_of_or, remove_join_expressions}
use Rattle.join_key_set.specs.Pairs.{KeysIn, KeysOk, key_at, keys_at, left_at, right_at}
use Rattle.join_key_set.specs.Answers.{LeavesNode, Rest, first_alone, joints}
use Rattle.join_key_set.specs.declared.JoinKeySet.{JoinKeySet}
use Rattle.std.specs.Prelude as std
use Rattle.std.specs.Prelude.{Some, None, Result, Ok, Err, IsOk}
use Rattle.join_key_set.proofs.Laws.{in_ok}

-- ── nodes that are kept ─────────────────────────────────────────────────────────────────────

in_less : {n f m : ℕ} {s : List ℕ} → KeysIn n s f (suc m) → KeysIn n s (suc f) m
in_less o = record { room = omega (arith, o.room); left = λ k a b. o.left k (omega arith) (omega arith); right = λ k a b. o.right k (omega arith) (omega arith) }

in_more : {n n' f m : ℕ} {s : List ℕ} → n ≤ n' → KeysIn n s f m → KeysIn n' s f m
in_more h o = record { room = o.room; left = λ k a b. omega (arith, o.left k a b); right = λ k a b. omega (arith, o.right k a b) }

keys_kept : (cells cells' s : List ℕ) (used f n : ℕ) → Kept (used * 3) cells cells' → KeysIn used s f n → keys_at cells' s f n ≡ keys_at cells s f n
unfolding keys_at key_at
keys_kept cells cells' s used f zero k o = refl
keys_kept cells cells' s used f (suc n) k o =
    ap₂ ◌∷◌ (ap₂ on (kept_expr used k (left_at s f) (o.left f (omega arith) (omega arith))) (kept_expr used k (right_at s f) (o.right f (omega arith) (omega arith))))
    (keys_kept cells cells' s used (suc f) n k (in_less o))

-- ── what is left, by the operator ───────────────────────────────────────────────────────────

-- an `and` or `or` has two operands
pub joint_tags : (e : Expr) → 2 * joints e + 1 ≤ expr_tags e
unfolding joints expr_tags
joint_tags (bin o_eq a b) = omega arith
joint_tags (bin o_and a b) = omega (arith, joint_tags a, joint_tags b)
joint_tags (bin o_or a b) = omega (arith, joint_tags a, joint_tags b)
joint_tags (bin o_add a b) = omega arith
joint_tags (bin o_sub a b) = omega arith
joint_tags (bin o_mul a b) = omega arith
joint_tags (bin o_lt a b) = omega arith
joint_tags (col c) = omega arith
joint_tags (lit z) = omega arith
joint_tags miss = omega arith
joint_tags (un o a) = omega arith

joints_op : (o : Op2) (a b : Expr) → 10 ≤ op2_tag o → joints (bin o a b) ≡ suc (joints a + joints b)
unfolding op2_tag joints
joints_op o_add a b h = absurd (omega arith)
joints_op o_sub a b h = absurd (omega arith)
joints_op o_mul a b h = absurd (omega arith)
joints_op o_eq a b h = absurd (omega arith)
joints_op o_lt a b h = absurd (omega arith)
joints_op o_and a b h = refl
joints_op o_or a b h = refl

stays_op : (o : Op2) (ks : keys.JoinKeySet) (a b : Expr) → op2_tag o < 10 → (op2_tag o ≡ 8 → ⊥) → remove_join_expressions ks (bin o a b) ≡ some (bin o a b)
unfolding op2_tag remove_join_expressions
stays_op o_add ks a b h n = refl
stays_op o_sub ks a b h n = refl
stays_op o_mul ks a b h n = refl
stays_op o_eq ks a b h n = absurd (n refl)
stays_op o_lt ks a b h n = refl
stays_op o_and ks a b h n = absurd (omega arith)
stays_op o_or ks a b h n = absurd (omega arith)

both_op : (o : Op2) (ks : keys.JoinKeySet) (a b : Expr) {l r : Expr} → 10 ≤ op2_tag o → remove_join_expressions ks a ≡ some l → remove_join_expressions ks b ≡ some r → remove_join_expressions ks (bin o a b) ≡ some (bin o l r)
unfolding op2_tag remove_join_expressions left_of_and left_of_or
both_op o_add ks a b h p q = absurd (omega arith)
both_op o_sub ks a b h p q = absurd (omega arith)
both_op o_mul ks a b h p q = absurd (omega arith)
both_op o_eq ks a b h p q = absurd (omega arith)
both_op o_lt ks a b h p q = absurd (omega arith)
both_op o_and ks a b h p q = ap₂ left_of_and p q
both_op o_or ks a b h p q = ap₂ left_of_or p q

-- where nothing is left of the second
or_none : (l r : Option Expr) → r ≡ none → left_of_or l r ≡ none
unfolding left_of_or
or_none none r e = refl
or_none (some a) r e = ap (left_of_or (some a)) e

and_none : (l r : Option Expr) → r ≡ none → left_of_and l r ≡ l
unfolding left_of_and
and_none none r e = e
and_none (some a) r e = ap (left_of_and (some a)) e

-- ── the ways ────────────────────────────────────────────────────────────────────────────────

-- what a call asks, and what it answers
abbrev pub Ask : (cells : List ℕ) (used node : ℕ) (s : List ℕ) (set : JoinKeySet) → Type 0
Ask cells used node s set = (Wf cells used × (node < used)) × (KeysIn used s set.start set.size × ((used + joints (expr_at cells node)) * 3 ≤ length cells))

abbrev pub Done : (cells : List ℕ) (used node : ℕ) (s : List ℕ) (set : JoinKeySet) → std.Option ℕ → (more : ℕ) → List ℕ → Type 0
Done cells used node s set r more cells' = LeavesNode (remove_join_expressions (keys_at cells s set.start set.size) (expr_at cells node)) cells used (joints (expr_at cells node)) more r cells'

-- what was done after something else
leaves_after : {o o' : Option Expr} {cells cells₁ : List ℕ} {used more : ℕ} (most most' : ℕ) (r : std.Option ℕ) (n : ℕ) (cells₂ : List ℕ) → o ≡ o' → Kept (used * 3) cells cells₁ → used ≤ more → more + most' ≤ used + most
    → LeavesNode o' cells₁ more most' n r cells₂ → LeavesNode o cells used most n r cells₂
leaves_after most most' None n cells₂ e k h l g = record { is = e ∙ g.is; kept = kept_trans (omega arith) k g.kept; grown = omega (arith, g.grown); few = omega (arith, g.few); wf = g.wf }
leaves_after most most' (Some i) n cells₂ e k h l g =
    (g.0, record { is = e ∙ g.1.is; kept = kept_trans (omega arith) k g.1.kept; grown = omega (arith, g.1.grown); few = omega (arith, g.1.few); wf = g.1.wf })

module _ (cells : List ℕ) (used node : ℕ) (s : List ℕ) (set : JoinKeySet) (g : Ask cells used node s set) where
  pub ask-node : Wf cells (node + 1)
  ask-node = wf_less cells (node + 1) used (omega (arith, g.0.1)) g.0.0

  -- an expression that stays as it is
  pub ret_stay : (e : Expr) → expr_at cells node ≡ e → remove_join_expressions (keys_at cells s set.start set.size) e ≡ some e → Done cells used node s set (Some node) used cells
  ret_stay e v h = (
    g.0.1,
    record {
      is = ap (remove_join_expressions (keys_at cells s set.start set.size)) v ∙ (h ∙ ap some (sym v));
      kept = kept_refl _ cells;
      grown = omega arith;
      few = omega arith;
      wf = g.0.0;
    },
  )

module _ (m : ℕ) (cells : List ℕ) (used node : ℕ) (s : List ℕ) (set : JoinKeySet) (t x y : ℕ) (g : (node ≡ m) × Ask cells used node s set) (v : HasTwo cells node t x y) where
  two : (k : ℕ) → t ≡ k → expr_at cells node ≡ bin (op2_of k) (expr_at cells x) (expr_at cells y)
  two k h = v.means ∙ ap (λ n. bin (op2_of n) (expr_at cells x) (expr_at cells y)) h

  is-tag : op2_tag (op2_of t) ≡ t
  is-tag = op2-tag t v.least v.most

  pub stay_other : t < 10 → (t ≡ 8 → ⊥) → Done cells used node s set (Some node) used cells
  stay_other h n = ret_stay cells used node s set g.1 _ v.means (stays_op (op2_of t) _ _ _ (omega (arith, is-tag)) (λ e. n (sym is-tag ∙ e)))

  -- ── an equality ───────────────────────────────────────────────────────────────────────────

  pub ask-contains : KeysOk cells s set.start set.size × (Wf cells (x + 1) × Wf cells (y + 1))
  ask-contains = (
    in_ok g.1.0.0 g.1.1.0,
    (wf_less cells (x + 1) used (omega (arith, v.first, g.1.0.1)) g.1.0.0, wf_less cells (y + 1) used (omega (arith, v.second, g.1.0.1)) g.1.0.0),
  )

  module _ (h : t ≡ 8) {b : Bool} (e : b ≡ contains (keys_at cells s set.start set.size) (expr_at cells x) (expr_at cells y)) where
    pub gone_eq : b ≡ true → Done cells used node s set None used cells
    unfolding remove_join_expressions op2_of
    gone_eq k = record {
      is = ap (remove_join_expressions (keys_at cells s set.start set.size)) (two 8 h) ∙ rw (sym e ∙ k);
      kept = kept_refl _ cells;
      grown = omega arith;
      few = omega arith;
      wf = g.1.0.0;
    }

    pub stay_eq : b ≡ false → Done cells used node s set (Some node) used cells
    unfolding remove_join_expressions op2_of
    stay_eq k = ret_stay cells used node s set g.1 _ (two 8 h) (rw (sym e ∙ k))

  -- ── an `and` or an `or` ───────────────────────────────────────────────────────────────────

  module _ (h : 10 ≤ t) where
    sum : joints (expr_at cells node) ≡ suc (joints (expr_at cells x) + joints (expr_at cells y))
    sum = ap joints v.means ∙ joints_op (op2_of t) _ _ (omega (arith, is-tag))

    pub ask-first : (x < m) × Ask cells used x s set
    ask-first = (omega (arith, v.first, g.0), ((g.1.0.0, omega (arith, v.first, g.1.0.1)), (g.1.1.0, omega (arith, g.1.1.1, sum))))

    -- the first operand is done
    module _ {left : Option Expr} {more : ℕ} {cells₁ : List ℕ} (d : Rest (remove_join_expressions (keys_at cells s set.start set.size) (expr_at cells x)) left cells used (joints (expr_at cells x)) more cells₁) where
      same-y : expr_at cells₁ y ≡ expr_at cells y
      same-y = kept_expr used d.kept y (omega (arith, v.second, g.1.0.1))

      same_s : keys_at cells₁ s set.start set.size ≡ keys_at cells s set.start set.size
      same_s = keys_kept cells cells₁ s used set.start set.size d.kept g.1.1.0

      pub ask-second : (y < m) × Ask cells₁ more y s set
      ask-second = (
        omega (arith, v.second, g.0),
        ((d.wf, omega (arith, v.second, g.1.0.1, d.grown)), (in_more d.grown g.1.1.0, omega (arith, g.1.1.1, sum, d.few, d.kept.long, ap joints same-y))),
      )

      right_is : remove_join_expressions (keys_at cells₁ s set.start set.size) (expr_at cells₁ y) ≡ remove_join_expressions (keys_at cells s set.start set.size) (expr_at cells y)
      right_is = ap₂ remove_join_expressions same_s same-y

    ten : (t ≡ 11 → ⊥) → t ≡ 10
    ten n = omega (arith, n, v.most)

    and_is : t ≡ 10 → remove_join_expressions (keys_at cells s set.start set.size) (expr_at cells node)
        ≡ left_of_and (remove_join_expressions (keys_at cells s set.start set.size) (expr_at cells x)) (remove_join_expressions (keys_at cells s set.start set.size) (expr_at cells y))
    unfolding remove_join_expressions op2_of
    and_is e = ap (remove_join_expressions (keys_at cells s set.start set.size)) (two 10 e)

    or_is : t ≡ 11 → remove_join_expressions (keys_at cells s set.start set.size) (expr_at cells node)
        ≡ left_of_or (remove_join_expressions (keys_at cells s set.start set.size) (expr_at cells x)) (remove_join_expressions (keys_at cells s set.start set.size) (expr_at cells y))
    unfolding remove_join_expressions op2_of
    or_is e = ap (remove_join_expressions (keys_at cells s set.start set.size)) (two 11 e)

    -- nothing is left of the first
    module _ {more : ℕ} {cells₁ : List ℕ} (d : Done cells used x s set None more cells₁) where
      pub or_gone : t ≡ 11 → Done cells used node s set None more cells₁
      unfolding left_of_or
      or_gone e = record {
        is = or_is e ∙ ap (λ o. left_of_or o (remove_join_expressions (keys_at cells s set.start set.size) (expr_at cells y))) d.is;
        kept = d.kept;
        grown = d.grown;
        few = omega (arith, d.few, sum);
        wf = d.wf;
      }

      pub and_right : (t ≡ 11 → ⊥) → (r : std.Option ℕ) (k : ℕ) (cells₂ : List ℕ) → Done cells₁ more y s set r k cells₂ → Done cells used node s set r k cells₂
      unfolding left_of_and
      and_right n r k cells₂ f =
          leaves_after (joints (expr_at cells node)) (joints (expr_at cells₁ y)) r k cells₂ (and_is (ten n) ∙ (ap (λ o. left_of_and o (remove_join_expressions (keys_at cells s set.start set.size) (expr_at cells y))) d.is ∙ sym (right_is d)))
          d.kept d.grown (omega (arith, d.few, sum, ap joints (same-y d))) f

    -- a node is left of the first
    module _ {l more : ℕ} {cells₁ : List ℕ} (d : Done cells used x s set (Some l) more cells₁) where
      few₂ : {most : ℕ} → most ≤ more + joints (expr_at cells₁ y) → most < used + joints (expr_at cells node)
      few₂ q = omega (arith, d.1.few, sum, ap joints (same-y d.1))

      -- nothing of the second
      module _ {most : ℕ} {cells₂ : List ℕ} (f : Done cells₁ more y s set None most cells₂) where
        or_gone_2 : t ≡ 11 → Done cells used node s set None most cells₂
        or_gone_2 e = record {
          is = or_is e ∙ or_none _ _ (sym (right_is d.1) ∙ f.is);
          kept = kept_trans (omega (arith, d.1.grown)) d.1.kept f.kept;
          grown = omega (arith, d.1.grown, f.grown);
          few = omega (arith, few₂ f.few);
          wf = f.wf;
        }

        and_left : (t ≡ 11 → ⊥) → Done cells used node s set (Some l) most cells₂
        and_left n = (
          omega (arith, d.0, f.grown),
          record {
            is = and_is (ten n) ∙ (and_none _ _ (sym (right_is d.1) ∙ f.is) ∙ (d.1.is ∙ ap some (sym (kept_expr more f.kept l d.0))));
            kept = kept_trans (omega (arith, d.1.grown)) d.1.kept f.kept;
            grown = omega (arith, d.1.grown, f.grown);
            few = omega (arith, few₂ f.few);
            wf = f.wf;
          },
        )

        pub first_is : (r : std.Option ℕ) → r ≡ first_alone t l → Done cells used node s set r most cells₂
        unfolding first_alone
        first_is r e = subst⁻¹ (λ q. Done cells used node s set q most cells₂) e (go (eqb t 11) refl)
          where
            go : (b : Bool) → eqb t 11 ≡ b → Done cells used node s set (cond b None (Some l)) most cells₂
            go true k = or_gone_2 (eqb-true t 11 k)
            go false k = and_left (λ n. true≢false (sym (eq-eqb t 11 n) ∙ k))

      -- a node of each
      module _ {r most : ℕ} {cells₂ : List ℕ} (f : Done cells₁ more y s set (Some r) most cells₂) where
        put_room : most * 3 + 2 < length cells
        put_room = omega (arith, few₂ f.1.few, g.1.1.1)

        ask_put : most * 3 + 2 < length cells₂
        ask_put = omega (arith, put_room, d.1.kept.long, f.1.kept.long)

        pub put_fits : (b : Result Built Full) (cells₃ : List ℕ) → Pushed cells₂ most t l r b cells₃ → IsOk b
        put_fits (Ok b) cells₃ w = refl
        put_fits (Err e) cells₃ w = absurd (omega (arith, w.full, ask_put))

        pub put_both : (b : Built) (cells₃ : List ℕ) → Stored cells₂ most t l r b.node b.used cells₃ → Done cells used node s set (Some b.node) b.used cells₃
        put_both b cells₃ w = rw (w.node_is, w.more_is, w.stored) (
          omega arith,
          record {
            is = whole;
            kept = kept_trans (omega (arith, d.1.grown)) d.1.kept (kept_trans (omega (arith, f.1.grown)) f.1.kept k);
            grown = omega (arith, d.1.grown, f.1.grown);
            few = omega (arith, few₂ f.1.few);
            wf = put_wf cells₂ most t l r ask_put f.1.wf (record { known = v.most; column = λ z. absurd (omega arith); first = λ z. l_in; second = λ z. f.0 });
          },
        )
          where
            l_in : l < most
            l_in = omega (arith, d.0, f.1.grown)

            k : Kept (most * 3) cells₂ (put_node cells₂ most t l r)
            k = put_kept cells₂ most t l r ask_put

            left-kept : expr_at (put_node cells₂ most t l r) l ≡ expr_at cells₁ l
            left-kept = kept_expr most k l l_in ∙ kept_expr more f.1.kept l d.0

            made : expr_at (put_node cells₂ most t l r) most ≡ bin (op2_of t) (expr_at cells₁ l) (expr_at cells₂ r)
            made =
                let a = put_tag cells₂ most t l r ask_put in
                let b = put_x cells₂ most t l r ask_put in
                let c = put_y cells₂ most t l r ask_put in
                at_two (put_node cells₂ most t l r) most (omega (arith, a, v.least)) (omega (arith, b, l_in)) (omega (arith, c, f.0))
                ∙ cc (a, ap (expr_at (put_node cells₂ most t l r)) b, ap (expr_at (put_node cells₂ most t l r)) c, left-kept, kept_expr most k r f.0)

            whole : remove_join_expressions (keys_at cells s set.start set.size) (expr_at cells node) ≡ some (expr_at (put_node cells₂ most t l r) most)
            whole =
                ap (remove_join_expressions (keys_at cells s set.start set.size)) v.means
                ∙ (both_op (op2_of t) _ _ _ (omega (arith, is-tag)) d.1.is (sym (right_is d.1) ∙ f.1.is) ∙ ap some (sym made))
