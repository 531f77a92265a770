-- The ways through `subst`, over plain lists and numbers. Assumes nothing.
use mathlib.Core.Path.{◌≡◌, sym, ap, ◌∙◌}
use mathlib.Core.List.{List}
use Prim.Native.Nat.{ℕ, ◌+◌, ◌*◌, ◌^◌, ◌<◌}
use native.Mathlib.Omega.{arith}
use Rattle.cpl.specs.Codes.{op1_of, op2_of}
use Rattle.cpl.specs.Exprs.{expr_tags}
use Rattle.cpl.specs.Plan.{Expr, Pair, bin, pair, un}
use Rattle.rules.specs.Merge.{replace}
use Rattle.arena.specs.Cells.{Wf, expr_at}
use Rattle.arena.specs.Rows.{RowsOk, items_at}
use Rattle.arena.specs.View.{Shows}
use Rattle.arena.specs.declared.View.TheVariants.{Col, Lit, Miss, One, Two}
use Rattle.arena.proofs.Laws.{lower}
use Rattle.arena_build.specs.Build.{Answer, Made, Pushed, Refused, find_in, put_for}
use Rattle.arena_build.specs.declared.Built.{Built}
use Rattle.arena_build.specs.declared.Level.{Level}
use Rattle.arena_build.specs.declared.Level.TheVariants.{Copy, Replace}
use Rattle.arena.specs.declared.Full.{Full}
use Rattle.std.proofs.Common.{Result, Some, None}
use Rattle.arena_build.proofs.Defs.{copy_same, def_found, def_none, put_copy, put_replaced}
use Rattle.arena_build.proofs.Grow.{full-one, full-second, put_col, put_lit, put_miss, put_one, put_two}

-- a definition is copied: its level is below that of what it is put for
abbrev pub rank : Level → ℕ
rank Copy = 0
rank Replace = 1

-- what a call asks: t is the caller's measure
abbrev pub Ask : ℕ → (src : List ℕ) (i : ℕ) (items : List ℕ) (first count : ℕ) (cells : List ℕ) (level : Level) (dst : List ℕ) (used : ℕ) → Type 0
Ask t s i d f n c v l u = (rank v * 2 ^ 64 + i < t) × (Wf s (i + 1) × (RowsOk d c f n × Wf l u))

abbrev pub Given : ℕ → (src : List ℕ) (i : ℕ) (items : List ℕ) (first count : ℕ) (cells : List ℕ) (level : Level) (dst : List ℕ) (used : ℕ) → Type 0
Given t s i d f n c v l u = (rank v * 2 ^ 64 + i ≡ t) × (Wf s (i + 1) × (RowsOk d c f n × Wf l u))

-- what is built
abbrev pub replaced : (src : List ℕ) (i : ℕ) (items : List ℕ) (first count : ℕ) (cells : List ℕ) (level : Level) → Expr
replaced s i d f n c v = replace (put_for v (items_at d c f n)) (expr_at s i)

module _ (t : ℕ) (s : List ℕ) (i : ℕ) (d : List ℕ) (f n : ℕ) (c : List ℕ) (v : Level) (l : List ℕ) (u : ℕ) (g : Given t s i d f n c v l u) where
  pub ask_operand : (x : ℕ) (l₁ : List ℕ) (u₁ : ℕ) → x < i → Wf l₁ u₁ → Ask t s x d f n c v l₁ u₁
  ask_operand x l₁ u₁ h w = (omega (arith, g.0), (lower s i x g.1.0 h, (g.1.1.0, w)))

  pub ask_copy : (q : Pair) (j : ℕ) → v ≡ Replace → j < 2 ^ 64 → Some j ≡ find_in d f n q → Ask t c j d f n c Copy l u
  ask_copy q j z h e = (omega (arith, g.0, ap rank z), ((def_found d c q f n j g.1.1.0 (sym e)).1, (g.1.1.0, g.1.1.1)))

  -- what stands for a column
  module _ {q m : ℕ} (e : Shows s i (Col q m)) where
    column : replaced s i d f n c v ≡ put_for v (items_at d c f n) (pair q m)
    unfolding replace
    column = ap (replace (put_for v (items_at d c f n))) e

    pub ret_col : (r : Result Built Full) (l₁ : List ℕ) → v ≡ Copy → q < 65536 → m < 65536 → Pushed l u 0 q m r l₁ → Answer (replaced s i d f n c v) l u r l₁
    ret_col r l₁ z h k p = rw (column ∙ put_copy v _ _ z) (put_col l u r l₁ g.1.1.1 q m h k p)

    pub ret_none : (r : Result Built Full) (l₁ : List ℕ) → v ≡ Replace → None ≡ find_in d f n (pair q m) → Pushed l u 2 0 0 r l₁ → Answer (replaced s i d f n c v) l u r l₁
    ret_none r l₁ z h p = rw (column ∙ put_replaced v _ _ z ∙ def_none d c (pair q m) f n g.1.1.0 (sym h)) (put_miss l u r l₁ g.1.1.1 p)

    pub ret_def : (j : ℕ) (r : Result Built Full) (l₁ : List ℕ) → v ≡ Replace → Some j ≡ find_in d f n (pair q m) → Answer (replace (put_for Copy (items_at d c f n)) (expr_at c j)) l u r l₁ → Answer (replaced s i d f n c v) l u r l₁
    ret_def j r l₁ z h p = rw (column ∙ put_replaced v _ _ z ∙ (def_found d c (pair q m) f n j g.1.1.0 (sym h)).0) (rw (copy_same (items_at d c f n) (expr_at c j)) at p)

-- p is what replaces a column
module _ (p : Pair → Expr) (s : List ℕ) (i : ℕ) (l : List ℕ) (u : ℕ) where
  pub ret_lit : (a : ℕ) (r : Result Built Full) (l₁ : List ℕ) → Wf l u → Shows s i (Lit a) → Pushed l u 1 a 0 r l₁ → Answer (replace p (expr_at s i)) l u r l₁
  unfolding replace
  ret_lit a r l₁ w v d = rw v (put_lit l u r l₁ w a d)

  pub ret_miss : (r : Result Built Full) (l₁ : List ℕ) → Wf l u → Shows s i Miss → Pushed l u 2 0 0 r l₁ → Answer (replace p (expr_at s i)) l u r l₁
  unfolding replace
  ret_miss r l₁ w v d = rw v (put_miss l u r l₁ w d)

  pub ret_one : (k x node more : ℕ) (l₁ : List ℕ) (r : Result Built Full) (l₂ : List ℕ) → Shows s i (One k x) → Made (replace p (expr_at s x)) l u node more l₁ → Pushed l₁ more k node 0 r l₂ → Answer (replace p (expr_at s i)) l u r l₂
  unfolding replace
  ret_one k x node more l₁ r l₂ v m d = rw v.means (put_one k _ l u node more l₁ r l₂ v.least v.most m d)

  pub ret_two : (k x y node more : ℕ) (l₁ : List ℕ) (node₂ most : ℕ) (l₂ : List ℕ) (r : Result Built Full) (l₃ : List ℕ) → Shows s i (Two k x y)
      → Made (replace p (expr_at s x)) l u node more l₁ → Made (replace p (expr_at s y)) l₁ more node₂ most l₂ → Pushed l₂ most k node node₂ r l₃ → Answer (replace p (expr_at s i)) l u r l₃
  unfolding replace
  ret_two k x y node more l₁ node₂ most l₂ r l₃ v m m₂ d = rw v.means (put_two k _ _ l u node more l₁ node₂ most l₂ r l₃ v.least v.most m m₂ d)

  pub no_one : (k x : ℕ) (l₁ : List ℕ) → Shows s i (One k x) → Refused (replace p (expr_at s x)) l u l₁ → Refused (replace p (expr_at s i)) l u l₁
  unfolding replace expr_tags
  no_one k x l₁ v m = rw v.means (full-one (un (op1_of k)) _ l u l₁ (omega arith) m)

  pub no_first : (k x y : ℕ) (l₁ : List ℕ) → Shows s i (Two k x y) → Refused (replace p (expr_at s x)) l u l₁ → Refused (replace p (expr_at s i)) l u l₁
  unfolding replace expr_tags
  no_first k x y l₁ v m = rw v.means (full-one (λ e. bin (op2_of k) e (replace p (expr_at s y))) _ l u l₁ (omega arith) m)

  pub no_second : (k x y node more : ℕ) (l₁ l₂ : List ℕ) → Shows s i (Two k x y) → Made (replace p (expr_at s x)) l u node more l₁ → Refused (replace p (expr_at s y)) l₁ more l₂ → Refused (replace p (expr_at s i)) l u l₂
  unfolding replace
  no_second k x y node more l₁ l₂ v m m₂ = rw v.means (full-second k _ _ l u node more l₁ l₂ m m₂)
