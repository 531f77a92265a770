-- The texts of what rows hold, put one after the other: a law for each way through a function. Assumes nothing.
use mathlib.Core.Path.{◌≡◌, refl, sym, ap}
use mathlib.Core.Bool.{Bool, true, false, true≢false}
use mathlib.Core.List.{List, ◌++◌}
use Prim.Native.Nat.{ℕ, zero, suc, ◌+◌, ◌-◌, ◌/◌, ◌%◌, ◌<◌}
use native.Mathlib.Omega.{arith}
use borrow.Author.Tests.{ne_eqb}
use lib.Dec.{eqb}
use Rattle.cpl.specs.Codes.{fn_of, op1_of, op2_of, signed}
use Rattle.cpl.specs.Plan as plan
use Rattle.plan_text.specs.Words.{w_as, w_by, w_close, w_close_list, w_comma, w_down, w_equals, w_first, w_missing, w_number, w_open, w_open_list, w_order, w_rows, w_space}
use Rattle.plan_text.specs.Write.{Text, ◌·◌, agg_text, call_text, expr_text, fn_text, if, integer, item_text, key_text, list_text, members_text, more_text, on_text, op1_text, op2_text, pair_text, win_text, word}
use Rattle.arena.specs.Cells.{expr_at}
use Rattle.arena.specs.Rows.{RowIs, RowOk, RowsOk, item_at}
use Rattle.arena.specs.View.{Shows}
use Rattle.arena.specs.declared.View.TheVariants.{Col, Lit, Miss, One, Two}
use Rattle.arena.proofs.Rows.{read_bare_lem, read_named}
use Rattle.tree.specs.Rows.{AllAt, EachOk, Inside, agg_at, call_of, exprs_at, key_at, key_of, keys_at, list_at, on_at, one, win_at}
use Rattle.tree.specs.Shows.{AggIs, KeyIs, OnIs, WinIs}
use Rattle.text_put.specs.Puts.{Leads, Puts}
use Rattle.text_put.proofs.Laws.{◌then◌, as_text, finish, none_put, turn}
use Rattle.text_parts.specs.Parts.{PartOk, PartsOk, members_at, more_at}
use Rattle.text_parts.specs.declared.Part.{Part}
use Rattle.text_parts.specs.declared.Part.TheVariants.{Agg, Column, Expr, Item, Key, On, Pair}

pub yes_put : {at r : ℕ} {xs ys : List ℕ} (b : Bool) (t : Text) → b ≡ true → Puts t at xs r ys → Puts (if b t) at xs r ys
unfolding if
yes_put true t e p = p
yes_put false t e p = absurd (true≢false (sym e))

pub no_put : {at : ℕ} {xs : List ℕ} (b : Bool) (t : Text) → b ≡ false → Puts (if b t) at xs at xs
unfolding if
no_put true t e = absurd (true≢false e)
no_put false t e = none_put

-- ── expressions ─────────────────────────────────────────────────────────────────────────────

module _ (s : List ℕ) (i : ℕ) {at r : ℕ} {xs ys : List ℕ} where
  expr_is : (e : plan.Expr) → expr_at s i ≡ e → Puts (expr_text e) at xs r ys → Puts (expr_text (expr_at s i)) at xs r ys
  expr_is e h p = rw h p

  pub expr_col : (q n : ℕ) → Shows s i (Col q n) → Puts (pair_text (plan.pair q n)) at xs r ys → Puts (expr_text (expr_at s i)) at xs r ys
  unfolding expr_text
  expr_col q n v p = expr_is _ v p

  pub expr_lit : (x : ℕ) → Shows s i (Lit x) → Puts (integer (signed x)) at xs r ys → Puts (expr_text (expr_at s i)) at xs r ys
  unfolding expr_text
  expr_lit x v p = expr_is _ v p

  pub expr_miss : Shows s i Miss → Puts (word w_missing) at xs r ys → Puts (expr_text (expr_at s i)) at xs r ys
  unfolding expr_text
  expr_miss v p = expr_is _ v p

  pub expr_one : {b c : ℕ} {us vs : List ℕ} (t x : ℕ) → Shows s i (One t x) → Puts (word w_open · op1_text (op1_of t)) at xs b us → Puts (expr_text (expr_at s x)) b us c vs →
      Puts (word w_close) c vs r ys → Puts (expr_text (expr_at s i)) at xs r ys
  unfolding expr_text
  expr_one t x v p₁ p₂ p₃ = expr_is _ v.means (p₁ then p₂ then p₃)

  pub expr_two : {b c d e : ℕ} {us vs ws zs : List ℕ} (t x y : ℕ) → Shows s i (Two t x y) → Puts (word w_open) at xs b us → Puts (expr_text (expr_at s x)) b us c vs →
      Puts (word w_space · op2_text (op2_of t)) c vs d ws → Puts (expr_text (expr_at s y)) d ws e zs → Puts (word w_close) e zs r ys → Puts (expr_text (expr_at s i)) at xs r ys
  unfolding expr_text
  expr_two t x y v p₁ p₂ p₃ p₄ p₅ = expr_is _ v.means (p₁ then p₂ then p₃ then p₄ then p₅)

-- ── items, keys, functions, aggregates, pairs of a join ─────────────────────────────────────

module _ {s : List ℕ} {i q n m k : ℕ} (cells : List ℕ) (row : RowIs s i q n m k) {at r : ℕ} {xs ys : List ℕ} where
  item_is : (x : plan.Item) → item_at s cells i ≡ x → Puts (item_text x) at xs r ys → Puts (item_text (item_at s cells i)) at xs r ys
  item_is x h p = rw h p

  pub item_bare : m ≡ 0 → Puts (pair_text (plan.pair q n)) at xs r ys → Puts (item_text (item_at s cells i)) at xs r ys
  unfolding item_text
  item_bare e p = item_is _ (read_bare_lem cells row e) p

  pub item_named : {b c : ℕ} {us vs : List ℕ} → (m ≡ 0 → ⊥) → Puts (expr_text (expr_at cells k)) at xs b us → Puts (word w_as) b us c vs → Puts (pair_text (plan.pair q n)) c vs r ys →
      Puts (item_text (item_at s cells i)) at xs r ys
  unfolding item_text
  item_named e p₁ p₂ p₃ = item_is _ (read_named cells row e) (p₁ then p₂ then p₃)

pub key_put : {s : List ℕ} {i x k at b c r : ℕ} {xs ys us vs : List ℕ} (cells : List ℕ) → KeyIs s i x k → Puts (expr_text (expr_at cells k)) at xs b us →
    Puts (if (eqb (x % 2) 1) (word w_down)) b us c vs → Puts (if (eqb (x / 2) 1) (word w_first)) c vs r ys → Puts (key_text (key_at s cells i)) at xs r ys
unfolding key_text key_of
key_put cells row p₁ p₂ p₃ = rw (row.means cells) (p₁ then p₂ then p₃)

pub call_none : {at r : ℕ} {xs ys : List ℕ} (w : List ℕ) (f : ℕ) (e : plan.Expr) → f ≡ 0 → Puts (word w) at xs r ys → Puts (call_text w (call_of f e)) at xs r ys
unfolding call_text call_of
call_none w f e h p = rw h p

pub call_over_lem : {at b c r : ℕ} {xs ys us vs : List ℕ} (w : List ℕ) (f : ℕ) (e : plan.Expr) → (f ≡ 0 → ⊥) → Puts (fn_text (fn_of f)) at xs b us → Puts (expr_text e) b us c vs →
    Puts (word w_close) c vs r ys → Puts (call_text w (call_of f e)) at xs r ys
unfolding call_text call_of
call_over_lem w f e h p₁ p₂ p₃ = rw (ne_eqb f 0 h) (p₁ then p₂ then p₃)

pub agg_put : {s : List ℕ} {i q n f k at b c r : ℕ} {xs ys us vs : List ℕ} (cells : List ℕ) → AggIs s i q n f k → Puts (call_text w_rows (call_of f (expr_at cells k))) at xs b us →
    Puts (word w_as) b us c vs → Puts (pair_text (plan.pair q n)) c vs r ys → Puts (agg_text (agg_at s cells i)) at xs r ys
unfolding agg_text
agg_put cells row p₁ p₂ p₃ = rw (row.means cells) (p₁ then p₂ then p₃)

pub on_put : {s : List ℕ} {i x y at b c r : ℕ} {xs ys us vs : List ℕ} (cells : List ℕ) → OnIs s i x y → Puts (expr_text (expr_at cells x)) at xs b us →
    Puts (word w_equals) b us c vs → Puts (expr_text (expr_at cells y)) c vs r ys → Puts (on_text (on_at s cells i)) at xs r ys
unfolding on_text
on_put cells row p₁ p₂ p₃ = rw (row.means cells) (p₁ then p₂ then p₃)

-- ── lists ───────────────────────────────────────────────────────────────────────────────────

-- a row of any kind lies in the array
pub part-inside : (p : Part) (s cells : List ℕ) (i : ℕ) → PartOk p s cells i → Inside s i
part-inside Item s cells i o = o.inside
part-inside Key s cells i o = o.inside
part-inside Agg s cells i o = o.inside
part-inside Expr s cells i o = o.inside
part-inside On s cells i o = o.inside
part-inside Pair s cells i o = o
part-inside Column s cells i o = o

-- the first of the things that are left, and the others
pub first-ok : (Ok : ℕ → Type 0) (size : ℕ → ℕ) (row left : ℕ) → 0 < left → AllAt Ok size row left → Ok row
unfolding AllAt
first-ok Ok size row zero h a = absurd (omega arith)
first-ok Ok size row (suc left) h a = a.0

pub others-ok : (Ok : ℕ → Type 0) (size : ℕ → ℕ) (row left : ℕ) → 0 < left → AllAt Ok size row left → AllAt Ok size (row + size row) (left - 1)
unfolding AllAt
others-ok Ok size row zero h a = absurd (omega arith)
others-ok Ok size row (suc left) h a = let e : suc left - 1 ≡ left = omega arith in rw e a.1

-- rows that are so one by one
pub each_all : (Ok : ℕ → Type 0) (s : List ℕ) (first n : ℕ) → EachOk Ok s first n → AllAt Ok one first n
unfolding AllAt
each_all Ok s first zero o = tt
each_all Ok s first (suc n) o = (o.each first (omega arith) (omega arith), each_all Ok s (first + 1) n (record { room = omega (arith, o.room); each = λ k h l. o.each k (omega arith) (omega arith) }))

pub rows_all : (s cells : List ℕ) (first n : ℕ) → RowsOk s cells first n → PartsOk Item s cells first n
rows_all s cells first n o = each_all (RowOk s cells) s first n (record { room = o.room; each = o.each })

-- a turn of the loop over what follows a member
pub more_turn : {t : Text} {at b c d : ℕ} {xs ys zs us : List ℕ} (f : ℕ → Text) (size : ℕ → ℕ) (row left : ℕ) → 0 < left → Leads t at xs (more_at f size row left) b ys →
    Puts (word w_comma) b ys c zs → Puts (f row) c zs d us → Leads t at xs (more_at f size (row + size row) (left - 1)) d us
unfolding more_text list_at
more_turn f size row zero h l p q = absurd (omega arith)
more_turn f size row (suc left) h l p q = let e : suc left - 1 ≡ left = omega arith in rw e (turn (more_at f size (row + size row) left) l (p then q) (λ rest. refl))

pub more-done : {t : Text} {at b r : ℕ} {xs ys zs : List ℕ} (f : ℕ → Text) (size : ℕ → ℕ) (row left : ℕ) → left ≡ 0 → Leads t at xs (more_at f size row left) b ys →
    Puts (word w_close_list) b ys r zs → Puts t at xs r zs
unfolding more_text list_at
more-done f size row zero h l p = finish l p (λ rest. refl)
more-done f size row (suc left) h l p = absurd (omega arith)

pub members-none : {at r : ℕ} {xs ys : List ℕ} (f : ℕ → Text) (size : ℕ → ℕ) (first n : ℕ) → n ≡ 0 → Puts (word w_close_list) at xs r ys → Puts (members_at f size first n) at xs r ys
unfolding members_text list_at
members-none f size first zero h p = p
members-none f size first (suc n) h p = absurd (omega arith)

pub members-some : {at b r : ℕ} {xs ys zs : List ℕ} (f : ℕ → Text) (size : ℕ → ℕ) (first n : ℕ) → 0 < n → Puts (f first) at xs b ys →
    Puts (more_at f size (first + size first) (n - 1)) b ys r zs → Puts (members_at f size first n) at xs r zs
unfolding members_text list_at
members-some f size first zero h p q = absurd (omega arith)
members-some {b = b} {r} {ys = ys} {zs} f size first (suc n) h p q =
    let e : suc n - 1 ≡ n = omega arith in
    let q' : Puts (more_at f size (first + size first) n) b ys r zs = rw e at q in
    p then q'

-- ── a list's members, each by its own text ──────────────────────────────────────────────────

more_same : {A : Type 0} (t : A → Text) (g : ℕ → A) (size : ℕ → ℕ) (first n : ℕ) (rest : List ℕ) → more_text t (list_at g size first n) rest ≡ more_at (λ i. t (g i)) size first n rest
unfolding more_text list_at
more_same t g size first zero rest = refl
more_same t g size first (suc n) rest = ap (λ (bs : List ℕ). w_comma ++ t (g first) bs) (more_same t g size (first + size first) n rest)

pub members-same : {A : Type 0} (t : A → Text) (g : ℕ → A) (size : ℕ → ℕ) (first n : ℕ) (rest : List ℕ) →
    members_text t (list_at g size first n) rest ≡ members_at (λ i. t (g i)) size first n rest
unfolding members_text list_at
members-same t g size first zero rest = refl
members-same t g size first (suc n) rest = ap (t (g first)) (more_same t g size (first + size first) n rest)

pub members_put : {A : Type 0} {at r : ℕ} {xs ys : List ℕ} (t : A → Text) (g : ℕ → A) (size : ℕ → ℕ) (first n : ℕ) → Puts (members_at (λ i. t (g i)) size first n) at xs r ys →
    Puts (members_text t (list_at g size first n)) at xs r ys
members_put t g size first n p = as_text (members_at (λ i. t (g i)) size first n) (members_text t (list_at g size first n)) (members-same t g size first n) p

-- ── windows ─────────────────────────────────────────────────────────────────────────────────

pub win_put : {s : List ℕ} {i q n f p key k root next at b c d e g h r : ℕ} {xs ys us vs ws zs ps qs : List ℕ} (cells : List ℕ) → WinIs s i q n f p key k root next →
    Puts (call_text w_number (call_of f (expr_at cells root))) at xs b us → Puts (word w_by · word w_open_list) b us c vs →
    Puts (members_text expr_text (exprs_at s cells (i + 1) p)) c vs d ws → Puts (word w_order · word w_open_list) d ws e zs →
    Puts (members_text key_text (keys_at s cells key k)) e zs g ps → Puts (word w_as) g ps h qs → Puts (pair_text (plan.pair q n)) h qs r ys → Puts (win_text (win_at s cells i)) at xs r ys
unfolding win_text list_text
win_put cells row p₁ p₂ p₃ p₄ p₅ p₆ p₇ = rw (row.means cells) (p₁ then p₂ then p₃ then p₄ then p₅ then p₆ then p₇)
