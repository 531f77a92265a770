-- The expressions of a node's parts, and what their references find. Assumes nothing.
use mathlib.Core.Path.{◌≡◌, refl, sym, ap, ap₂, ◌∙◌}
use mathlib.Core.Bool.{Bool, true, false, ◌&&◌}
use mathlib.Core.List.{List, [], ◌∷◌, ◌++◌, map}
use Prim.Native.Nat.{ℕ, zero, suc, ◌+◌, ◌<◌}
use native.Mathlib.Omega.{arith}
use borrow.Author.Tests.{eq-eqb, ne_eqb}
use lib.ListN.{length}
use Rattle.cpl.specs.Accept.{each_passes, on_passes}
use Rattle.cpl.specs.Exprs.{agg_exprs, call_exprs, definite, known, win_exprs}
use Rattle.std.specs.Prelude.{Ok}
use Rattle.cpl.specs.Plan.{Pair, Expr, item_expr, key_expr}
use Rattle.cpl.specs.Tests.{all_b, concat_map}
use Rattle.arena.specs.Cells.{expr_at}
use Rattle.arena.specs.Rows.{RowsOk, item_at, items_at}
use Rattle.arena.proofs.Rows.{item_expr_lem}
use Rattle.tree.specs.Rows.{EachOk, ExprOk, KeyOk, agg_at, call_of, exprs_at, key_at, key_of, keys_at, list_at, one, on_at, win_at}
use Rattle.tree.specs.Shows.{AggIs, OnIs, WinIs}
use Rattle.lookup.specs.Answers.{Resolved, resolved_of, resolving, worse}
use Rattle.lookup.proofs.Lists.{list-map, list_same}
use Rattle.lookup.proofs.Resolving.{all_seen, seen, worse-both}

-- ── rows that are so ────────────────────────────────────────────────────────────────────────

pub each-room : {Ok : ℕ → Type 0} {s : List ℕ} {f n : ℕ} → EachOk Ok s f n → (i : ℕ) → i < n → f + i < length s
each-room o i h = omega (arith, o.room)

pub each_at : {Ok : ℕ → Type 0} {s : List ℕ} {f n : ℕ} → EachOk Ok s f n → (i : ℕ) → i < n → Ok (f + i)
each_at {f = f} o i h = o.each (f + i) (omega arith) (omega arith)

pub each_map : {Ok Ok' : ℕ → Type 0} {s : List ℕ} {f n : ℕ} → ((k : ℕ) → Ok k → Ok' k) → EachOk Ok s f n → EachOk Ok' s f n
each_map g o = record { room = o.room; each = λ k a b. g k (o.each k a b) }

pub items-roots : {s cells : List ℕ} {f n : ℕ} → RowsOk s cells f n → EachOk (ExprOk s cells) s f n
items-roots o = record { room = o.room; each = λ k a b. let r = o.each k a b in record { inside = r.inside; node = r.node } }

pub keys-roots : {s cells : List ℕ} {f n : ℕ} → EachOk (KeyOk s cells) s f n → EachOk (ExprOk s cells) s f n
keys-roots o = each_map (λ k r. record { inside = r.inside; node = r.node }) o

-- ── the expressions of lists ────────────────────────────────────────────────────────────────

pub items-list : (s cells : List ℕ) (f n : ℕ) → items_at s cells f n ≡ list_at (item_at s cells) one f n
unfolding items_at list_at
items-list s cells f zero = refl
items-list s cells f (suc n) = let e : suc f ≡ f + 1 = omega arith in ap (item_at s cells f ∷◌) (ap (λ x. items_at s cells x n) e ∙ items-list s cells (f + 1) n)

pub items_exprs : (s cells : List ℕ) (f n : ℕ) → RowsOk s cells f n → exprs_at s cells f n ≡ map item_expr (items_at s cells f n)
items_exprs s cells f n o =
    sym (ap (map item_expr) (items-list s cells f n) ∙ list-map item_expr (item_at s cells) one f n ∙ list_same _ _ f n (λ x a b. item_expr_lem s cells x (o.each x a b)))

pub keys_exprs : (s cells : List ℕ) (f n : ℕ) → exprs_at s cells f n ≡ map key_expr (keys_at s cells f n)
unfolding key_expr key_at key_of
keys_exprs s cells f n = sym (list-map key_expr (key_at s cells) one f n)

-- ── tests ───────────────────────────────────────────────────────────────────────────────────

and_assoc : (a b c : Bool) → (a && b) && c ≡ a && (b && c)
and_assoc true b c = refl
and_assoc false b c = refl

and-true : (a : Bool) → a ≡ a && true
and-true true = refl
and-true false = refl

module _ {A : Type 0} (p : A → Bool) where
  pub all_append : (xs ys : List A) → all_b p (xs ++ ys) ≡ all_b p xs && all_b p ys
  unfolding all_b
  all_append [] ys = refl
  all_append (x ∷ xs) ys = ap (p x &&◌) (all_append xs ys) ∙ sym (and_assoc (p x) (all_b p xs) (all_b p ys))

  -- the expressions of each thing
  pub all_concat : {B : Type 0} (g : B → List A) (xs : List B) → all_b (λ x. all_b p (g x)) xs ≡ all_b p (concat_map g xs)
  unfolding all_b concat_map
  all_concat g [] = refl
  all_concat g (x ∷ xs) = ap (all_b p (g x) &&◌) (all_concat g xs) ∙ sym (all_append (g x) (concat_map g xs))

-- ── what references find ────────────────────────────────────────────────────────────────────

module _ (fs : List Pair) where
  -- one expression; two lists; the expressions of each thing
  pub seen_one : (e : Expr) → seen fs e ≡ resolving (each_passes (e ∷ []) fs)
  unfolding all_b
  seen_one e = ap₂ resolved_of (and-true (known fs e)) (and-true (definite fs e))

  pub seen_append : {x y z : Resolved} (es gs : List Expr) → x ≡ resolving (each_passes es fs) → y ≡ resolving (each_passes gs fs) → z ≡ worse x y → z ≡ resolving (each_passes (es ++ gs) fs)
  seen_append es gs p q w = w ∙ ap₂ worse p q ∙ worse-both (each_passes es fs) (each_passes gs fs) ∙ ap₂ resolved_of (sym (all_append (known fs) es gs)) (sym (all_append (definite fs) es gs))

  pub seen_concat : {A : Type 0} (E : A → List Expr) (xs : List A) → all_seen (λ x. each_passes (E x) fs) xs ≡ resolving (each_passes (concat_map E xs) fs)
  seen_concat E xs = ap₂ resolved_of (all_concat (known fs) E xs) (all_concat (definite fs) E xs)

  pub call_none : (f : ℕ) (e : Expr) → f ≡ 0 → Ok tt ≡ resolving (each_passes (call_exprs (call_of f e)) fs)
  unfolding call_of call_exprs all_b
  call_none f e h = rw (eq-eqb f 0 h)

  pub call_some : (f : ℕ) (e : Expr) {x : Resolved} → (f ≡ 0 → ⊥) → x ≡ seen fs e → x ≡ resolving (each_passes (call_exprs (call_of f e)) fs)
  unfolding call_of call_exprs
  call_some f e h k = k ∙ rw (ne_eqb f 0 h) (seen_one e)

  pub agg_seen : {s : List ℕ} {i q n f r : ℕ} (cells : List ℕ) {x : Resolved} → AggIs s i q n f r → x ≡ resolving (each_passes (call_exprs (call_of f (expr_at cells r))) fs) → x ≡ resolving (each_passes (agg_exprs (agg_at s cells i)) fs)
  unfolding agg_exprs
  agg_seen cells a e = e ∙ sym (ap (λ g. resolving (each_passes (agg_exprs g) fs)) (a.means cells))

  pub on_seen : {s : List ℕ} {i l r : ℕ} (cells : List ℕ) (fr : List Pair) {x y z : Resolved} → OnIs s i l r → x ≡ seen fs (expr_at cells l) → y ≡ seen fr (expr_at cells r) → z ≡ worse x y → z ≡ resolving (λ test. on_passes fs fr test (on_at s cells i))
  unfolding on_passes
  on_seen {l = l} {r} cells fr o d e w =
      w ∙ ap₂ worse d e ∙ worse-both (λ test. test fs (expr_at cells l)) (λ test. test fr (expr_at cells r)) ∙ sym (ap (λ v. resolving (λ test. on_passes fs fr test v)) (o.means cells))

  -- a window: its function's expression, its parts, its keys
  pub win_seen : {s : List ℕ} {i q n f p key k r next : ℕ} (cells : List ℕ) → WinIs s i q n f p key k r next → {a b d y z : Resolved} → a ≡ resolving (each_passes (call_exprs (call_of f (expr_at cells r))) fs)
      → b ≡ resolving (each_passes (exprs_at s cells (i + 1) p) fs) → d ≡ resolving (each_passes (exprs_at s cells key k) fs) → y ≡ worse b d → z ≡ worse a y → z ≡ resolving (each_passes (win_exprs (win_at s cells i)) fs)
  unfolding win_exprs
  win_seen {s} {i} {f = f} {p} {key} {k} {r} cells w x g h u v =
      let ks = map key_expr (keys_at s cells key k) in
      let ps = exprs_at s cells (i + 1) p in
      seen_append (call_exprs (call_of f (expr_at cells r))) (ps ++ ks) x (seen_append ps ks g (h ∙ ap (λ es. resolving (each_passes es fs)) (keys_exprs s cells key k)) u) v
      ∙ sym (ap (λ m. resolving (each_passes (win_exprs m) fs)) (w.means cells))
