-- What the rows of a node say, once their numbers are read. Assumes nothing.
use mathlib.Core.Path.{◌≡◌, refl, sym, ap, ◌∙◌}
use mathlib.Core.List.{List, ◌∷◌}
use Prim.Native.Nat.{ℕ, ◌+◌, ◌<◌}
use native.Mathlib.Decide.{ℕ_discrete}
use native.Mathlib.Omega.{arith}
use borrow.Author.Tests.{eq-eqb, ne_eqb}
use Rattle.cpl.specs.Bytes.{call_number, expr_bytes, key_bytes}
use Rattle.cpl.specs.Codes.{fn_of}
use Rattle.cpl.specs.Plan.{Expr, key_expr, over, rows}
use Rattle.cpl.proofs.CodeTrip.{flags-number, fn_number_lem}
use Rattle.arena.specs.Rows.{RowIs, root_at}
use Rattle.tree.specs.Rows.{agg_at, call_of, key_at, key_of, keys_row, number_at, on_at, win_at, win_size}
use Rattle.tree.specs.Shows.{AggIs, KeyIs, OnIs, WinIs}

module _ {s : List ℕ} {i q n m k : ℕ} (e : RowIs s i q n m k) where
  pub number_is : q ≡ number_at s i
  number_is = cc e.pair_is

  pub key_is : KeyIs s i q k
  unfolding key_at
  key_is = record {
    flags_is = number_is;
    root_is = e.root_is;
    means = λ cells. rw (number_is, e.root_is);
    node = λ cells o. rw e.root_is o.node;
  }

  pub agg_is : AggIs s i q n m k
  unfolding agg_at
  agg_is = record {
    pair_is = e.pair_is;
    function_is = e.mark_is;
    root_is = e.root_is;
    means = λ cells. rw (e.pair_is, e.mark_is, e.root_is);
    node = λ cells o h. rw e.root_is (o.node (rw e.mark_is at h));
  }

  pub on_is : {l : ℕ} → l ≡ m → OnIs s i l k
  unfolding on_at
  on_is d = record {
    left_is = d ∙ e.mark_is;
    right_is = e.root_is;
    means = λ cells. rw (d, e.mark_is, e.root_is);
    left_node = λ cells o. rw (d, e.mark_is) o.left;
    right_node = λ cells o. rw e.root_is o.right;
  }

-- a window: the number of its parts is k, that of its keys and its root stand after them
module _ {s : List ℕ} {i q n m k : ℕ} (e : RowIs s i q n m k) where
  mid : i + 1 + k ≡ keys_row s i
  mid = ap (λ x. i + 1 + x) e.root_is

  module _ {q' n' m' z l : ℕ} (f : RowIs s (i + 1 + k) q' n' m' z) (d : l ≡ q') where
    keys_are : l ≡ number_at s (keys_row s i)
    keys_are = d ∙ number_is f ∙ ap (number_at s) mid

    pub win_is : WinIs s i q n m k (i + 1 + k + 1) l z (i + 1 + k + 1 + l)
    unfolding win_at win_size
    win_is =
        let root : z ≡ root_at s (keys_row s i) = f.root_is ∙ ap (root_at s) mid in
        let after : i + 1 + k + 1 ≡ keys_row s i + 1 = ap (λ x. x + 1) mid in
        record {
          pair_is = e.pair_is;
          function_is = e.mark_is;
          parts_are = e.root_is;
          key_is = after;
          keys_are = keys_are;
          root_is = root;
          next_is = omega (arith, mid, keys_are, e.root_is);
          means = λ cells. rw (e.pair_is, e.mark_is, root, after, keys_are, e.root_is);
          parts = λ cells o. rw e.root_is o.parts;
          keys = λ cells o. rw (after, keys_are) o.keys;
          node = λ cells o h. rw root (o.node (rw e.mark_is at h));
        }

-- ── a part by its numbers ───────────────────────────────────────────────────────────────────

module _ (f : ℕ) (e : Expr) where
  pub call_rows : f ≡ 0 → call_of f e ≡ rows
  unfolding call_of
  call_rows h = rw (eq-eqb f 0 h)

  pub call_over_lem : 0 < f → call_of f e ≡ over (fn_of f) e
  unfolding call_of
  call_over_lem h = rw (ne_eqb f 0 (λ k. omega arith))

  pub call_number_lem : f < 5 → call_number (call_of f e) ≡ f
  unfolding call_number
  call_number_lem h = elim (ℕ_discrete f 0) [
    | yes k ↦ ap call_number (call_rows k) ∙ sym k
    | no k ↦ ap call_number (call_over_lem (omega arith)) ∙ fn_number_lem f (omega arith) h
  ]

pub key_expr_lem : (x : ℕ) (e : Expr) → key_expr (key_of x e) ≡ e
unfolding key_of key_expr
key_expr_lem x e = refl

pub key-bytes : (x : ℕ) (e : Expr) → x < 4 → key_bytes (key_of x e) ≡ x ∷ expr_bytes e
unfolding key_of key_bytes
key-bytes x e h = ap (λ k. k ∷ expr_bytes e) (flags-number x h)
