-- The bytes of a row by what it holds, once its numbers are read. Assumes nothing.
use mathlib.Core.Path.{◌≡◌, refl, sym, ap, ◌∙◌}
use mathlib.Core.List.{List, [], ◌∷◌, ◌++◌, append_assoc}
use Prim.Native.Nat.{ℕ, zero, suc, ◌+◌, ◌*◌, ◌-◌, ◌/◌, ◌%◌, ◌<◌}
use native.Mathlib.Omega.{arith}
use borrow.Author.Tests.{ne_eqb}
use lib.Dec.{eqb}
use lib.ListN.{length, take, drop, length-append}
use Rattle.cpl.specs.Bytes.{agg_bytes, bytes, call_bytes, call_number, expr_bytes, item_bytes, key_bytes, on_bytes, pair_bytes}
use Rattle.cpl.specs.Codes.{bit, fn_number, fn_of}
use Rattle.cpl.specs.Exprs.{agg_exprs, agg_tags, call_exprs, expr_tags, item_tags, key_tags, on_tags}
use Rattle.cpl.specs.Plan.{Expr, Pair, bare, key_expr, pair}
use Rattle.cpl.specs.Tests.{sum_of}
use Rattle.arena.specs.Cells.{expr_at}
use Rattle.arena.specs.Rows.{RowIs, item_at}
use Rattle.arena.proofs.Rows.{read_bare_lem, read_named, read_tags}
use Rattle.tree.specs.Rows.{AggOk, KeyOk, agg_at, call_of, key_at, key_of, on_at}
use Rattle.tree.specs.Shows.{AggIs, KeyIs, OnIs}
use Rattle.writer_parts.specs.Wrote.{Laid, Wrote}
use Rattle.writer_parts.proofs.Over.{part, so, start, then}
use Rattle.writer_parts.proofs.Exprs.{B, T, byte}

pub pair-length : (q n : ℕ) → length (pair_bytes (pair q n)) ≡ 4
unfolding pair_bytes bytes
pair-length q n = refl

-- ── items ───────────────────────────────────────────────────────────────────────────────────

module _ {s : List ℕ} {i q n m k : ℕ} (cells : List ℕ) (r : RowIs s i q n m k) where
  bare_is : m ≡ 0 → item_bytes (item_at s cells i) ≡ 0 ∷ pair_bytes (pair q n)
  unfolding item_bytes
  bare_is e = ap item_bytes (read_bare_lem cells r e)

  named-is : (m ≡ 0 → ⊥) → item_bytes (item_at s cells i) ≡ 12 ∷ (pair_bytes (pair q n) ++ B cells k)
  unfolding item_bytes
  named-is e = ap item_bytes (read_named cells r e)

  pub bare-length : m ≡ 0 → length (item_bytes (item_at s cells i)) ≡ 5
  bare-length e = ap length (bare_is e) ∙ omega (arith, pair-length q n)

  pub named-length : (m ≡ 0 → ⊥) → length (item_bytes (item_at s cells i)) ≡ 5 + length (B cells k)
  named-length e = ap length (named-is e) ∙ omega (arith, pair-length q n, length-append (pair_bytes (pair q n)) (B cells k))

  pub bare-tags : m ≡ 0 → item_tags (item_at s cells i) ≡ 1
  unfolding item_tags
  bare-tags e = ap item_tags (read_bare_lem cells r e)

  pub named-tags : (m ≡ 0 → ⊥) → item_tags (item_at s cells i) ≡ suc (T cells k)
  named-tags e = read_tags cells r e

  module _ {xs o₁ o₂ : List ℕ} {a b : ℕ} where
    pub bare-wrote : m ≡ 0 → Laid 0 (bytes 1 0) 1 xs a o₁ → Laid a (pair_bytes (pair q n)) 4 o₁ b o₂ → Wrote (item_bytes (item_at s cells i)) xs b o₂
    unfolding bytes
    bare-wrote e l₁ l₂ = so (then (then start l₁) l₂) (sym (bare_is e)) refl

    pub named-wrote : {ys : List ℕ} {z : ℕ} → (m ≡ 0 → ⊥) → Laid 0 (bytes 1 12) 1 xs a o₁ → Laid a (pair_bytes (pair q n)) 4 o₁ b o₂ →
        Wrote (B cells k) (take (length o₂ - b) (drop b o₂)) z ys → Wrote (item_bytes (item_at s cells i)) xs (b + z) (take b o₂ ++ (ys ++ drop (length o₂ - b) (drop b o₂)))
    unfolding bytes
    named-wrote e l₁ l₂ w = so (part (then (then start l₁) l₂) w) (sym (named-is e)) refl

-- ── keys ────────────────────────────────────────────────────────────────────────────────────

flags_bits : (x : ℕ) → x < 4 → bit (eqb (x % 2) 1) + 2 * bit (eqb (x / 2) 1) ≡ x
unfolding bit
flags_bits zero h = refl
flags_bits (suc zero) h = refl
flags_bits (suc (suc zero)) h = refl
flags_bits (suc (suc (suc zero))) h = refl
flags_bits (suc (suc (suc (suc x)))) h = absurd (omega arith)

module _ {s : List ℕ} {i x k : ℕ} (cells : List ℕ) (r : KeyIs s i x k) (o : KeyOk s cells i) where
  pub key-small : x < 4
  key-small = omega (arith, r.flags_is, o.flags)

  key_is : key_bytes (key_at s cells i) ≡ x ∷ B cells k
  unfolding key_bytes key_of
  key_is = ap key_bytes (r.means cells) ∙ ap (λ (y : ℕ). y ∷ B cells k) (flags_bits x key-small)

  pub key-length : length (key_bytes (key_at s cells i)) ≡ 1 + length (B cells k)
  key-length = ap length key_is ∙ omega arith

  pub key-tags : key_tags (key_at s cells i) ≡ T cells k
  unfolding key_tags key_of key_expr
  key-tags = ap key_tags (r.means cells)

  pub key-wrote : {xs o₁ ys : List ℕ} {a z y : ℕ} → y ≡ x → Laid 0 (bytes 1 y) 1 xs a o₁ → Wrote (B cells k) (take (length o₁ - a) (drop a o₁)) z ys →
      Wrote (key_bytes (key_at s cells i)) xs (a + z) (take a o₁ ++ (ys ++ drop (length o₁ - a) (drop a o₁)))
  key-wrote {y = y} e l w = so (part (then start l) w) (rw (byte y (omega (arith, key-small)), e) (sym key_is)) refl

-- ── functions and aggregates ────────────────────────────────────────────────────────────────

fn_number_lem : (f : ℕ) → 0 < f → f < 5 → fn_number (fn_of f) ≡ f
unfolding fn_number fn_of
fn_number_lem zero h l = absurd (omega arith)
fn_number_lem (suc zero) h l = refl
fn_number_lem (suc (suc zero)) h l = refl
fn_number_lem (suc (suc (suc zero))) h l = refl
fn_number_lem (suc (suc (suc (suc zero)))) h l = refl
fn_number_lem (suc (suc (suc (suc (suc f))))) h l = absurd (omega arith)

module _ (e : Expr) where
  pub call_none : (f : ℕ) → f ≡ 0 → call_bytes (call_of f e) ≡ []
  unfolding call_of call_bytes
  call_none f h = rw h

  pub call_some : (f : ℕ) → (f ≡ 0 → ⊥) → call_bytes (call_of f e) ≡ expr_bytes e
  unfolding call_of call_bytes
  call_some f h = rw (ne_eqb f 0 h)

  pub call_none_tags : (f : ℕ) → f ≡ 0 → sum_of expr_tags (call_exprs (call_of f e)) ≡ 0
  unfolding call_of call_exprs sum_of
  call_none_tags f h = rw h

  pub call_some_tags : (f : ℕ) → (f ≡ 0 → ⊥) → sum_of expr_tags (call_exprs (call_of f e)) ≡ expr_tags e
  unfolding call_of call_exprs sum_of
  call_some_tags f h = rw (ne_eqb f 0 h) (omega arith)

  pub call_number_lem : (f : ℕ) → f < 5 → call_number (call_of f e) ≡ f
  unfolding call_of call_number
  call_number_lem zero h = refl
  call_number_lem (suc f) h = rw (ne_eqb (suc f) 0 (omega arith)) (fn_number_lem (suc f) (omega arith) h)

module _ {s : List ℕ} {i q n f k : ℕ} (cells : List ℕ) (r : AggIs s i q n f k) (o : AggOk s cells i) where
  abbrev C : List ℕ
  C = call_bytes (call_of f (expr_at cells k))

  pub agg-small : f < 5
  agg-small = omega (arith, r.function_is, o.function)

  agg-is : agg_bytes (agg_at s cells i) ≡ pair_bytes (pair q n) ++ f ∷ C
  unfolding agg_bytes
  agg-is = ap agg_bytes (r.means cells) ∙ ap (λ (y : ℕ). pair_bytes (pair q n) ++ y ∷ C) (call_number_lem (expr_at cells k) f agg-small)

  pub agg-length : length (agg_bytes (agg_at s cells i)) ≡ 5 + length C
  agg-length = ap length agg-is ∙ length-append (pair_bytes (pair q n)) (f ∷ C) ∙ omega (arith, pair-length q n)

  pub agg-tags : agg_tags (agg_at s cells i) ≡ sum_of expr_tags (call_exprs (call_of f (expr_at cells k)))
  unfolding agg_tags agg_exprs
  agg-tags = ap agg_tags (r.means cells)

  pub agg-wrote : {xs o₁ o₂ ys : List ℕ} {a b z y : ℕ} → y ≡ f → Laid 0 (pair_bytes (pair q n)) 4 xs a o₁ → Laid a (bytes 1 y) 1 o₁ b o₂ →
      Wrote C (take (length o₂ - b) (drop b o₂)) z ys → Wrote (agg_bytes (agg_at s cells i)) xs (b + z) (take b o₂ ++ (ys ++ drop (length o₂ - b) (drop b o₂)))
  agg-wrote {y = y} e l₁ l₂ w =
      so (part (then (then start l₁) l₂) w)
      (rw (byte y (omega (arith, agg-small)), e) (append_assoc (pair_bytes (pair q n)) (f ∷ []) C) ∙ sym agg-is) refl

-- ── pairs of a join ─────────────────────────────────────────────────────────────────────────

module _ {s : List ℕ} {i l k : ℕ} (cells : List ℕ) (r : OnIs s i l k) where
  on-is : on_bytes (on_at s cells i) ≡ B cells l ++ B cells k
  unfolding on_bytes
  on-is = ap on_bytes (r.means cells)

  pub on-length : length (on_bytes (on_at s cells i)) ≡ length (B cells l) + length (B cells k)
  on-length = ap length on-is ∙ length-append (B cells l) (B cells k)

  pub on-tags : on_tags (on_at s cells i) ≡ T cells l + T cells k
  unfolding on_tags
  on-tags = ap on_tags (r.means cells)

  pub on-wrote : {xs o₁ ys : List ℕ} {a z : ℕ} → Wrote (B cells l) xs a o₁ → Wrote (B cells k) (take (length o₁ - a) (drop a o₁)) z ys →
      Wrote (on_bytes (on_at s cells i)) xs (a + z) (take a o₁ ++ (ys ++ drop (length o₁ - a) (drop a o₁)))
  on-wrote w u = so (part w u) (sym on-is) refl

-- ── pairs, columns and fields ───────────────────────────────────────────────────────────────

pub a-pair-length : (c : Pair) → length (pair_bytes c) ≡ 4
a-pair-length (pair q n) = pair-length q n

pub pair-wrote : {xs o : List ℕ} {a q n : ℕ} {c : Pair} → pair q n ≡ c → Laid 0 (pair_bytes (pair q n)) 4 xs a o → Wrote (pair_bytes c) xs a o
pair-wrote e l = so (then start l) (ap pair_bytes e) refl

pub number-wrote : {xs o : List ℕ} {a k x y : ℕ} → x ≡ y → Laid 0 (bytes k x) k xs a o → Wrote (bytes k y) xs a o
number-wrote {k = k} e l = so (then start l) (ap (bytes k) e) refl

pub field-length : (c : Pair) → length (item_bytes (bare c)) ≡ 5
unfolding item_bytes
field-length c = omega (arith, a-pair-length c)

pub field-tags : (c : Pair) → item_tags (bare c) ≡ 1
unfolding item_tags
field-tags c = refl

pub field-wrote : {xs o₁ o₂ : List ℕ} {a b q n : ℕ} {c : Pair} → pair q n ≡ c → Laid 0 (bytes 1 0) 1 xs a o₁ → Laid a (pair_bytes (pair q n)) 4 o₁ b o₂ → Wrote (item_bytes (bare c)) xs b o₂
unfolding bytes item_bytes
field-wrote e l₁ l₂ = so (then (then start l₁) l₂) (ap (λ (x : Pair). 0 ∷ pair_bytes x) e) refl
