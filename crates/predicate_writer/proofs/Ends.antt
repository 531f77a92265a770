-- How long keys and what is left of a predicate are, and that they are written. Assumes nothing.
use mathlib.Core.Path.{◌≡◌, refl, sym, ap, ◌∙◌}
use mathlib.Core.Bool.{true}
use mathlib.Core.List.{List, ◌++◌}
use mathlib.Core.Option.{none, some}
use Prim.Native.Nat.{ℕ, ◌+◌, ◌*◌, ◌-◌, ◌<◌, ◌≤◌}
use native.Mathlib.Omega.{arith}
use lib.ListN.{drop, length, length-append, take}
use Rattle.cpl.specs.Bytes.{bytes, cond_bytes, expr_bytes, on_bytes, pair_bytes}
use Rattle.cpl.specs.Codes.{unsigned}
use Rattle.cpl.specs.Exprs.{expr_tags, on_tags}
use Rattle.cpl.specs.Plan.{Expr, bin, col, lit, miss, pair, un}
use Rattle.cpl.specs.Tests.{sum_of}
use Rattle.rules.specs.Answer.{written}
use Rattle.arena.specs.Cells.{Wf}
use Rattle.tree.specs.Rows.{on_at}
use Rattle.writer_parts.specs.Wrote.{Countable, Laid, Wrote, over}
use Rattle.writer_parts.specs.Lists.{Which, counted_list, list_tags}
use Rattle.writer_parts.specs.declared.Part.TheVariants as part
use Rattle.writer_parts.proofs.Lists.{after-count, all-row-tags, counted-all-rows}
use Rattle.writer_parts.proofs.Exprs.{byte}
use Rattle.writer_parts.proofs.Over.{length-bytes, so, start, then}
use Rattle.join_keys.specs.Entries.{keys_bytes}
use Rattle.join_key_set.specs.Pairs.{KeysIn, KeysOk, keys_at, left_at, right_at}
use Rattle.key_rows.specs.Rows.{SameKeys}
use Rattle.key_rows.proofs.Rows.{same-list}
use Rattle.std.specs.Prelude.{Ok, Err}
use Rattle.refusals.specs.Codes.{code_of}
use Rattle.refusals.specs.declared.Reason.TheVariants.{Room}
use Rattle.refusals.specs.declared.Refusal.{Refusal}
use Rattle.answers.specs.Answers.{Delivers}
use Rattle.answers.proofs.Ends as ends

-- "success is code 0 with the bytes written and place 0"
pub written_out : {n : ℕ} {out' : List ℕ} (bs out : List ℕ) → n ≤ length out → Wrote bs out n out' → Delivers (written bs out) (Ok n) out'
unfolding over
written_out bs out l w = ends.written_out bs out (omega (arith, w.long)) (refl, w.long, refl) w.ends

-- "ROOM: output shorter than the result; length needed"
pub no_room : {e : Refusal} {n : ℕ} (bs out : List ℕ) → n ≡ length bs → length out < n → (e.reason ≡ Room) × (e.place ≡ n) → Delivers (written bs out) (Err e) out
no_room bs out l h e = ends.no_room bs out l h (ap code_of e.0, refl, e.1)

-- ── how long ────────────────────────────────────────────────────────────────────────────────

-- an expression's bytes are at most nine a tag
pub expr_short : (e : Expr) → length (expr_bytes e) ≤ 9 * expr_tags e
unfolding expr_bytes expr_tags pair_bytes
expr_short (col (pair q n)) = omega (arith, length-append (bytes 2 q) (bytes 2 n), length-bytes 2 q, length-bytes 2 n)
expr_short (lit z) = omega (arith, length-bytes 8 (unsigned z))
expr_short miss = omega arith
expr_short (un o a) = omega (arith, expr_short a)
expr_short (bin o a b) = omega (arith, expr_short a, expr_short b, length-append (expr_bytes a) (expr_bytes b))

-- ── pairs as rows ───────────────────────────────────────────────────────────────────────────

-- nodes of so few cells have 16-bit numbers
pub narrow : {cells pairs : List ℕ} {n : ℕ} → length cells ≤ 196608 → KeysOk cells pairs 0 n → KeysIn 65536 pairs 0 n
unfolding Wf
narrow {pairs = pairs} l o = record {
  room = o.room;
  left = λ k a b. omega (arith, (o.left k a b (left_at pairs k) (omega arith)).inside);
  right = λ k a b. omega (arith, (o.right k a b (right_at pairs k) (omega arith)).inside);
}

module _ {n : ℕ} {rows pairs : List ℕ} (cells : List ℕ) (w : Which) (a : w.all ≡ true) (s : SameKeys n rows pairs) where
  pub rows-bytes : keys_bytes (keys_at cells pairs 0 n) ≡ counted_list 1 part.On rows cells 0 n w
  rows-bytes = ap keys_bytes (sym (same-list cells s)) ∙ counted-all-rows 1 w on_bytes on_tags (on_at rows cells) 0 n a

  pub rows-tags : sum_of on_tags (keys_at cells pairs 0 n) ≡ list_tags part.On rows cells 0 n w
  rows-tags = ap (sum_of on_tags) (sym (same-list cells s)) ∙ all-row-tags w on_bytes on_tags (on_at rows cells) 0 n a

  pub rows_countable : Countable (length (keys_bytes (keys_at cells pairs 0 n))) (sum_of on_tags (keys_at cells pairs 0 n)) → Countable (length (counted_list 1 part.On rows cells 0 n w)) (list_tags part.On rows cells 0 n w)
  rows_countable c = record { bytes_fit = omega (arith, c.bytes_fit, ap length rows-bytes); tags_fit = omega (arith, c.tags_fit, rows-tags) }

-- ── what is left ────────────────────────────────────────────────────────────────────────────

pub nothing-length : length (cond_bytes none) ≡ 1
unfolding cond_bytes
nothing-length = refl

pub nothing_written : {xs ys : List ℕ} {n : ℕ} → Laid 0 (bytes 1 0) 1 xs n ys → Wrote (cond_bytes none) xs n ys
unfolding cond_bytes
nothing_written l = so (then start l) (byte 0 (omega arith)) refl

pub something_length : (e : Expr) {n : ℕ} → n ≡ length (expr_bytes e) → n + 1 ≡ length (cond_bytes (some e))
unfolding cond_bytes
something_length e h = omega arith

pub something_written : (e : Expr) {xs o ys : List ℕ} {a m : ℕ} → Laid 0 (bytes 1 1) 1 xs a o → Wrote (expr_bytes e) (take (length o - a) (drop a o)) m ys
    → Wrote (cond_bytes (some e)) xs (a + m) (take a o ++ (ys ++ drop (length o - a) (drop a o)))
unfolding cond_bytes
something_written e l w = so (after-count refl l w) (ap (◌++ expr_bytes e) (byte 1 (omega arith))) refl
