-- The bytes of a window, once its numbers are read. Assumes nothing.
use mathlib.Core.Path.{◌≡◌, refl, sym, ap, ap₂, ◌∙◌}
use mathlib.Core.Bool.{true}
use mathlib.Core.List.{List, ◌∷◌, ◌++◌, append_assoc}
use Prim.Native.Nat.{ℕ, ◌+◌, ◌-◌, ◌^◌, ◌<◌}
use native.Mathlib.Omega.{arith}
use lib.ListN.{length, take, drop, length-append}
use Rattle.cpl.specs.Bytes.{bytes, call_bytes, expr_bytes, key_bytes, pair_bytes, win_bytes}
use Rattle.cpl.specs.Exprs.{call_exprs, expr_tags, key_tags, win_tags}
use Rattle.cpl.specs.Plan.{pair}
use Rattle.cpl.specs.Tests.{sum_of}
use Rattle.arena.specs.Cells.{expr_at}
use Rattle.arena.specs.Rows.{root_at}
use Rattle.tree.specs.Rows.{WinOk, call_of, key_at, win_at}
use Rattle.tree.specs.Shows.{WinIs}
use Rattle.writer_parts.specs.Wrote.{Laid, Wrote}
use Rattle.writer_parts.specs.Lists.{PartsOk, Which, counted_list, list_tags}
use Rattle.writer_parts.specs.declared.Part.TheVariants.{Expr, Key}
use Rattle.writer_parts.proofs.Over.{part, so, start, then}
use Rattle.writer_parts.proofs.Exprs.{byte}
use Rattle.writer_parts.proofs.Rows.{call_number_lem, pair-length}
use Rattle.writer_parts.proofs.Lists.{all-row-tags, counted-all-rows, each-ok}

module _ {s : List ℕ} {i q n f p key k root next : ℕ} (cells : List ℕ) (r : WinIs s i q n f p key k root next) (o : WinOk s cells i) (w : Which) (e : w.all ≡ true) where
  pub win-small : f < 5
  win-small = omega (arith, r.function_is, o.function)

  pub win-parts : length s < 2 ^ 64 → PartsOk Expr s cells (i + 1) p
  win-parts h = each-ok (r.parts cells o) h

  pub win-keys : length s < 2 ^ 64 → PartsOk Key s cells key k
  win-keys h = each-ok (r.keys cells o) h

  abbrev Ps : List ℕ
  Ps = counted_list 1 Expr s cells (i + 1) p w

  abbrev Ks : List ℕ
  Ks = counted_list 1 Key s cells key k w

  abbrev C : List ℕ
  C = call_bytes (call_of f (expr_at cells root))

  win-is : win_bytes (win_at s cells i) ≡ pair_bytes (pair q n) ++ f ∷ (Ps ++ (Ks ++ C))
  unfolding win_bytes
  win-is =
      ap win_bytes (r.means cells)
      ∙ ap₂ (λ (x : ℕ) (y : List ℕ). pair_bytes (pair q n) ++ x ∷ y) (call_number_lem (expr_at cells root) f win-small)
      (ap₂ (λ (x y : List ℕ). x ++ (y ++ C)) (counted-all-rows 1 w expr_bytes expr_tags (λ j. expr_at cells (root_at s j)) (i + 1) p e) (counted-all-rows 1 w key_bytes key_tags (key_at s cells) key k e))

  pub win-length : length (win_bytes (win_at s cells i)) ≡ 5 + (length Ps + (length Ks + length C))
  win-length =
      ap length win-is ∙ length-append (pair_bytes (pair q n)) (f ∷ (Ps ++ (Ks ++ C)))
      ∙ omega (arith, pair-length q n, length-append Ps (Ks ++ C), length-append Ks C)

  pub win-tags : win_tags (win_at s cells i) ≡ list_tags Expr s cells (i + 1) p w + (list_tags Key s cells key k w + sum_of expr_tags (call_exprs (call_of f (expr_at cells root))))
  unfolding win_tags
  win-tags =
      ap win_tags (r.means cells)
      ∙ ap₂ (λ (x y : ℕ). x + (y + sum_of expr_tags (call_exprs (call_of f (expr_at cells root)))))
      (all-row-tags w expr_bytes expr_tags (λ j. expr_at cells (root_at s j)) (i + 1) p e) (all-row-tags w key_bytes key_tags (key_at s cells) key k e)

  pub win-wrote : {xs o₁ o₂ o₃ o₄ ys zs us : List ℕ} {a b l m z y : ℕ} → y ≡ f → Laid 0 (pair_bytes (pair q n)) 4 xs a o₁ → Laid a (bytes 1 y) 1 o₁ b o₂ →
      Wrote Ps (take (length o₂ - b) (drop b o₂)) l ys → o₃ ≡ take b o₂ ++ (ys ++ drop (length o₂ - b) (drop b o₂)) →
      Wrote Ks (take (length o₃ - (b + l)) (drop (b + l) o₃)) m zs → o₄ ≡ take (b + l) o₃ ++ (zs ++ drop (length o₃ - (b + l)) (drop (b + l) o₃)) →
      Wrote C (take (length o₄ - (b + l + m)) (drop (b + l + m) o₄)) z us →
      Wrote (win_bytes (win_at s cells i)) xs (b + l + m + z) (take (b + l + m) o₄ ++ (us ++ drop (length o₄ - (b + l + m)) (drop (b + l + m) o₄)))
  win-wrote {y = y} g l₁ l₂ u d v c t =
      so (part (rw (sym c) at (part (rw (sym d) at (part (then (then start l₁) l₂) u)) v)) t)
      (ap (λ (x : List ℕ). (((pair_bytes (pair q n) ++ x) ++ Ps) ++ Ks) ++ C) (ap (bytes 1) g ∙ byte f (omega (arith, win-small)))
      ∙ (simp append_assoc) ∙ sym win-is) refl
