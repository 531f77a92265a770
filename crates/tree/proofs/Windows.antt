-- A window is read back from where it is stored. Assumes nothing.
use mathlib.Core.Path.{◌≡◌, refl, sym, ap, ap₂, subst, subst₂, ◌∙◌}
use mathlib.Core.List.{List, [], ◌∷◌}
use Prim.Native.Nat.{ℕ, ◌+◌, ◌*◌}
use native.Mathlib.Omega.{arith}
use lib.ListN.{length, length-append}
use Rattle.cpl.specs.Bytes.{call_number}
use Rattle.cpl.specs.Plan.{Call, Expr, Key, Pair, Win, pair, win}
use Rattle.cpl.specs.Writable.{FitList, FitWin}
use Rattle.arena.specs.Cells.{Wf, expr_at}
use Rattle.arena.specs.Rows.{root_at}
use Rattle.tree.specs.Layout.{all_cells, all_nodes, all_rows, call_root, expr_store, key_store, pair_row, win_cells, win_nodes, win_rows, win_rows_in, win_store}
use Rattle.tree.specs.Rows.{EachOk, ExprOk, KeyOk, WinOk, call_of, exprs_at, keys_at, keys_row, number_at, win_at, win_size}
use Rattle.tree.proofs.Held.{held-left, held-right, moved}
use Rattle.tree.proofs.Lists.{Reads, Sized, all-cells-long}
use Rattle.tree.proofs.Stores.{call_back, call_long, expr_sized, exprs_back, exprs_long, key-sized, keys_back, keys_long, pair_is, row}

pub win-sized : Sized win_store
win-sized = record { cells_long = three; rows_long = four }
  where
    three : (made : ℕ) (x : Win) → length (win_cells made x) ≡ win_nodes x * 3
    three made (win c g ps ks) =
        unfold win_cells win_nodes in
        let made₁ = made + all_nodes expr_store ps in
        simp length-append (omega (arith, all-cells-long expr_store expr_sized made ps, all-cells-long key_store key-sized made₁ ks, call_long (made₁ + all_nodes key_store ks) g))

    four : (made : ℕ) (x : Win) → length (win_rows made x) ≡ win_rows_in x * 4
    four made (win (pair q n) g ps ks) =
        unfold win_rows win_rows_in pair_row in
        simp length-append (omega (arith, exprs_long made ps, keys_long (made + all_nodes expr_store ps) ks))

win-same : {c c' : Pair} {g g' : Call} {ps ps' : List Expr} {ks ks' : List Key} → c ≡ c' → g ≡ g' → ps ≡ ps' → ks ≡ ks' → win c g ps ks ≡ win c' g' ps' ks'
win-same p q r t = cc

pub win-reads : (cells s : List ℕ) → Reads cells s win_store FitWin (win_at s cells) (WinOk s cells) (win_size s)
unfolding win_cells win_rows win_nodes win_rows_in win_at win_size pair_row FitWin FitList
win-reads cells s (win (pair q n) g ps ks) made i f w h H =
    let made₁ = made + all_nodes expr_store ps in
    let made₂ = made₁ + all_nodes key_store ks in
    let a : made * 3 + all_nodes expr_store ps * 3 ≡ made₁ * 3 = omega arith in
    let b : made₁ * 3 + all_nodes key_store ks * 3 ≡ made₂ * 3 = omega arith in
    let h₁ = moved a (held-right (all_cells expr_store made ps) _ (all_nodes expr_store ps * 3) (all-cells-long expr_store expr_sized made ps) h) in
    let h₂ = moved b (held-right (all_cells key_store made₁ ks) _ (all_nodes key_store ks * 3) (all-cells-long key_store key-sized made₁ ks) h₁) in
    let j = i + 1 + length ps in
    let k₁ : i * 4 + 4 ≡ (i + 1) * 4 = omega arith in
    let k₂ : (i + 1) * 4 + length ps * 4 ≡ j * 4 = omega arith in
    let k₃ : j * 4 + 4 ≡ (j + 1) * 4 = omega arith in
    let H₁ = moved k₁ (held-right (pair_row (pair q n) (call_number g) (length ps)) _ 4 refl H) in
    let H₂ = moved k₂ (held-right (all_rows expr_store made ps) _ (length ps * 4) (exprs_long made ps) H₁) in
    let H₃ = moved k₃ (held-right (length ks ∷ 0 ∷ 0 ∷ call_root made₂ g ∷ []) _ 4 refl H₂) in
    let r₀ = row (held-left (pair_row (pair q n) (call_number g) (length ps)) _ H) in
    let r₁ = row (held-left (length ks ∷ 0 ∷ 0 ∷ call_root made₂ g ∷ []) _ H₂) in
    let P = exprs_back cells s ps made (i + 1) f.2.1 w
    (held-left (all_cells expr_store made ps) _ h) (held-left (all_rows expr_store made ps) _ H₁) in
    let K = keys_back cells s ks made₁ (j + 1) f.3.1 P.0.wf
    (held-left (all_cells key_store made₁ ks) _ h₁) H₃ in
    let G = call_back g made₂ f.1 K.0.wf h₂ in
    let mid : keys_row s i ≡ j = ap (λ x. i + 1 + x) r₀.root in
    let many : number_at s (keys_row s i) ≡ length ks = ap (number_at s) mid ∙ r₁.number in
    let root : root_at s (keys_row s i) ≡ call_root made₂ g = ap (root_at s) mid ∙ r₁.root in
    let after : keys_row s i + 1 ≡ j + 1 = ap (λ x. x + 1) mid in
    record {
      is = win-same (pair_is r₀) (ap₂ (λ k z. call_of k (expr_at cells z)) r₀.mark root ∙ G.is)
          (ap (exprs_at s cells (i + 1)) r₀.root ∙ P.0.is) (ap₂ (keys_at s cells) after many ∙ K.0.is);
      good = record {
        inside = omega (arith, mid, many, K.1.room);
        function = omega (arith, r₀.mark, G.number);
        parts = subst (EachOk (ExprOk s cells) s (i + 1)) (sym r₀.root) P.1;
        keys = subst₂ (EachOk (KeyOk s cells) s) (sym after) (sym many) K.1;
        node = λ l. G.node (root_at s (keys_row s i)) root (omega (arith, r₀.mark));
      };
      long = omega (arith, r₀.root, many);
      wf = subst (Wf cells) (omega arith) G.wf;
    }
