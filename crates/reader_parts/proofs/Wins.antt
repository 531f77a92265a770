-- What the readers of windows answer is right. Assumes nothing.
use Prim.Native.Nat.{ℕ, ◌+◌, ◌*◌, ◌-◌, ◌≤◌, ◌<◌}
use mathlib.Core.Path.{◌≡◌, refl, ◌∙◌}
use mathlib.Core.List.{List, [], ◌∷◌, ◌++◌}
use native.Mathlib.Omega.{arith}
use lib.ListN.{length, length-append}
use lib.Seq.{sets}
use Rattle.std.specs.Prelude.{Result, Ok, Err}
use Rattle.cpl.specs.Limits.{max_keys}
use Rattle.cpl.specs.Plan.{Pair, pair, Expr, Key, Call, Win, win}
use Rattle.cpl.specs.Bytes.{call_number}
use Rattle.cpl.specs.Read.{Res, ok, bad, and_then, ◌>>=◌, give, below, times, count, counted, any}
use Rattle.cpl.specs.ReadExpr.{read_pair, read_expr, read_key, read_call, read_win}
use Rattle.cpl.proofs.Codec.{holds_then, holds-ok}
use Rattle.tree.specs.Layout.{pair_row, expr_store, key_store, call_cells, win_cells, win_rows, win_nodes, win_rows_in, win_store, list_store, all_cells, all_rows, all_nodes, all_rows_in}
use Rattle.reader_fields.specs.Answers.{spot, Took}
use Rattle.refusals.specs.declared.Refusal.{Refusal}
use Rattle.reader_fields.specs.declared.Spot.{Spot}
use Rattle.reader_fields.proofs.Sets.{sets_then, right_as, expr_some}
use Rattle.reader_parts.specs.Parts.{RightAt, call_store, Rest, rest, read_rest, rest_cells, rest_rows, rest_nodes, rest_rows_in, rest_store, win_rest}
use Rattle.reader_parts.proofs.Compose.{Sized, sets-before, list-sized, all_one, many_nodes, times-length}
use Rattle.reader_parts.proofs.Parts.{any-holds, call_holds, call_root_lem, call_sized, key-sized, key-some, expr_sized, pair-row-long}

-- ── keys and the function's expression ──────────────────────────────────────────────────────

module _ (f : ℕ) (file : List ℕ) (at tags : ℕ) where
  pub rest-bad : {code place : ℕ} → ((tags n : ℕ) → count 1 any max_keys file at tags n ≡ bad code place) → (n : ℕ) → read_rest f file at tags n ≡ bad code place
  unfolding counted
  rest-bad e n = rw (e tags n)

  module _ {k next : ℕ} (e : (tags n : ℕ) → count 1 any max_keys file at tags n ≡ ok k next tags n) where
    pub rest-keys-bad : {code place : ℕ} → ((n : ℕ) → times k read_key file next tags n ≡ bad code place) → (n : ℕ) → read_rest f file at tags n ≡ bad code place
    unfolding counted
    rest-keys-bad h n = rw (e tags n, h n)

    pub rest_call_bad : {ks : List Key} {end used : ℕ} (n : ℕ) → times k read_key file next tags n ≡ ok ks end used n → {code place : ℕ} → read_call f file end used n ≡ bad code place →
        read_rest f file at tags n ≡ bad code place
    unfolding counted
    rest_call_bad n h g = rw (e tags n, h, g)

pub rest-took : (file : List ℕ) (s : Spot) (f : ℕ) {k next : ℕ} → ((tags n : ℕ) → count 1 any max_keys file s.at tags n ≡ ok k next tags n) →
    (c c1 c2 w w1 w2 : List ℕ) (t u : Spot) (n : ℕ) →
    Took (list_store key_store) (spot next s.tags s.made (s.row + 1)) c c1 w w1 n (times k read_key file next s.tags n) t →
    Took call_store t c1 c2 [] [] n (read_call f file t.at t.tags n) u → (e : ℕ) → (u.made ≡ t.made → e ≡ 0) → (t.made < u.made → e ≡ u.made - 1) →
    w2 ≡ sets w1 (4 * s.row) (k ∷ 0 ∷ 0 ∷ e ∷ []) → Took rest_store s c c2 w w2 n (read_rest f file s.at s.tags n) u
unfolding counted rest_cells rest_rows rest_nodes rest_rows_in
rest-took file s f {k} {next} h c c1 c2 w w1 w2 t u n a b e z o q =
    let ks = a.value in
    let sized = list-sized key_store key-sized in
    record {
      value = rest ks b.value;
      is = rw (h s.tags n, a.is, b.is);
      made_is = omega (arith, a.made_is, b.made_is);
      row_is = omega (arith, a.row_is, b.row_is, all_one key_store (λ x. refl) ks);
      cells_are =
          rw (← a.made_is)
          (sets_then (all_cells key_store s.made ks) (call_cells t.made b.value) c c1 c2 (3 * s.made) (3 * t.made) a.cells_are b.cells_are
          (omega (arith, a.made_is, sized.cells_long s.made ks)));
      rows_are =
          rw (← a.made_is, call_root_lem t.made u.made e b.value b.made_is z o, times-length k read_key file next s.tags n a.is)
          (sets-before (k ∷ 0 ∷ 0 ∷ e ∷ []) (all_rows key_store s.made ks) w w1 w2 (4 * s.row) (4 * (s.row + 1)) a.rows_are q (omega arith));
      grown = omega (arith, a.grown, b.grown);
      few = b.few;
    }

-- the number of the function that was read
rest_number : Rest → ℕ
rest_number (rest ks g) = call_number g

rest-number : (f : ℕ) → f < 5 → (file : List ℕ) (at tags n : ℕ) {v : Rest} {at' tags' n' : ℕ} → read_rest f file at tags n ≡ ok v at' tags' n' → rest_number v ≡ f
unfolding rest_number
rest-number f l file at tags n e =
    holds-ok (λ (v : Rest) a t m. rest_number v ≡ f) e
    (holds_then (λ x a t m. Unit {0}) (λ (v : Rest) a t m. rest_number v ≡ f) (counted 1 any max_keys read_key file at tags n) _ (any-holds (counted 1 any max_keys read_key file at tags n)) λ ks a t m h.
    holds_then (λ (g : Call) a t m. call_number g ≡ f) (λ (v : Rest) a t m. rest_number v ≡ f) (read_call f file a t m) _ (call_holds f l file a t m) λ g a' t' m' h'. h')

-- ── windows ─────────────────────────────────────────────────────────────────────────────────

as_win : Pair → List Expr → Rest → Win
as_win c ps (rest ks g) = win c g ps ks

-- what follows the parts
rest-win : (f : ℕ) (c : Pair) (ps : List Expr) (file : List ℕ) (at tags n : ℕ) →
    (counted 1 any max_keys read_key >>= λ ks. read_call f >>= λ g. give (win c g ps ks)) file at tags n ≡ and_then (read_rest f file at tags n) (λ v a t m. ok (as_win c ps v) a t m)
unfolding as_win
rest-win f c ps file at tags n = go (counted 1 any max_keys read_key file at tags n)
  where
    last : (ks : List Key) (x : Res Call) →
        and_then x (λ g a t m. ok (win c g ps ks) a t m) ≡ and_then (and_then x (λ g a t m. ok (rest ks g) a t m)) (λ v a t m. ok (as_win c ps v) a t m)
    last ks (ok g a t m) = refl
    last ks (bad code place) = refl

    go : (x : Res (List Key)) →
        and_then x (λ ks a t m. and_then (read_call f file a t m) (λ g a t m. ok (win c g ps ks) a t m))
        ≡ and_then (and_then x (λ ks a t m. and_then (read_call f file a t m) (λ g a t m. ok (rest ks g) a t m))) (λ v a t m. ok (as_win c ps v) a t m)
    go (ok ks a t m) = last ks (read_call f file a t m)
    go (bad code place) = refl

module _ (c : Pair) (file : List ℕ) (at tags : ℕ) where
  pub over-bad : {code place : ℕ} → ((tags n : ℕ) → below 5 file at tags n ≡ bad code place) → (n : ℕ) → win_rest c file at tags n ≡ bad code place
  over-bad e n = rw (e tags n)

  module _ {f after : ℕ} (e : (tags n : ℕ) → below 5 file at tags n ≡ ok f after tags n) where
    pub over-count-bad : {code place : ℕ} → ((tags n : ℕ) → count 1 any max_keys file after tags n ≡ bad code place) → (n : ℕ) → win_rest c file at tags n ≡ bad code place
    unfolding counted
    over-count-bad h n = rw (e tags n, h tags n)

    module _ {p next : ℕ} (h : (tags n : ℕ) → count 1 any max_keys file after tags n ≡ ok p next tags n) where
      pub over-parts-bad : {code place : ℕ} → ((n : ℕ) → times p read_expr file next tags n ≡ bad code place) → (n : ℕ) → win_rest c file at tags n ≡ bad code place
      unfolding counted
      over-parts-bad g n = rw (e tags n, h tags n, g n)

      over-step : {ps : List Expr} {end used : ℕ} (n : ℕ) → times p read_expr file next tags n ≡ ok ps end used n →
          win_rest c file at tags n ≡ and_then (read_rest f file end used n) (λ v a t m. ok (as_win c ps v) a t m)
      unfolding counted
      over-step {ps} {end} {used} n g = rw (e tags n, h tags n, g) (rest-win f c ps file end used n)

win-split : (c : Pair) (ps : List Expr) (made : ℕ) (v : Rest) →
    (win_nodes (as_win c ps v) ≡ all_nodes expr_store ps + rest_nodes v) × (win_rows_in (as_win c ps v) ≡ 1 + (length ps + rest_rows_in v))
    × (win_cells made (as_win c ps v) ≡ all_cells expr_store made ps ++ rest_cells (made + all_nodes expr_store ps) v)
    × (win_rows made (as_win c ps v) ≡ pair_row c (rest_number v) (length ps) ++ (all_rows expr_store made ps ++ rest_rows (made + all_nodes expr_store ps) v))
unfolding as_win rest_number win_nodes win_rows_in win_cells win_rows rest_nodes rest_rows_in rest_cells rest_rows
win-split c ps made (rest ks g) = (omega arith, omega arith, refl, refl)

over-took : (file : List ℕ) (s : Spot) (q m f p next : ℕ) → f < 5 → (c c1 c2 w w1 w2 w3 : List ℕ) (t u : Spot) → w1 ≡ sets w (4 * s.row) (q ∷ m ∷ f ∷ p ∷ []) → (n : ℕ) {x : Res Win} →
    (a : Took (list_store expr_store) (spot next s.tags s.made (s.row + 1)) c c1 w1 w2 n (times p read_expr file next s.tags n) t) →
    x ≡ and_then (read_rest f file t.at t.tags n) (λ v end used k. ok (as_win (pair q m) a.value v) end used k) →
    (b : Took rest_store t c1 c2 w2 w3 n (read_rest f file t.at t.tags n) u) → Took win_store s c c2 w w3 n x u
unfolding pair_row
over-took file s q m f p next l c c1 c2 w w1 w2 w3 t u h n a e b =
    let ps = a.value in
    let v = b.value in
    let split = win-split (pair q m) ps s.made v in
    let sized = list-sized expr_store expr_sized in
    let rows : List ℕ = all_rows expr_store s.made ps in
    record {
      value = as_win (pair q m) ps v;
      is = e ∙ rw b.is;
      made_is = omega (arith, a.made_is, b.made_is, split.0);
      row_is = omega (arith, a.row_is, b.row_is, split.1, all_one expr_store (λ x. refl) ps);
      cells_are =
          rw (split.2, ← a.made_is)
          (sets_then (all_cells expr_store s.made ps) (rest_cells t.made v) c c1 c2 (3 * s.made) (3 * t.made) a.cells_are b.cells_are
          (omega (arith, a.made_is, sized.cells_long s.made ps)));
      rows_are =
          rw (split.3, ← a.made_is, rest-number f l file t.at t.tags n b.is, times-length p read_expr file next s.tags n a.is)
          (sets_then (q ∷ m ∷ f ∷ p ∷ []) (rows ++ rest_rows t.made v) w w1 w3 (4 * s.row) (4 * (s.row + 1)) h
          (sets_then rows (rest_rows t.made v) w1 w2 w3 (4 * (s.row + 1)) (4 * t.row) a.rows_are b.rows_are (omega (arith, a.row_is, sized.rows_long s.made ps)))
          (omega arith));
      grown = omega (arith, a.grown, b.grown, split.0);
      few = b.few;
    }

pub over-right : (file : List ℕ) (s : Spot) (q m : ℕ) {f after p next : ℕ} → ((tags n : ℕ) → below 5 file s.at tags n ≡ ok f after tags n) → f < 5 →
    ((tags n : ℕ) → count 1 any max_keys file after tags n ≡ ok p next tags n) → (c c1 c2 w w1 w2 w3 : List ℕ) (t : Spot) → w1 ≡ sets w (4 * s.row) (q ∷ m ∷ f ∷ p ∷ []) →
    RightAt (list_store expr_store) (times p read_expr) file (spot next s.tags s.made (s.row + 1)) s.tags c c1 w1 w2 (Ok t) → (r : Result Spot Refusal) →
    RightAt rest_store (read_rest f) file t t.tags c1 c2 w2 w3 r → RightAt win_store (win_rest (pair q m)) file s s.tags c c2 w w3 r
over-right file s q m {f} {after} {p} {next} e l h c c1 c2 w w1 w2 w3 t g a (Ok u) b n =
    over-took file s q m f p next l c c1 c2 w w1 w2 w3 t u g n (a n) (over-step (pair q m) file s.at s.tags e h n (a n).is) (b n)
over-right file s q m {f} {after} {p} {next} e l h c c1 c2 w w1 w2 w3 t g a (Err failed) b n = over-step (pair q m) file s.at s.tags e h n (a n).is ∙ rw (b n)

pub win-bad : (file : List ℕ) (at tags : ℕ) {code place : ℕ} → ((tags n : ℕ) → read_pair file at tags n ≡ bad code place) → (n : ℕ) → read_win file at tags n ≡ bad code place
unfolding read_win
win-bad file at tags e n = rw (e tags n)

pub win-right : (file : List ℕ) (s : Spot) {c : Pair} {next : ℕ} → ((tags n : ℕ) → read_pair file s.at tags n ≡ ok c next tags n) → (c0 c1 w w1 : List ℕ) (r : Result Spot Refusal) →
    RightAt win_store (win_rest c) file (spot next s.tags s.made s.row) s.tags c0 c1 w w1 r → RightAt win_store read_win file s s.tags c0 c1 w w1 r
unfolding read_win
win-right file s {c} {next} e c0 c1 w w1 r h n = right_as win_store (spot next s.tags s.made s.row) s c0 c1 w w1 n r refl refl (omega arith) (rw (e s.tags n)) (h n)

-- ── how much a window takes ─────────────────────────────────────────────────────────────────

pub win-sized : Sized win_store
unfolding win_cells win_rows win_nodes win_rows_in
win-sized = record { cells_long = λ made v. elim v as (λ k. length (win_store.cells_of made k) ≡ 3 * win_store.nodes_in k) [ win c g ps ks ↦ cells made c g ps ks ]; rows_long = λ made v. elim v as (λ k. length (win_store.rows_of made k) ≡ 4 * win_store.rows_held k) [ win c g ps ks ↦ rows made c g ps ks ] }
  where
    parts : Sized (list_store expr_store)
    parts = list-sized expr_store expr_sized

    keys : Sized (list_store key_store)
    keys = list-sized key_store key-sized

    cells : (made : ℕ) (c : Pair) (g : Call) (ps : List Expr) (ks : List Key) → length (win_cells made (win c g ps ks)) ≡ 3 * win_nodes (win c g ps ks)
    cells made c g ps ks =
        let made₁ = made + all_nodes expr_store ps in
        simp length-append (omega (arith, parts.cells_long made ps, keys.cells_long made₁ ks, call_sized.cells_long (made₁ + all_nodes key_store ks) g))

    rows : (made : ℕ) (c : Pair) (g : Call) (ps : List Expr) (ks : List Key) → length (win_rows made (win c g ps ks)) ≡ 4 * win_rows_in (win c g ps ks)
    rows made c g ps ks =
        let made₁ = made + all_nodes expr_store ps in
        simp length-append
        (omega (arith, parts.rows_long made ps, keys.rows_long made₁ ks, all_one expr_store (λ x. refl) ps, all_one key_store (λ x. refl) ks, pair-row-long c (call_number g) (length ps)))

-- two rows, and no more others than nodes
pub win-rows : (v : Win) → win_rows_in v ≤ 2 + win_nodes v
unfolding win_nodes win_rows_in
win-rows (win c g ps ks) = omega (arith, many_nodes expr_store expr_some ps, many_nodes key_store key-some ks)

pub wins_rows : (vs : List Win) → all_rows_in win_store vs ≤ 2 * length vs + all_nodes win_store vs
unfolding all_rows_in all_nodes
wins_rows [] = omega arith
wins_rows (v ∷ vs) = omega (arith, win-rows v, wins_rows vs)
