-- What the readers of parts answer is right: a law for each way through one. Assumes nothing.
use Prim.Native.Nat.{ℕ, suc, ◌+◌, ◌*◌, ◌-◌, ◌/◌, ◌%◌, ◌≤◌, ◌<◌}
use mathlib.Core.Path.{◌≡◌, refl, sym, ap, ◌∙◌}
use mathlib.Core.Bool.{Bool, true, false}
use mathlib.Core.List.{List, [], ◌∷◌}
use native.Mathlib.Omega.{arith}
use lib.Dec.{eqb}
use lib.ListN.{length, length-append}
use lib.Seq.{sets}
use borrow.Author.Tests.{eq-eqb, ne_eqb, eqb-true, eqb-false}
use Rattle.std.specs.Prelude.{Result, Ok, Err}
use Rattle.cpl.specs.Limits.{max_tags}
use Rattle.cpl.specs.Codes.{VALUE, fn_of}
use Rattle.cpl.specs.Plan.{Pair, pair, Expr, bare, named, item_expr, Key, key, Call, rows, over, Agg, agg, On, on}
use Rattle.cpl.specs.Exprs.{expr_tags}
use Rattle.cpl.specs.Bytes.{call_number}
use Rattle.cpl.specs.Read.{Res, ok, bad, Reader, and_then, index, below, tag, times, count, counted}
use Rattle.cpl.specs.ReadExpr.{read_pair, read_expr, read_bare, read_alias, read_item, read_key, read_call, read_agg, read_on}
use Rattle.cpl.proofs.Codec.{Holds, holds_then, holds-ok}
use Rattle.cpl.proofs.CodeTrip.{flags-number, fn_number_lem}
use Rattle.tree.specs.Layout.{Store, expr_cells, root_of, pair_row, item_row, item_store, key_cells, key_row, key_nodes, key_store, expr_store, call_cells, call_nodes, call_root, agg_cells, agg_row, agg_nodes, agg_store, on_cells, on_row, on_nodes, on_store, pair_store, column_store, list_store}
use Rattle.reader_fields.specs.Answers.{spot, Took, bare_store, Reads}
use Rattle.refusals.specs.declared.Refusal.{Refusal}
use Rattle.reader_fields.specs.declared.Spot.{Spot}
use Rattle.reader_fields.proofs.Sets.{right_as, expr_long, expr_some}
use Rattle.reader_fields.proofs.Exprs.{Refuses}
use Rattle.reader_parts.specs.Parts.{RightAt, Thing, store_of, member_store, call_store, agg_rest}
use Rattle.reader_parts.specs.declared.Kind.{Kind}
use Rattle.reader_parts.specs.declared.Kind.TheVariants as kind
use Rattle.reader_parts.proofs.Compose.{Sized, took_then, took-row, took_one, took-rows, took_as, bare-sized}

-- ── expressions ─────────────────────────────────────────────────────────────────────────────

pub expr_bad : (file : List ℕ) (at tags : ℕ) {code place : ℕ} → Refuses file at tags code place → (n : ℕ) → read_expr file at tags n ≡ bad code place
expr_bad file at tags h n = h (suc max_tags) (omega arith) n

-- an expression, whatever the rows are
pub expr_took : (file : List ℕ) (s : Spot) (c c1 : List ℕ) (t : Spot) → Reads file s c c1 (Ok t) → (w : List ℕ) (n : ℕ) → Took bare_store s c c1 w w n (read_expr file s.at s.tags n) t
expr_took file s c c1 t h w n = took-rows w (λ made a. refl) (h (suc max_tags) (omega arith) n)

-- a row that ends with the root of an expression
member : {C : Type 0} (S : Store C) (s : Spot) (c c1 w w2 : List ℕ) (n : ℕ) (t : Spot) {x₁ : Res Expr} {x : Res C} → (a : Took bare_store s c c1 w w n x₁ t) (f : Expr → C) (y z u : ℕ) →
    ((e : Expr) → S.nodes_in (f e) ≡ expr_tags e) → ((e : Expr) → S.rows_held (f e) ≡ 1) → ((e : Expr) → S.cells_of s.made (f e) ≡ expr_cells s.made e) →
    ((e : Expr) → S.rows_of s.made (f e) ≡ y ∷ z ∷ u ∷ root_of s.made e ∷ []) → w2 ≡ sets w (4 * t.row) (y ∷ z ∷ u ∷ (t.made - 1) ∷ []) →
    x ≡ ok (f a.value) t.at t.tags n → Took S s c c1 w w2 n x (spot t.at t.tags t.made (t.row + 1))
unfolding root_of
member S s c c1 w w2 n t a f y z u p q g h e i =
    took-row S bare-sized a (y ∷ z ∷ u ∷ (t.made - 1) ∷ []) e (f a.value) (p a.value) (q a.value) (g a.value) (h a.value ∙ rw a.made_is) i

pub member-took : (file : List ℕ) (s : Spot) (c c1 w w2 : List ℕ) (t : Spot) (x : ℕ) → Reads file s c c1 (Ok t) → w2 ≡ sets w (4 * t.row) (x ∷ 0 ∷ 0 ∷ (t.made - 1) ∷ []) →
    (n : ℕ) → Took (member_store x) s c c1 w w2 n (read_expr file s.at s.tags n) (spot t.at t.tags t.made (t.row + 1))
member-took file s c c1 w w2 t x h e n =
    let a = expr_took file s c c1 t h w n in
    member (member_store x) s c c1 w w2 n t a (λ e. e) x 0 0 (λ e. refl) (λ e. refl) (λ e. refl) (λ e. refl) e a.is

-- ── items ───────────────────────────────────────────────────────────────────────────────────

module _ (file : List ℕ) (at tags : ℕ) where
  pub bare-bad : {code place : ℕ} → ((tags n : ℕ) → read_pair file at tags n ≡ bad code place) → (n : ℕ) → read_bare file at tags n ≡ bad code place
  unfolding read_bare
  bare-bad e n = rw (e tags n)

  pub alias-bad : {code place : ℕ} → ((tags n : ℕ) → read_pair file at tags n ≡ bad code place) → (n : ℕ) → read_alias file at tags n ≡ bad code place
  unfolding read_alias
  alias-bad e n = rw (e tags n)

  pub alias_expr_bad : {c : Pair} {next : ℕ} → ((tags n : ℕ) → read_pair file at tags n ≡ ok c next tags n) → {code place : ℕ} → Refuses file next tags code place →
      (n : ℕ) → read_alias file at tags n ≡ bad code place
  unfolding read_alias
  alias_expr_bad {c} {next} e h n = rw (e tags n, expr_bad file next tags h n)

  pub item-bad : {code place : ℕ} → ((n : ℕ) → tag file at tags n ≡ bad code place) → (n : ℕ) → read_item file at tags n ≡ bad code place
  unfolding read_item
  item-bad e n = rw (e n)

  module _ {t next : ℕ} (e : (n : ℕ) → tag file at tags n ≡ ok t next (tags + 1) n) where
    pub item-value : (t ≡ 0 → ⊥) → (t ≡ 12 → ⊥) → (n : ℕ) → read_item file at tags n ≡ bad VALUE at
    unfolding read_item
    item-value h k n = rw (e n, ne_eqb t 0 h, ne_eqb t 12 k)

    item-bare : t ≡ 0 → (n : ℕ) → read_item file at tags n ≡ read_bare file next (tags + 1) n
    unfolding read_item
    item-bare h n = rw (e n, eq-eqb t 0 h)

    item-alias : t ≡ 12 → (n : ℕ) → read_item file at tags n ≡ read_alias file next (tags + 1) n
    unfolding read_item
    item-alias h n = rw (e n, ne_eqb t 0 (λ z. omega arith), eq-eqb t 12 h)

module _ (file : List ℕ) (s : Spot) where
  pub bare-took : {q m next : ℕ} → ((tags n : ℕ) → read_pair file s.at tags n ≡ ok (pair q m) next tags n) → (c c1 w w1 : List ℕ) →
      c1 ≡ sets c (3 * s.made) (0 ∷ q ∷ m ∷ []) → w1 ≡ sets w (4 * s.row) (q ∷ m ∷ 0 ∷ s.made ∷ []) → s.tags < max_tags →
      (n : ℕ) → Took item_store s c c1 w w1 n (read_bare file s.at (s.tags + 1) n) (spot next (s.tags + 1) (s.made + 1) (s.row + 1))
  unfolding read_bare item_expr expr_tags expr_cells item_row pair_row root_of
  bare-took {q} {m} e c c1 w w1 f g l n =
      record {
        value = bare (pair q m);
        is = rw (e (s.tags + 1) n);
        made_is = refl;
        row_is = refl;
        cells_are = f;
        rows_are = g ∙ ap (λ (y : ℕ). sets w (4 * s.row) (q ∷ m ∷ 0 ∷ y ∷ [])) (omega arith);
        grown = omega arith;
        few = omega arith;
      }

  pub alias-took : {q m next : ℕ} → ((tags n : ℕ) → read_pair file s.at tags n ≡ ok (pair q m) next tags n) → (c c1 w w1 : List ℕ) (t : Spot) →
      Reads file (spot next (s.tags + 1) s.made s.row) c c1 (Ok t) → w1 ≡ sets w (4 * t.row) (q ∷ m ∷ 1 ∷ (t.made - 1) ∷ []) →
      (n : ℕ) → Took item_store s c c1 w w1 n (read_alias file s.at (s.tags + 1) n) (spot t.at t.tags t.made (t.row + 1))
  unfolding read_alias item_expr item_row pair_row
  alias-took {q} {m} {next} e c c1 w w1 t h f n =
      let from = spot next (s.tags + 1) s.made s.row in
      let a = expr_took file from c c1 t h w n in
      right_as item_store from s c c1 w w1 n (Ok (spot t.at t.tags t.made (t.row + 1))) refl refl (omega arith) refl
      (member item_store from c c1 w w1 n t a (λ x. named (pair q m) x) q m 1 (λ x. refl) (λ x. refl) (λ x. refl) (λ x. refl) f (rw (e (s.tags + 1) n, a.is)))

  module _ {t next : ℕ} (e : (n : ℕ) → tag file s.at s.tags n ≡ ok t next (s.tags + 1) n) (c c1 w w1 : List ℕ) (r : Result Spot Refusal) where
    pub item-is-bare : t ≡ 0 → RightAt item_store read_bare file (spot next s.tags s.made s.row) (s.tags + 1) c c1 w w1 r → RightAt item_store read_item file s s.tags c c1 w w1 r
    item-is-bare h a n = right_as item_store (spot next s.tags s.made s.row) s c c1 w w1 n r refl refl (omega arith) (item-bare file s.at s.tags e h n) (a n)

    pub item-is-alias : t ≡ 12 → RightAt item_store read_alias file (spot next s.tags s.made s.row) (s.tags + 1) c c1 w w1 r → RightAt item_store read_item file s s.tags c c1 w w1 r
    item-is-alias h a n = right_as item_store (spot next s.tags s.made s.row) s c c1 w w1 n r refl refl (omega arith) (item-alias file s.at s.tags e h n) (a n)

-- ── keys ────────────────────────────────────────────────────────────────────────────────────

pub key-bad : (file : List ℕ) (at tags : ℕ) {code place : ℕ} → ((tags n : ℕ) → below 4 file at tags n ≡ bad code place) → (n : ℕ) → read_key file at tags n ≡ bad code place
unfolding read_key
key-bad file at tags e n = rw (e tags n)

pub key_right : (file : List ℕ) (s : Spot) {x next : ℕ} → ((tags n : ℕ) → below 4 file s.at tags n ≡ ok x next tags n) → x < 4 → (c c1 w w1 : List ℕ) (r : Result Spot Refusal) →
    RightAt (member_store x) read_expr file (spot next s.tags s.made s.row) s.tags c c1 w w1 r → RightAt key_store read_key file s s.tags c c1 w w1 r
unfolding read_key key_cells key_row key_nodes
key_right file s {x} {next} e l c c1 w w1 (Ok t) h n =
    let from = spot next s.tags s.made s.row in
    let a = h n in
    right_as key_store from s c c1 w w1 n (Ok t) refl refl (omega arith) refl
    (took_as key_store a (key (eqb (x % 2) 1) (eqb (x / 2) 1) a.value) refl refl refl (rw (flags-number x l)) (rw (e s.tags n, a.is)))
key_right file s e l c c1 w w1 (Err failed) h n = rw (e s.tags n, h n)

-- ── functions ───────────────────────────────────────────────────────────────────────────────

pub call_sized : Sized call_store
unfolding call_cells call_nodes
call_sized = record { cells_long = λ made g. elim g as (λ k. length (call_store.cells_of made k) ≡ 3 * call_store.nodes_in k) [ rows ↦ refl | over f e ↦ expr_long made e ]; rows_long = λ made g. refl }

module _ (file : List ℕ) (s : Spot) (f : ℕ) (c : List ℕ) where
  pub call_none : f ≡ 0 → s.tags ≤ max_tags → RightAt call_store (read_call f) file s s.tags c c [] [] (Ok s)
  unfolding read_call call_cells call_nodes
  call_none h l n = record { value = rows; is = rw (eq-eqb f 0 h); made_is = omega arith; row_is = omega arith; cells_are = refl; rows_are = refl; grown = omega arith; few = l }

  pub call_right : (f ≡ 0 → ⊥) → (c1 : List ℕ) (r : Result Spot Refusal) → Reads file s c c1 r → RightAt call_store (read_call f) file s s.tags c c1 [] [] r
  unfolding read_call call_cells call_nodes
  call_right h c1 (Ok t) a n =
      let b = a (suc max_tags) (omega arith) n in
      took_as call_store b (over (fn_of f) b.value) refl refl refl refl (rw (ne_eqb f 0 h, b.is))
  call_right h c1 (Err failed) a n = rw (ne_eqb f 0 h, a (suc max_tags) (omega arith) n)

pub any-holds : {A : Type 0} (r : Res A) → Holds (λ x a t m. Unit {0}) r
any-holds (ok x a t m) = tt
any-holds (bad code place) = tt

-- the number of what was read
pub call_holds : (f : ℕ) → f < 5 → (file : List ℕ) (at tags n : ℕ) → Holds (λ g a t m. call_number g ≡ f) (read_call f file at tags n)
unfolding read_call call_number
call_holds f l file at tags n = go (eqb f 0) refl
  where
    go : (b : Bool) → eqb f 0 ≡ b → Holds (λ g a t m. call_number g ≡ f) (read_call f file at tags n)
    go true e = rw e (sym (eqb-true f 0 e))
    go false e =
        let z = eqb-false f 0 e in
        rw e (holds_then (λ x a t m. Unit {0}) (λ (g : Call) a t m. call_number g ≡ f) (read_expr file at tags n) _ (any-holds (read_expr file at tags n)) λ x a t m h. fn_number_lem f (omega arith) l)

pub call_number_lem : (f : ℕ) → f < 5 → (file : List ℕ) (at tags n : ℕ) {g : Call} {at' tags' n' : ℕ} → read_call f file at tags n ≡ ok g at' tags' n' → call_number g ≡ f
call_number_lem f l file at tags n e = holds-ok (λ (g : Call) a t m. call_number g ≡ f) e (call_holds f l file at tags n)

-- the root of what was read
pub call_root_lem : (made m e : ℕ) (g : Call) → m ≡ made + call_nodes g → (m ≡ made → e ≡ 0) → (made < m → e ≡ m - 1) → call_root made g ≡ e
unfolding call_nodes call_root root_of
call_root_lem made m e rows h p q = sym (p (omega arith))
call_root_lem made m e (over f x) h p q = sym (q (omega (arith, expr_some x)) ∙ ap (λ (k : ℕ). k - 1) h)

-- ── aggregates ──────────────────────────────────────────────────────────────────────────────

module _ (c : Pair) (file : List ℕ) (at tags : ℕ) where
  pub value-bad : {code place : ℕ} → ((tags n : ℕ) → below 5 file at tags n ≡ bad code place) → (n : ℕ) → agg_rest c file at tags n ≡ bad code place
  value-bad e n = rw (e tags n)

  pub value_call_bad : {f next : ℕ} → ((tags n : ℕ) → below 5 file at tags n ≡ ok f next tags n) → {code place : ℕ} → ((n : ℕ) → read_call f file next tags n ≡ bad code place) →
      (n : ℕ) → agg_rest c file at tags n ≡ bad code place
  value_call_bad e h n = rw (e tags n, h n)

value_row : (file : List ℕ) (from : Spot) (q m f : ℕ) → f < 5 → (c c1 w w1 : List ℕ) (t : Spot) (n : ℕ) → (b : Took call_store from c c1 w w n (read_call f file from.at from.tags n) t) →
    (e : ℕ) → (t.made ≡ from.made → e ≡ 0) → (from.made < t.made → e ≡ t.made - 1) → w1 ≡ sets w (4 * t.row) (q ∷ m ∷ f ∷ e ∷ []) → {x : Res Agg} →
    x ≡ and_then (read_call f file from.at from.tags n) (λ g a u k. ok (agg (pair q m) g) a u k) → Took agg_store from c c1 w w1 n x (spot t.at t.tags t.made (t.row + 1))
unfolding agg_cells agg_row agg_nodes pair_row
value_row file from q m f l c c1 w w1 t n b e z o g i =
    took-row agg_store call_sized b (q ∷ m ∷ f ∷ e ∷ []) g (agg (pair q m) b.value) refl refl refl
    (rw (call_number_lem f l file from.at from.tags n b.is, call_root_lem from.made t.made e b.value b.made_is z o)) (rw (i, b.is))

pub value-took : (file : List ℕ) (s : Spot) (q m : ℕ) {f next : ℕ} → ((tags n : ℕ) → below 5 file s.at tags n ≡ ok f next tags n) → f < 5 → (c c1 w w1 : List ℕ) (t : Spot) →
    RightAt call_store (read_call f) file (spot next s.tags s.made s.row) s.tags c c1 [] [] (Ok t) → (e : ℕ) → (t.made ≡ s.made → e ≡ 0) → (s.made < t.made → e ≡ t.made - 1) →
    w1 ≡ sets w (4 * t.row) (q ∷ m ∷ f ∷ e ∷ []) →
    (n : ℕ) → Took agg_store s c c1 w w1 n (agg_rest (pair q m) file s.at s.tags n) (spot t.at t.tags t.made (t.row + 1))
value-took file s q m {f} {next} h l c c1 w w1 t a e z o g n =
    let from = spot next s.tags s.made s.row in
    right_as agg_store from s c c1 w w1 n (Ok (spot t.at t.tags t.made (t.row + 1))) refl refl (omega arith) refl
    (value_row file from q m f l c c1 w w1 t n (took-rows w (λ made x. refl) (a n)) e z o g (rw (h s.tags n)))

pub agg-bad : (file : List ℕ) (at tags : ℕ) {code place : ℕ} → ((tags n : ℕ) → read_pair file at tags n ≡ bad code place) → (n : ℕ) → read_agg file at tags n ≡ bad code place
unfolding read_agg
agg-bad file at tags e n = rw (e tags n)

pub agg-right : (file : List ℕ) (s : Spot) {c : Pair} {next : ℕ} → ((tags n : ℕ) → read_pair file s.at tags n ≡ ok c next tags n) → (c0 c1 w w1 : List ℕ) (r : Result Spot Refusal) →
    RightAt agg_store (agg_rest c) file (spot next s.tags s.made s.row) s.tags c0 c1 w w1 r → RightAt agg_store read_agg file s s.tags c0 c1 w w1 r
unfolding read_agg
agg-right file s {c} {next} e c0 c1 w w1 r h n = right_as agg_store (spot next s.tags s.made s.row) s c0 c1 w w1 n r refl refl (omega arith) (rw (e s.tags n)) (h n)

-- ── pairs of a join ─────────────────────────────────────────────────────────────────────────

pub on-bad : (file : List ℕ) (at tags : ℕ) {code place : ℕ} → Refuses file at tags code place → (n : ℕ) → read_on file at tags n ≡ bad code place
unfolding read_on
on-bad file at tags h n = rw (expr_bad file at tags h n)

-- its two expressions, without the row
abbrev two_store : Store On
two_store = record { cells_of = on_cells; rows_of = λ made o. []; nodes_in = on_nodes; rows_held = λ o. 0 }

two_sized : Sized two_store
unfolding on_cells on_nodes
two_sized =
    record {
      cells_long = λ made o. elim o as (λ k. length (two_store.cells_of made k) ≡ 3 * two_store.nodes_in k) [ on a b ↦ simp length-append (omega (arith, expr_long made a, expr_long (made + expr_tags a) b)) ];
      rows_long = λ made o. refl;
    }

-- the second, with the row, where the first's root is z
abbrev end_store : ℕ → Store Expr
end_store z = record { cells_of = expr_cells; rows_of = λ made e. 0 ∷ 0 ∷ z ∷ root_of made e ∷ []; nodes_in = expr_tags; rows_held = λ e. 1 }

on_both : (file : List ℕ) (s t : Spot) (c c1 c2 w w1 : List ℕ) (n : ℕ) {u : Spot} → (a : Took bare_store s c c1 w w n (read_expr file s.at s.tags n) t) →
    (d : Took (end_store (t.made - 1)) t c1 c2 w w1 n (read_expr file t.at t.tags n) u) → Took on_store s c c2 w w1 n (read_on file s.at s.tags n) u
unfolding read_on on_cells on_row on_nodes root_of
on_both file s t c c1 c2 w w1 n a d =
    took_then on_store bare-sized a d (on a.value d.value)
    (record { nodes = refl; rows_in = refl; cells = refl; rows = ap (λ (k : ℕ). 0 ∷ 0 ∷ (k - 1) ∷ root_of (s.made + expr_tags a.value) d.value ∷ []) (sym a.made_is) })
    (rw (a.is, d.is))

module _ (file : List ℕ) (s : Spot) (c c1 : List ℕ) (t : Spot) (first : Reads file s c c1 (Ok t)) where
  pub on-second-bad : {code place : ℕ} → Refuses file t.at t.tags code place → (n : ℕ) → read_on file s.at s.tags n ≡ bad code place
  unfolding read_on
  on-second-bad h n = rw ((expr_took file s c c1 t first [] n).is, expr_bad file t.at t.tags h n)

  pub on-took : (c2 w w1 : List ℕ) (u : Spot) → Reads file t c1 c2 (Ok u) → w1 ≡ sets w (4 * u.row) (0 ∷ 0 ∷ (t.made - 1) ∷ (u.made - 1) ∷ []) →
      (n : ℕ) → Took on_store s c c2 w w1 n (read_on file s.at s.tags n) (spot u.at u.tags u.made (u.row + 1))
  on-took c2 w w1 u second g n =
      let b = expr_took file t c1 c2 u second w n in
      on_both file s t c c1 c2 w w1 n (expr_took file s c c1 t first w n)
      (member (end_store (t.made - 1)) t c1 c2 w w1 n u b (λ e. e) 0 0 (t.made - 1) (λ e. refl) (λ e. refl) (λ e. refl) (λ e. refl) g b.is)

-- ── fields of an Empty, columns of a scan ───────────────────────────────────────────────────

module _ (file : List ℕ) (s : Spot) (w w1 : List ℕ) (l : s.tags ≤ max_tags) where
  pub field-took : {q m next : ℕ} → ((tags n : ℕ) → read_pair file s.at tags n ≡ ok (pair q m) next tags n) → w1 ≡ sets w (4 * s.row) (q ∷ m ∷ 0 ∷ 0 ∷ []) →
      (c : List ℕ) (n : ℕ) → Took pair_store s c c w w1 n (read_pair file s.at s.tags n) (spot next s.tags s.made (s.row + 1))
  unfolding pair_row
  field-took {q} {m} {next} e g c n = took_one pair_store s next c w w1 n (q ∷ m ∷ 0 ∷ 0 ∷ []) g (pair q m) refl refl refl refl (e s.tags n) l

  pub index-took : (k columns : ℕ) {i next : ℕ} → ((tags n : ℕ) → index k columns file s.at tags n ≡ ok i next tags n) → w1 ≡ sets w (4 * s.row) (i ∷ 0 ∷ 0 ∷ 0 ∷ []) →
      (c : List ℕ) (n : ℕ) → Took column_store s c c w w1 n (index k columns file s.at s.tags n) (spot next s.tags s.made (s.row + 1))
  index-took k columns {i} {next} e g c n = took_one column_store s next c w w1 n (i ∷ 0 ∷ 0 ∷ 0 ∷ []) g i refl refl refl refl (e s.tags n) l

-- ── every kind ──────────────────────────────────────────────────────────────────────────────

pub pair-row-long : (c : Pair) (x y : ℕ) → length (pair_row c x y) ≡ 4
unfolding pair_row
pair-row-long (pair q m) x y = refl

pub key-sized : Sized key_store
unfolding key_cells key_row key_nodes
key-sized = record { cells_long = λ made k. elim k as (λ k. length (key_store.cells_of made k) ≡ 3 * key_store.nodes_in k) [ key d m e ↦ expr_long made e ]; rows_long = λ made k. elim k as (λ k. length (key_store.rows_of made k) ≡ 4 * key_store.rows_held k) [ key d m e ↦ refl ] }

pub key-some : (k : Key) → 0 < key_nodes k
unfolding key_nodes
key-some (key d m e) = expr_some e

pub expr_sized : Sized expr_store
expr_sized = record { cells_long = expr_long; rows_long = λ made e. refl }

pub sized_of : (k : Kind) → Sized (store_of k)
unfolding item_row agg_cells agg_row agg_nodes on_cells on_row on_nodes
sized_of kind.Item =
    record { cells_long = λ made i. expr_long made (item_expr i); rows_long = λ made i. elim i as (λ k. length ((store_of kind.Item).rows_of made k) ≡ 4 * (store_of kind.Item).rows_held k) [ bare c ↦ pair-row-long c 0 _ | named c e ↦ pair-row-long c 1 _ ] }
sized_of kind.Key = key-sized
sized_of kind.Expr = expr_sized
sized_of kind.Agg = record { cells_long = λ made a. elim a as (λ k. length ((store_of kind.Agg).cells_of made k) ≡ 3 * (store_of kind.Agg).nodes_in k) [ agg c g ↦ call_sized.cells_long made g ]; rows_long = λ made a. elim a as (λ k. length ((store_of kind.Agg).rows_of made k) ≡ 4 * (store_of kind.Agg).rows_held k) [ agg c g ↦ pair-row-long c (call_number g) _ ] }
sized_of kind.On = record { cells_long = λ made o. two_sized.cells_long made o; rows_long = λ made o. elim o as (λ k. length ((store_of kind.On).rows_of made k) ≡ 4 * (store_of kind.On).rows_held k) [ on a b ↦ refl ] }
sized_of kind.Pair = record { cells_long = λ made c. refl; rows_long = λ made c. pair-row-long c 0 0 }
sized_of (kind.Column k columns) = record { cells_long = λ made i. refl; rows_long = λ made i. refl }

pub one-row : (k : Kind) (a : Thing k) → (store_of k).rows_held a ≡ 1
one-row kind.Item a = refl
one-row kind.Key a = refl
one-row kind.Expr a = refl
one-row kind.Agg a = refl
one-row kind.On a = refl
one-row kind.Pair a = refl
one-row (kind.Column k columns) a = refl

-- a list with its count
module _ {A : Type 0} (wide : ℕ) (allowed : ℕ → Bool) (limit : ℕ) (p : Reader A) (file : List ℕ) where
  pub list-bad : (at tags : ℕ) {code place : ℕ} → ((tags n : ℕ) → count wide allowed limit file at tags n ≡ bad code place) → (n : ℕ) → counted wide allowed limit p file at tags n ≡ bad code place
  unfolding counted
  list-bad at tags e n = rw (e tags n)

  pub list_right : (S : Store A) (s : Spot) {k next : ℕ} → ((tags n : ℕ) → count wide allowed limit file s.at tags n ≡ ok k next tags n) → (c c1 w w1 : List ℕ) (r : Result Spot Refusal) →
      RightAt (list_store S) (times k p) file (spot next s.tags s.made s.row) s.tags c c1 w w1 r → RightAt (list_store S) (counted wide allowed limit p) file s s.tags c c1 w w1 r
  unfolding counted
  list_right S s {k} {next} e c c1 w w1 r h n = right_as (list_store S) (spot next s.tags s.made s.row) s c c1 w w1 n r refl refl (omega arith) (rw (e s.tags n)) (h n)
