-- What was read to its end stands in the lent arrays. Assumes nothing.
use mathlib.Core.Path.{◌≡◌, refl, sym, ap, subst, ◌∙◌}
use mathlib.Core.Bool.{Bool, true, false}
use mathlib.Core.List.{List, [], ◌∷◌}
use Prim.Native.Nat.{ℕ, suc, ◌+◌, ◌*◌, ◌<◌, ◌≤◌}
use native.Mathlib.Decide.{ℕ_discrete}
use native.Mathlib.Omega.{arith}
use lib.Dec.{eqb}
use lib.ListN.{length, get_or, set}
use lib.Seq.{get_or-set_other, length-sets, sets}
use Rattle.cpl.specs.AreBytes.{AreBytes}
use Rattle.cpl.specs.Exprs.{expr_tags}
use Rattle.cpl.specs.Limits.{max_tags}
use Rattle.cpl.specs.Lists.{a[], ◌a∷◌}
use Rattle.cpl.specs.Plan.{On, on}
use Rattle.cpl.specs.Read.{Reader, any, bad, counted, ok, pick}
use Rattle.cpl.specs.ReadExpr.{expr_to, read_expr, read_on}
use Rattle.cpl.specs.ReadPlan.{read_end}
use Rattle.cpl.specs.Writable.{FitList}
use Rattle.cpl.proofs.ExprTrip.{expr_codec}
use Rattle.arena.specs.Cells.{Wf, expr_at}
use Rattle.arena.specs.Kept.{Kept}
use Rattle.arena.specs.Rows.{mark_at, root_at}
use Rattle.arena.proofs.Kept.{kept-wf}
use Rattle.arena.proofs.Laws.{wf-none}
use Rattle.tree.specs.Layout.{Store, all_cells, all_nodes, all_rows, expr_cells, list_store, on_nodes, on_row, on_store, root_of}
use Rattle.tree.specs.Rows.{ons_at}
use Rattle.tree.proofs.Exprs.{cells_long, expr_back, tags-pos}
use Rattle.tree.proofs.Held.{Held, held-left, held-right, held-sets, moved}
use Rattle.tree.proofs.Lists.{all-cells-long, all-rows-long, one_each}
use Rattle.tree.proofs.Stores.{on-sized, ons_back, row}
use Rattle.reader_fields.specs.Answers.{Reads, Right, bare_store, spot}
use Rattle.std.specs.Prelude.{Result, Ok, Err}
use Rattle.refusals.specs.Codes.{code_of}
use Rattle.refusals.specs.declared.Reason.TheVariants.{Tail}
use Rattle.refusals.specs.declared.Refusal.{Refusal}
use Rattle.reader_fields.specs.declared.Spot.{Spot}
use Rattle.reader_fields.proofs.Sets.{right_as}
use Rattle.reader_parts.specs.Parts.{RightAt}
use Rattle.join_keys.specs.Entries.{read_keys, read_predicate, whole}
use Rattle.join_keys.proofs.Trip.{keys_codec, whole_read}
use Rattle.key_rows.specs.Rows.{SameKeys}
use Rattle.key_rows.proofs.Rows.{keys_in, same-list}
use Rattle.predicate_reader.specs.Arguments.{KeysAre, PredicateIs, all_of}

-- a file's elements are bytes
pub are_bytes : (file : List ℕ) → ((i : ℕ) → get_or file i 0 < 256) → AreBytes file
are_bytes [] h = a[]
are_bytes (b ∷ bs) h = h 0 a∷ are_bytes bs (λ i. h (suc i))

-- what stands before a store is kept
before : (xs s : List ℕ) (at k : ℕ) → k < at → get_or (sets s at xs) k 0 ≡ get_or s k 0
before [] s at k h = refl
before (x ∷ xs) s at k h = before xs (set s at x) (suc at) k (omega arith) ∙ get_or-set_other s at k x 0 (λ e. omega arith)

kept_sets : (xs s : List ℕ) (at : ℕ) → Kept at s (sets s at xs)
kept_sets xs s at = record { same = λ k h. before xs s at k h; long = length-sets s at xs }

-- ── the end ─────────────────────────────────────────────────────────────────────────────────

whole-bad : {A : Type 0} (p : Reader A) (bytes : List ℕ) {code place : ℕ} → p bytes 0 0 0 ≡ bad code place → whole p bytes 0 0 0 ≡ bad code place
unfolding whole read_end
whole-bad p bytes h = rw h

whole-right : {A : Type 0} (s : Store A) (p : Reader A) (bytes : List ℕ) (from : Spot) (c c' w w' : List ℕ) (t : Spot)
    → Right s from c c' w w' 0 (p bytes 0 0 0) (Ok t) → Right s from c c' w w' 0 (whole p bytes 0 0 0) (all_of (length bytes) t)
unfolding whole read_end all_of
whole-right s p bytes from c c' w w' t h = go (eqb t.at (length bytes)) refl
  where
    go : (b : Bool) → eqb t.at (length bytes) ≡ b → Right s from c c' w w' 0 (whole p bytes 0 0 0) (pick b (Ok t) (Err (record { reason = Tail; place = t.at })))
    go true e = right_as s from from c c' w w' 0 (Ok t) refl refl (omega arith) (rw (h.is, e)) h
    go false e = rw (h.is, e)

-- ── a predicate ─────────────────────────────────────────────────────────────────────────────

module _ (bytes cells cells' : List ℕ) (b : AreBytes bytes) (l : 12288 ≤ length cells) where
  predicate_took : (r : Result Spot Refusal) → Right bare_store (spot 0 0 0 0) cells cells' [] [] 0 (read_predicate bytes) r → PredicateIs bytes cells' r
  unfolding root_of
  predicate_took (Err e) x = x
  predicate_took (Ok t) x =
      let s = whole_read expr_codec bytes b x.value t.at t.tags 0 x.is in
      let few : expr_tags x.value ≤ max_tags = s.few in
      let h : Held cells' 0 (expr_cells 0 x.value) = rw x.cells_are (held-sets cells 0 (expr_cells 0 x.value) (omega (arith, cells_long 0 x.value))) in
      let v = expr_back x.value 0 s.good (wf-none cells') h in
      record {
        e = x.value;
        next = t.at;
        reads = x.is;
        few = few;
        made_is = omega (arith, x.made_is);
        root_is = ap (expr_at cells') (omega (arith, x.made_is)) ∙ v.is;
        wf = subst (Wf cells') (omega (arith, x.made_is)) v.wf;
      }

  pub predicate_read : (t : Spot) → Reads bytes (spot 0 0 0 0) cells cells' (Ok t) → PredicateIs bytes cells' (all_of (length bytes) t)
  predicate_read t h =
      predicate_took (all_of (length bytes) t) (whole-right bare_store read_expr bytes (spot 0 0 0 0) cells cells' [] [] t (h (suc max_tags) (omega arith) 0))

pub predicate_bad : (bytes : List ℕ) {code place : ℕ} → ((deep : ℕ) → max_tags < 0 + deep → (n : ℕ) → expr_to deep bytes 0 0 n ≡ bad code place) → read_predicate bytes ≡ bad code place
predicate_bad bytes h = whole-bad read_expr bytes (h (suc max_tags) (omega arith) 0)

-- ── keys ────────────────────────────────────────────────────────────────────────────────────

-- the nodes of stored rows
rows-below : (os : List On) (rows : List ℕ) (made first : ℕ) → Held rows (first * 4) (all_rows on_store made os) → (k : ℕ) → first ≤ k → k < first + length os
    → (mark_at rows k < made + all_nodes on_store os) × (root_at rows k < made + all_nodes on_store os)
unfolding all_rows all_nodes on_row on_nodes root_of
rows-below [] rows made first h k a b = absurd (omega arith)
rows-below (on x y ∷ os) rows made first h k a b = elim (ℕ_discrete k first) [
  | yes e ↦
      let r = row (held-left (on_row made (on x y)) _ h) in
      (omega (arith, ap (mark_at rows) e, r.mark, tags-pos x, tags-pos y), omega (arith, ap (root_at rows) e, r.root, tags-pos x, tags-pos y))
  | no d ↦
      let p : first * 4 + 4 ≡ suc first * 4 = omega arith in
      let z = rows-below os rows (made + on_nodes (on x y)) (suc first) (moved p (held-right (on_row made (on x y)) _ 4 refl h)) k (omega arith) (omega arith) in
      (omega (arith, z.0), omega (arith, z.1))
]

-- keys that were read, as rows
pub record Listed (bytes : List ℕ) (made : ℕ) (cells cells' rows' : List ℕ) (t : Spot) : Type 0 where
  pub keys : List On
  pub reads : read_keys bytes ≡ ok keys t.at t.tags 0
  pub rows_are : ons_at rows' cells' 0 t.row ≡ keys
  pub below : (k : ℕ) → k < t.row → (mark_at rows' k < t.made) × (root_at rows' k < t.made)
  pub few_rows : t.row ≤ 255
  pub kept : Kept (made * 3) cells cells'
  pub grown : made ≤ t.made
  pub few : t.made ≤ made + max_tags
  pub wf : Wf cells' t.made

abbrev pub ListedAs : (bytes : List ℕ) (made : ℕ) (cells cells' rows' : List ℕ) → Result Spot Refusal → Type 0
ListedAs bytes made cells cells' rows' (Ok t) = Listed bytes made cells cells' rows' t
ListedAs bytes made cells cells' rows' (Err e) = read_keys bytes ≡ bad (code_of e.reason) e.place

module _ (bytes : List ℕ) (made : ℕ) (cells cells' rows rows' : List ℕ) (b : AreBytes bytes) (w : Wf cells made) (l : 3 * made + 12288 ≤ length cells) (m : 1020 ≤ length rows) where
  keys-took : (r : Result Spot Refusal) → Right (list_store on_store) (spot 0 0 made 0) cells cells' rows rows' 0 (read_keys bytes) r → ListedAs bytes made cells cells' rows' r
  unfolding FitList
  keys-took (Err e) x = x
  keys-took (Ok t) x =
      let os : List On = x.value in
      let s = whole_read keys_codec bytes b os t.at t.tags 0 x.is in
      let count : t.row ≡ length os = omega (arith, x.row_is, one_each on_store on-sized (λ o. refl) os) in
      let few_rows : length os ≤ 255 = s.good.0 in
      let nodes : all_nodes on_store os ≤ max_tags = omega (arith, x.grown, x.few) in
      let stores : cells' ≡ sets cells (made * 3) (all_cells on_store made os) = x.cells_are ∙ ap (λ (k : ℕ). sets cells k (all_cells on_store made os)) (omega arith) in
      let kept : Kept (made * 3) cells cells' = rw stores (kept_sets (all_cells on_store made os) cells (made * 3)) in
      let h : Held cells' (made * 3) (all_cells on_store made os) = rw stores (held-sets cells (made * 3) (all_cells on_store made os) (omega (arith, all-cells-long on_store on-sized made os))) in
      let g : Held rows' 0 (all_rows on_store made os) =
      rw x.rows_are (held-sets rows 0 (all_rows on_store made os) (omega (arith, all-rows-long on_store on-sized made os, one_each on_store on-sized (λ o. refl) os))) in
      let v = ons_back cells' rows' os made 0 s.good.1 (kept-wf made kept made (omega arith) w) h g in
      let top : made + all_nodes on_store os ≡ t.made = sym x.made_is in
      record {
        keys = os;
        reads = x.is;
        rows_are = ap (ons_at rows' cells' 0) count ∙ v.0.is;
        below = λ k a. let z = rows-below os rows' made 0 g k (omega arith) (omega arith) in (omega (arith, z.0), omega (arith, z.1));
        few_rows = omega arith;
        kept = kept;
        grown = omega arith;
        few = omega arith;
        wf = subst (Wf cells') top v.0.wf;
      }

  pub keys_listed : (t : Spot) → RightAt (list_store on_store) (counted 1 any 255 read_on) bytes (spot 0 0 made 0) 0 cells cells' rows rows' (Ok t) → ListedAs bytes made cells cells' rows' (all_of (length bytes) t)
  keys_listed t h =
      keys-took (all_of (length bytes) t) (whole-right (list_store on_store) (counted 1 any 255 read_on) bytes (spot 0 0 made 0) cells cells' rows rows' t (h 0))

pub keys_bad : (bytes : List ℕ) {code place : ℕ} → ((n : ℕ) → counted 1 any 255 read_on bytes 0 0 n ≡ bad code place) → read_keys bytes ≡ bad code place
keys_bad bytes h = whole-bad (counted 1 any 255 read_on) bytes (h 0)

-- the same keys, as pairs
pub keys_read : {bytes : List ℕ} {made : ℕ} {cells cells' rows' pairs' : List ℕ} {t : Spot} → Listed bytes made cells cells' rows' t → 510 ≤ length pairs' → SameKeys t.row rows' pairs'
    → KeysAre bytes made cells cells' pairs' (Ok t)
keys_read {cells' = cells'} {t = t} x l s = record {
  keys = x.keys;
  next = t.at;
  reads = x.reads;
  keys_are = sym (same-list cells' s) ∙ x.rows_are;
  inside = keys_in s (omega (arith, x.few_rows)) x.below;
  kept = x.kept;
  grown = x.grown;
  few = x.few;
  wf = x.wf;
}
