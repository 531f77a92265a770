-- What was appended to the records, rows and nodes leaves what stood there before. Assumes nothing.
use mathlib.Core.Path.{◌≡◌, refl, sym, ap, subst, ◌∙◌}
use mathlib.Core.Logic.{⊎_elim}
use mathlib.Core.List.{List}
use Prim.Native.Nat.{ℕ, zero, suc, ◌+◌, ◌*◌, ◌<◌, ◌≤◌, min}
use native.Mathlib.Omega.{arith}
use lib.ListN.{length, get_or, take, drop, length-take, length-drop}
use lib.Seq.{ext_get_or, get_or-drop, get_or-take}
use Rattle.cpl.specs.Exprs.{item_tags}
use Rattle.cpl.specs.Limits.{max_tags}
use Rattle.cpl.specs.Plan.{Catalogue, Item, Plan, projection, unary}
use Rattle.cpl.specs.Tests.{sum_of}
use Rattle.arena.specs.Kept.{Kept}
use Rattle.arena.proofs.Kept.{kept-items, kept_refl, kept-root, kept-rows}
use Rattle.required_indices.specs.Request.{words_n}
use Rattle.required_indices.specs.Words.{number}
use Rattle.required_indices.proofs.Members.{side}
use Rattle.tree.specs.Tree.{Arrays}
use Rattle.result.specs.Result.{Results, first_at, form_at, old_at, record_n, result_at, second_at, set_at}
use Rattle.result.specs.Records.{Appended, Grown, RecordOk, WfResults, first_of, record_at, results, second_of, stands_for}
use Rattle.result.specs.declared.Record.{Record}
use Rattle.result.specs.declared.Record.TheVariants.{Columns, Items, Nothing}
use Rattle.result.specs.declared.Record.TheVariants
use Rattle.result.proofs.Steps.{result-step, same_inputs}

-- a part of an array that is kept
kept-part : {s s' : List ℕ} (n : ℕ) → Kept n s s' → (at long : ℕ) → at + long ≤ n → take long (drop at s') ≡ take long (drop at s)
kept-part {s} {s'} n p at long h =
    let e : length (take long (drop at s')) ≡ length (take long (drop at s)) =
    omega (arith, p.long, length-take long (drop at s'), length-take long (drop at s), length-drop at s', length-drop at s) in
    ext_get_or 0 (take long (drop at s')) (take long (drop at s)) e
    (λ j l.
    let b : j < long = omega (arith, length-take long (drop at s')) in
    get_or-take long (drop at s') j 0 b ∙ get_or-drop at s' j 0 ∙ p.same (at + j) (omega arith) ∙ sym (get_or-take long (drop at s) j 0 b ∙ get_or-drop at s j 0))

-- the first n records
module _ {s s' : List ℕ} (n : ℕ) (p : Kept (n * record_n) s s') (i : ℕ) (h : i < n) where
  pub kept_set : set_at s' i ≡ set_at s i
  kept_set =
      let c = get_or s (i * record_n + 4) 0 in
      ap (λ (x : ℕ). number (take (min x words_n) (drop (i * record_n + 4 + 1) s'))) (p.same (i * record_n + 4) (omega arith))
      ∙ ap number (kept-part (n * record_n) p (i * record_n + 4 + 1) (min c words_n) (omega arith))

  pub kept_record : record_at s' i ≡ record_at s i
  unfolding record_at
  kept_record =
      let a : form_at s' i ≡ form_at s i = p.same (i * record_n) (omega arith) in
      let b : old_at s' i ≡ old_at s i = p.same (i * record_n + 1) (omega arith) in
      let c : first_at s' i ≡ first_at s i = p.same (i * record_n + 2) (omega arith) in
      let d : second_at s' i ≡ second_at s i = p.same (i * record_n + 3) (omega arith) in
      rw (a, b, c, d)

module _ (C : Catalogue) (a : Arrays) (count : ℕ) {r r' : Results} (n m k : ℕ) (g : Grown n m k r r') where
  grown-ok : (i s : ℕ) (x : Record) → RecordOk C a count r m k i s x → RecordOk C a count r' m k i s x
  grown-ok i s (TheVariants.Kept old f h) o = o
  grown-ok i s (Columns old f) o = o
  grown-ok i s (Items row c f) o =
      record {
        input = o.input;
        rows = kept-rows m k g.items g.cells row c o.used o.roots o.rows;
        used = o.used;
        roots = λ j p q. let e = kept-root m k g.items g.cells j (omega (arith, o.used)) in omega (arith, o.roots j p q);
        few = o.few;
        tags = subst (λ (is : List Item). sum_of item_tags is ≤ max_tags) (sym (kept-items m k g.items g.cells row c o.used o.roots)) o.tags;
      }
  grown-ok i s Nothing o = o

  grown_stands : (i s : ℕ) (x : Record) (p q : Plan) → RecordOk C a count r m k i s x → stands_for C a r' s x p q ≡ stands_for C a r s x p q
  grown_stands i s (TheVariants.Kept old f h) p q o = refl
  grown_stands i s (Columns old f) p q o = refl
  grown_stands i s (Items row c f) p q o = ap (λ (is : List Item). unary (projection is) p) (kept-items m k g.items g.cells row c o.used o.roots)
  grown_stands i s Nothing p q o = refl

  module _ (w : WfResults C a count r n m k) where
    each-grown : (i : ℕ) → i < n → RecordOk C a count r' m k i (set_at r'.records i) (record_at r'.records i)
    each-grown i h = rw (kept_set n g.records i h, kept_record n g.records i h) (grown-ok i (set_at r.records i) (record_at r.records i) (w.each i h))

    -- what was appended leaves the records well formed
    pub wf-grown : WfResults C a count r' n m k
    wf-grown = record { inside = omega (arith, w.inside, g.records.long); each = each-grown }

    upto : (b i : ℕ) → i < b → i < n → result_at C a r' i ≡ result_at C a r i
    upto zero i l h = absurd (omega arith)
    upto (suc b) i l h =
        let x : Record = record_at r.records i in
        let s : ℕ = set_at r.records i in
        result-step C a r' count m k n wf-grown i h
        ∙ rw (kept_set n g.records i h, kept_record n g.records i h) (grown_stands i s x _ _ (w.each i h))
        ∙ same_inputs C a r count m k i s x (w.each i h) (λ j. upto b (first_of x) (omega arith) (omega arith)) (λ j. upto b (second_of x) (omega arith) (omega arith))
        ∙ sym (result-step C a r count m k n w i h)

    -- and what they stand for
    pub result-grown : (i : ℕ) → i < n → result_at C a r' i ≡ result_at C a r i
    result-grown i h = upto (suc i) i (omega arith) h

-- no record yet
pub wf-none : {C : Catalogue} {a : Arrays} {count : ℕ} {r : Results} {m k : ℕ} → WfResults C a count r 0 m k
wf-none = record { inside = omega arith; each = λ i h. absurd (omega arith) }

-- more rows and nodes in use
more-ok : (C : Catalogue) (a : Arrays) (count : ℕ) (r : Results) (m k m' k' i s : ℕ) (x : Record) → m ≤ m' → k ≤ k' → RecordOk C a count r m k i s x → RecordOk C a count r m' k' i s x
more-ok C a count r m k m' k' i s (TheVariants.Kept old f h) p q o = o
more-ok C a count r m k m' k' i s (Columns old f) p q o = o
more-ok C a count r m k m' k' i s (Items row c f) p q o =
    record { input = o.input; rows = o.rows; used = omega (arith, o.used); roots = λ j b d. omega (arith, o.roots j b d); few = o.few; tags = o.tags }
more-ok C a count r m k m' k' i s Nothing p q o = o

pub wf-more : {C : Catalogue} {a : Arrays} {count : ℕ} {r : Results} {n m k : ℕ} (m' k' : ℕ) → m ≤ m' → k ≤ k' → WfResults C a count r n m k → WfResults C a count r n m' k'
wf-more {C} {a} {count} {r} {n} {m} {k} m' k' p q w = record { inside = w.inside; each = λ i h. more-ok C a count r m k m' k' i (set_at r.records i) (record_at r.records i) p q (w.each i h) }

-- a record was appended
module _ {C : Catalogue} {a : Arrays} {count : ℕ} {r : Results} {n m k : ℕ} {s' : List ℕ} {x : Record} {set : ℕ}
    (w : WfResults C a count r n m k) (room : n * record_n + record_n ≤ length r.records) (o : Appended r.records s' n x set) (ok : RecordOk C a count r m k n set x) where
  pub pushed_grown : Grown n m k r (results s' r.items r.cells)
  pushed_grown = record { records = o.kept; items = kept_refl (m * 4) r.items; cells = kept_refl (k * 3) r.cells }

  last : (i : ℕ) → n ≤ i → i < n + 1 → RecordOk C a count (results s' r.items r.cells) m k i (set_at s' i) (record_at s' i)
  last i l h =
      let e : n ≡ i = omega arith in
      subst (λ (y : ℕ). RecordOk C a count (results s' r.items r.cells) m k y (set_at s' y) (record_at s' y)) e
      (rw (o.is, o.set_is) (grown-ok C a count n m k pushed_grown n set x ok))

  pub pushed_wf : WfResults C a count (results s' r.items r.cells) (n + 1) m k
  pushed_wf =
      record {
        inside = omega (arith, room, o.kept.long);
        each = λ i h. ⊎_elim (λ (l : n ≤ i). last i l h) (λ (l : i < n). each-grown C a count n m k pushed_grown w i l) (side n i);
      }

  -- it stands for what it says over what its inputs stood for before
  pub pushed_result : result_at C a (results s' r.items r.cells) n ≡ stands_for C a r set x (result_at C a r (first_of x)) (result_at C a r (second_of x))
  pushed_result =
      let r' : Results = results s' r.items r.cells in
      result-step C a r' count m k (n + 1) pushed_wf n (omega arith)
      ∙ rw (o.is, o.set_is) (grown_stands C a count n m k pushed_grown n set x _ _ ok)
      ∙ same_inputs C a r count m k n set x ok (λ j. result-grown C a count n m k pushed_grown w (first_of x) j) (λ j. result-grown C a count n m k pushed_grown w (second_of x) j)
