-- The laws of the loops that put the pairs of one set into another, one after the other. Assumes nothing.
use mathlib.Core.Path.{◌≡◌, refl, sym, ap, ap₂, ◌∙◌}
use mathlib.Core.List.{List, [], ◌∷◌}
use mathlib.Core.Option.{Option, none, some}
use Prim.Native.Nat.{ℕ, ◌+◌, ◌*◌, ◌<◌, ◌≤◌}
use native.Mathlib.Omega.{arith}
use Rattle.cpl.specs.Plan.{Expr, on}
use Rattle.arena.specs.Cells.{Wf, expr_at}
use Rattle.arena.specs.Kept.{Kept}
use Rattle.arena.proofs.Kept.{kept_refl, kept_trans}
use Rattle.join_keys.specs.Keys as keys
use Rattle.join_keys.specs.Keys.{◌and_then◌, insert, insert_all, insert_intersection}
use Rattle.join_key_set.specs.Pairs.{Behind, KeyIs, KeysIn, KeysOk, keys_at}
use Rattle.join_key_set.specs.Answers.{Fills, insert_common}
use Rattle.join_key_set.specs.declared.JoinKeySet.{JoinKeySet}
use Rattle.std.specs.Prelude.{Ok}
use Rattle.join_key_set.proofs.Laws.{behind-refl, behind-same, keys-same, ok_same, read_key_lem, read_wf, rest, rest_all, rest-next, rest-none}

-- G works pairs into a set by the step st
pub record Folds (G : (pairs set : keys.JoinKeySet) → Option keys.JoinKeySet) (st : (left right : Expr) → keys.JoinKeySet → Option keys.JoinKeySet) : Type 0 where
  pub done : (s : keys.JoinKeySet) → G [] s ≡ some s
  pub step : (l r : Expr) (ps s : keys.JoinKeySet) → G (on l r ∷ ps) s ≡ (st l r s and_then λ t. G ps t)

pub all_folds : Folds insert_all insert
unfolding insert_all
all_folds = record { done = λ s. refl; step = λ l r ps s. refl }

pub common_folds : (s₂ : keys.JoinKeySet) → Folds (λ ps s. insert_intersection ps s₂ s) (insert_common s₂)
unfolding insert_intersection insert_common
common_folds s₂ = record { done = λ s. refl; step = λ l r ps s. refl }

-- i of the count pairs from `first` on were worked into the set from `start` on, which had `size` pairs; the others are as they were. o is asked for.
pub record Work (o : Option keys.JoinKeySet) (G : (pairs set : keys.JoinKeySet) → Option keys.JoinKeySet) (cells s₀ : List ℕ) (start size first count i : ℕ) (set : JoinKeySet) (s : List ℕ) : Type 0 where
  pub upto : i ≤ count
  pub starts : set.start ≡ start
  pub is : o ≡ G (rest cells s₀ first count i) (keys_at cells s start set.size)
  pub few : set.size ≤ size + i
  pub ok : KeysOk cells s start set.size
  pub kept : Kept (start * 2) s₀ s
  pub behind : Behind ((first + i) * 2) s₀ s

pub work_none : (G : (pairs set : keys.JoinKeySet) → Option keys.JoinKeySet) (cells s : List ℕ) (set : JoinKeySet) (first count : ℕ) → KeysOk cells s set.start set.size
    → Work (G (keys_at cells s first count) (keys_at cells s set.start set.size)) G cells s set.start set.size first count 0 set s
work_none G cells s set first count k = record {
  upto = omega arith;
  starts = refl;
  is = ap (λ ks. G ks (keys_at cells s set.start set.size)) (sym (rest_all cells s first count));
  few = omega arith;
  ok = k;
  kept = kept_refl _ s;
  behind = behind-refl _ s;
}

module _ {o : Option keys.JoinKeySet} {G : (pairs set : keys.JoinKeySet) → Option keys.JoinKeySet} {cells s₀ : List ℕ} {start size first count i : ℕ} {set : JoinKeySet} {s : List ℕ}
    (w : Work o G cells s₀ start size first count i set s) where
  pub work_all : {st : (left right : Expr) → keys.JoinKeySet → Option keys.JoinKeySet} → Folds G st → count ≤ i → Fills o cells s₀ start (size + count) (Ok set) s
  work_all f h = record {
    starts = w.starts;
    is = w.is ∙ (ap (λ ks. G ks (keys_at cells s start set.size)) (rest-none cells s₀ first count i h) ∙ f.done _);
    few = omega (arith, w.few, w.upto);
    ok = w.ok;
    kept = w.kept;
  }

  -- a set behind the pairs that were worked in
  module _ (f n : ℕ) (h : first + i ≤ f) where
    pub work_other : KeysOk cells s₀ f n → KeysOk cells s f n
    work_other k = ok_same cells s₀ s f n w.kept.long (behind-same f n (first + i) s₀ s h w.behind) k

    pub work_keys : keys_at cells s f n ≡ keys_at cells s₀ f n
    work_keys = keys-same cells s₀ s f n (behind-same f n (first + i) s₀ s h w.behind)

  module _ (k : KeysOk cells s₀ first count) (h : i < count) where
    -- the pair that is next
    module _ {l r : ℕ} (e : KeyIs s (first + i) l r) where
      old : KeyIs s₀ (first + i) l r
      unfolding Behind
      old = record { left_is = e.left_is ∙ w.behind ((first + i) * 2) (omega arith); right_is = e.right_is ∙ w.behind ((first + i) * 2 + 1) (omega arith) }

      pub work_in : {m : ℕ} → KeysIn m s₀ first count → (l < m) × (r < m)
      work_in o = (omega (arith, old.left_is, o.left (first + i) (omega arith) (omega arith)), omega (arith, old.right_is, o.right (first + i) (omega arith) (omega arith)))

      pub work_wf : Wf cells (l + 1) × Wf cells (r + 1)
      work_wf = read_wf cells old k (omega arith) (omega arith)

      module _ {st : (left right : Expr) → keys.JoinKeySet → Option keys.JoinKeySet} (f : Folds G st) where
        next : o ≡ (st (expr_at cells l) (expr_at cells r) (keys_at cells s set.start set.size) and_then λ t. G (rest cells s₀ first count (i + 1)) t)
        next =
            w.is
            ∙ (ap₂ G (rest-next cells s₀ first count i h ∙ ap (◌∷ rest cells s₀ first count (i + 1)) (read_key_lem cells old)) (ap (λ n. keys_at cells s n set.size) (sym w.starts))
            ∙ f.step (expr_at cells l) (expr_at cells r) (rest cells s₀ first count (i + 1)) (keys_at cells s set.start set.size))

        pub work_65th : st (expr_at cells l) (expr_at cells r) (keys_at cells s set.start set.size) ≡ none → o ≡ none
        work_65th n = next ∙ ap (◌and_then (λ t. G (rest cells s₀ first count (i + 1)) t)) n

        pub work_more : {more : JoinKeySet} {s' : List ℕ} → start + size ≤ first
            → Fills (st (expr_at cells l) (expr_at cells r) (keys_at cells s set.start set.size)) cells s set.start (set.size + 1) (Ok more) s'
            → Behind ((set.start + set.size + 1) * 2) s s' → Work o G cells s₀ start size first count (i + 1) more s'
        unfolding Behind
        work_more {more} {s'} d g b =
            let e₁ : more.start ≡ start = g.starts ∙ w.starts in
            record {
              upto = omega arith;
              starts = e₁;
              is = next ∙ (ap (◌and_then (λ t. G (rest cells s₀ first count (i + 1)) t)) g.is ∙ ap (λ n. G (rest cells s₀ first count (i + 1)) (keys_at cells s' n more.size)) w.starts);
              few = omega (arith, g.few, w.few);
              ok = rw w.starts at g.ok;
              kept = kept_trans (omega arith) w.kept (rw w.starts at g.kept);
              behind = later;
            }
          where
            later : Behind ((first + (i + 1)) * 2) s₀ s'
            later j q = b j (omega (arith, w.few, w.starts)) ∙ w.behind j (omega arith)
