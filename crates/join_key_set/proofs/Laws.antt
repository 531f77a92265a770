-- The laws of pairs in an array: reading them, what a written pair changes, and what is kept. Assumes nothing.
use mathlib.Core.Path.{◌≡◌, refl, sym, ap, ap₂, ◌∙◌}
use mathlib.Core.List.{List, [], ◌∷◌, ◌++◌}
use Prim.Native.Nat.{ℕ, zero, suc, ◌+◌, ◌*◌, ◌-◌, ◌<◌, ◌≤◌}
use native.Mathlib.Omega.{arith}
use borrow.Author.Count.{below_more}
use lib.ListN.{length, get_or, set, length-set}
use lib.Seq.{get_or-set_other, get_or-set_same}
use Rattle.cpl.specs.Plan.{on}
use Rattle.arena.specs.Cells.{Wf, expr_at}
use Rattle.arena.specs.Kept.{Kept}
use Rattle.arena.proofs.Laws.{wf_less}
use Rattle.join_keys.specs.Keys.{JoinKeySet}
use Rattle.join_key_set.specs.Pairs.{Behind, KeyIs, KeysIn, KeysOk, key_at, keys_at, left_at, put_key, right_at}

-- ── reading ─────────────────────────────────────────────────────────────────────────────────

-- a set from its pair i on
abbrev pub rest : (cells s : List ℕ) (f n i : ℕ) → JoinKeySet
rest cells s f n i = keys_at cells s (f + i) (n - i)

module _ (cells s : List ℕ) (f n : ℕ) where
  pub rest_all : rest cells s f n 0 ≡ keys_at cells s f n
  rest_all = ap₂ (keys_at cells s) (omega arith) (omega arith)

  pub rest-next : (i : ℕ) → i < n → rest cells s f n i ≡ key_at cells s (f + i) ∷ rest cells s f n (i + 1)
  unfolding keys_at
  rest-next i h =
      let e : n - i ≡ suc (n - (i + 1)) = omega arith in
      let g : suc (f + i) ≡ f + (i + 1) = omega arith in
      ap (keys_at cells s (f + i)) e ∙ ap (λ k. key_at cells s (f + i) ∷ keys_at cells s k (n - (i + 1))) g

  pub rest-none : (i : ℕ) → n ≤ i → rest cells s f n i ≡ []
  unfolding keys_at
  rest-none i h = let e : n - i ≡ 0 = omega arith in ap (keys_at cells s (f + i)) e

-- the last pair apart
snoc : (cells s : List ℕ) (f n : ℕ) → keys_at cells s f (suc n) ≡ keys_at cells s f n ++ (key_at cells s (f + n) ∷ [])
unfolding keys_at
snoc cells s f zero = let e : f ≡ f + 0 = omega arith in ap (λ k. key_at cells s k ∷ []) e
snoc cells s f (suc n) = let e : suc f + n ≡ f + suc n = omega arith in ap (key_at cells s f ∷◌) (snoc cells s (suc f) n ∙ ap (λ k. keys_at cells s (suc f) n ++ (key_at cells s k ∷ [])) e)

pub keys_snoc : (cells s : List ℕ) (f n : ℕ) → keys_at cells s f (n + 1) ≡ keys_at cells s f n ++ (key_at cells s (f + n) ∷ [])
keys_snoc cells s f n = let e : n + 1 ≡ suc n = omega arith in ap (keys_at cells s f) e ∙ snoc cells s f n

pub keys_length : (cells s : List ℕ) (f n : ℕ) → length (keys_at cells s f n) ≡ n
unfolding keys_at
keys_length cells s f zero = refl
keys_length cells s f (suc n) = ap suc (keys_length cells s (suc f) n)

-- a pair once its numbers are read
module _ (cells : List ℕ) {s : List ℕ} {k l r : ℕ} (e : KeyIs s k l r) where
  pub read_key_lem : key_at cells s k ≡ on (expr_at cells l) (expr_at cells r)
  unfolding key_at
  read_key_lem = rw (e.left_is, e.right_is)

  pub read_wf : {f n : ℕ} → KeysOk cells s f n → f ≤ k → k < f + n → Wf cells (l + 1) × Wf cells (r + 1)
  read_wf o a b = rw (e.left_is, e.right_is) (o.left k a b, o.right k a b)

-- ── what is kept ────────────────────────────────────────────────────────────────────────────

-- the numbers of the pairs f, f + 1, ..: n of them
abbrev pub Same : (f n : ℕ) (s s' : List ℕ) → Type 0
Same f n s s' = (k : ℕ) → f * 2 ≤ k → k < (f + n) * 2 → get_or s' k 0 ≡ get_or s k 0

pub keys-same : (cells s s' : List ℕ) (f n : ℕ) → Same f n s s' → keys_at cells s' f n ≡ keys_at cells s f n
unfolding keys_at key_at
keys-same cells s s' f zero h = refl
keys-same cells s s' f (suc n) h =
    ap₂ ◌∷◌ (ap₂ on (ap (expr_at cells) (h (f * 2) (omega arith) (omega arith))) (ap (expr_at cells) (h (f * 2 + 1) (omega arith) (omega arith))))
    (keys-same cells s s' (suc f) n (λ k a b. h k (omega arith) (omega arith)))

pub ok_same : (cells s s' : List ℕ) (f n : ℕ) → length s' ≡ length s → Same f n s s' → KeysOk cells s f n → KeysOk cells s' f n
ok_same cells s s' f n e h o = record {
  room = omega (arith, e, o.room);
  left = λ k a b. rw (h (k * 2) (omega arith) (omega arith)) (o.left k a b);
  right = λ k a b. rw (h (k * 2 + 1) (omega arith) (omega arith)) (o.right k a b);
}

pub kept_same : (f n m : ℕ) {s s' : List ℕ} → f + n ≤ m → Kept (m * 2) s s' → Same f n s s'
kept_same f n m h p k a b = p.same k (omega arith)

pub behind-same : (f n m : ℕ) (s s' : List ℕ) → m ≤ f → Behind (m * 2) s s' → Same f n s s'
unfolding Behind
behind-same f n m s s' h p k a b = p k (omega arith)

pub kept_less : {m n : ℕ} {s s' : List ℕ} → m ≤ n → Kept n s s' → Kept m s s'
kept_less h p = record { same = λ k l. p.same k (omega arith); long = p.long }

pub behind-refl : (m : ℕ) (s : List ℕ) → Behind m s s
unfolding Behind
behind-refl m s k h = refl

-- no pairs
pub ok-none : (cells s : List ℕ) (f : ℕ) → f * 2 ≤ length s → KeysOk cells s f 0
ok-none cells s f h = record { room = omega arith; left = λ k a b. absurd (omega arith); right = λ k a b. absurd (omega arith) }

-- nodes that are among the first n, which are well formed
pub in_ok : {cells s : List ℕ} {n f m : ℕ} → Wf cells n → KeysIn n s f m → KeysOk cells s f m
in_ok {cells} {s} {n} w o = record {
  room = o.room;
  left = λ k a b. wf_less cells (left_at s k + 1) n (omega (arith, o.left k a b)) w;
  right = λ k a b. wf_less cells (right_at s k + 1) n (omega (arith, o.right k a b)) w;
}

-- ── writing ─────────────────────────────────────────────────────────────────────────────────

module _ (s : List ℕ) (k l r : ℕ) where
  pub put_long : length (put_key s k l r) ≡ length s
  unfolding put_key
  put_long = simp length-set

  put_other : (j : ℕ) → (j ≡ k * 2 → ⊥) → (j ≡ k * 2 + 1 → ⊥) → get_or (put_key s k l r) j 0 ≡ get_or s j 0
  unfolding put_key
  put_other j a b = get_or-set_other (set s (k * 2) l) (k * 2 + 1) j r 0 b ∙ get_or-set_other s (k * 2) j l 0 a

  pub put_below : Kept (k * 2) s (put_key s k l r)
  put_below = record { same = λ j h. put_other j (λ e. omega arith) (λ e. omega arith); long = put_long }

  pub put_behind : Behind ((k + 1) * 2) s (put_key s k l r)
  unfolding Behind
  put_behind j h = put_other j (λ e. omega arith) (λ e. omega arith)

  module _ (h : k * 2 + 1 < length s) where
    put_left : left_at (put_key s k l r) k ≡ l
    unfolding put_key
    put_left = get_or-set_other (set s (k * 2) l) (k * 2 + 1) (k * 2) r 0 (λ e. omega arith) ∙ get_or-set_same s (k * 2) l 0 (omega arith)

    put_right : right_at (put_key s k l r) k ≡ r
    unfolding put_key
    put_right = get_or-set_same (set s (k * 2) l) (k * 2 + 1) r 0 (simp length-set (omega arith))

    pub put_is : KeyIs (put_key s k l r) k l r
    put_is = record { left_is = sym put_left; right_is = sym put_right }

-- a pair put behind a set
module _ (cells s : List ℕ) (f n l r : ℕ) (h : (f + n + 1) * 2 ≤ length s) where
  pub put_keys : keys_at cells (put_key s (f + n) l r) f (n + 1) ≡ keys_at cells s f n ++ (on (expr_at cells l) (expr_at cells r) ∷ [])
  put_keys =
      keys_snoc cells (put_key s (f + n) l r) f n
      ∙ ap₂ (λ ks p. ks ++ (p ∷ [])) (keys-same cells s (put_key s (f + n) l r) f n (kept_same f n (f + n) (omega arith) (put_below s (f + n) l r))) (read_key_lem cells (put_is s (f + n) l r (omega arith)))

  pub put_in : {m : ℕ} → KeysIn m s f n → l < m → r < m → KeysIn m (put_key s (f + n) l r) f (n + 1)
  put_in {m} o a b = record {
    room = omega (arith, put_long s (f + n) l r);
    left = λ k p q. below_more (λ j. f ≤ j → left_at s' j < m) (f + n) (λ j u v. rw (same (j * 2) (omega arith) (omega arith)) (o.left j v u)) (λ v. rw (put_left s (f + n) l r (omega arith)) a) k (omega arith) p;
    right = λ k p q. below_more (λ j. f ≤ j → right_at s' j < m) (f + n) (λ j u v. rw (same (j * 2 + 1) (omega arith) (omega arith)) (o.right j v u)) (λ v. rw (put_right s (f + n) l r (omega arith)) b) k (omega arith) p;
  }
    where
      s' : List ℕ
      s' = put_key s (f + n) l r

      same : Same f n s s'
      same = kept_same f n (f + n) (omega arith) (put_below s (f + n) l r)

  pub put_ok : KeysOk cells s f n → Wf cells (l + 1) → Wf cells (r + 1) → KeysOk cells (put_key s (f + n) l r) f (n + 1)
  put_ok o a b = record {
    room = omega (arith, put_long s (f + n) l r);
    left = λ k p q. below_more (λ j. f ≤ j → Wf cells (left_at s' j + 1)) (f + n) (λ j u v. old.left j v u) (λ v. rw (put_left s (f + n) l r (omega arith)) a) k (omega arith) p;
    right = λ k p q. below_more (λ j. f ≤ j → Wf cells (right_at s' j + 1)) (f + n) (λ j u v. old.right j v u) (λ v. rw (put_right s (f + n) l r (omega arith)) b) k (omega arith) p;
  }
    where
      s' : List ℕ
      s' = put_key s (f + n) l r

      old : KeysOk cells s' f n
      old = ok_same cells s s' f n (put_long s (f + n) l r) (kept_same f n (f + n) (omega arith) (put_below s (f + n) l r)) o
