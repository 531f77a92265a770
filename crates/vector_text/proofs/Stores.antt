-- What is read thing by thing and stored at the front of an array. Assumes nothing.
use mathlib.Core.Path.{◌≡◌, refl, sym, ap, ap₂, subst, ◌∙◌}
use mathlib.Core.Bool.{Bool, true, false, cond}
use mathlib.Core.List.{List, [], ◌∷◌, ◌++◌, append_assoc, append-nil}
use Rattle.std.specs.Prelude.{Option, Some, None}
use Prim.Native.Nat.{ℕ, suc, ◌+◌, ◌-◌, ◌<◌, ◌≤◌}
use native.Mathlib.Numerals.{add-one}
use native.Mathlib.Omega.{arith}
use borrow.Author.Tests.{eqb-true}
use lib.Dec.{eqb}
use lib.ListN.{drop, drop_of_length-le, get_or, length, length-append, length-set, set, take, take-append-drop}
use lib.Seq.{drop-cons, drop-drop, drop-set-lt, length-take-le, take-suc-set}
use Rattle.vector_text.specs.Text.{Stored, both, byte_of, bytes_of, dash, list_of, onto, pairs, pieces, short_of, shorts}

onto-none : (o : Option (List ℕ)) → onto [] o ≡ o
unfolding onto
onto-none None = refl
onto-none (Some ys) = refl

onto-next : (xs : List ℕ) (x : ℕ) (o : Option (List ℕ)) → onto xs (onto (x ∷ []) o) ≡ onto (xs ++ (x ∷ [])) o
unfolding onto
onto-next xs x None = refl
onto-next xs x (Some ys) = ap Some (sym (append_assoc xs (x ∷ []) ys))

-- Of what a text says in all, `left` is still to be read; n things are stored at the front of the array, which is as before behind them.
pub record Reads (all left : Option (List ℕ)) (s s' : List ℕ) (n : ℕ) : Type 0 where
  pub long : length s' ≡ length s
  pub upto : n ≤ length s
  pub kept : drop n s' ≡ drop n s
  pub same : onto (take n s') left ≡ all

pub reads_none : (all : Option (List ℕ)) (s : List ℕ) → Reads all all s s 0
reads_none all s = record { long = refl; upto = omega arith; kept = refl; same = onto-none all }

module _ {all : Option (List ℕ)} {s s' : List ℕ} {n : ℕ} where
  -- what is left is put in another way
  pub reads_as : {o o' : Option (List ℕ)} → Reads all o s s' n → o ≡ o' → Reads all o' s s' n
  reads_as p e = subst (λ o. Reads all o s s' n) e p

  pub reads_more : (x : ℕ) {o : Option (List ℕ)} → Reads all (both (Some x) o) s s' n → n < length s' → Reads all o s (set s' n x) (n + 1)
  unfolding both
  reads_more x {o} p h = record {
    long = length-set s' n x ∙ p.long;
    upto = omega (arith, p.long);
    kept = drop-set-lt (n + 1) s' n x (omega arith) ∙ next;
    same = ap (λ j. onto (take j (set s' n x)) o) (add-one n) ∙ ap (λ xs. onto xs o) (take-suc-set s' n x h)
        ∙ sym (onto-next (take n s') x o) ∙ p.same;
  }
    where
      next : drop (n + 1) s' ≡ drop (n + 1) s
      next = sym (drop-drop 1 n s') ∙ ap (drop 1) p.kept ∙ drop-drop 1 n s

  -- the text is not of the form
  pub reads-bad : (s'' : List ℕ) → Reads all None s s' n → Stored all s s'' None
  unfolding onto
  reads-bad s'' p = subst (λ o. Stored o s s'' None) p.same tt

  -- there is no room
  pub reads-full : (s'' : List ℕ) (x : ℕ) (o : Option (List ℕ)) → Reads all (both (Some x) o) s s' n → length s' ≤ n → Stored all s s'' None
  unfolding both onto
  reads-full s'' x o p h = subst (λ u. Stored u s s'' None) p.same (go o)
    where
      m : length (take n s') ≡ n
      m = length-take-le n s' (omega (arith, p.long, p.upto))

      go : (u : Option (List ℕ)) → Stored (onto (take n s') (onto (x ∷ []) u)) s s'' None
      go None = tt
      go (Some ys) = omega (arith, length-append (take n s') (x ∷ ys), m, p.long)

  pub reads_all : Reads all (Some []) s s' n → Stored all s s' (Some n)
  unfolding onto
  reads_all p =
      subst (λ o. Stored o s s' (Some n)) (ap Some (sym (append-nil (take n s'))) ∙ p.same)
      (sym (length-take-le n s' (omega (arith, p.long, p.upto))), sym (take-append-drop n s') ∙ ap (take n s' ++◌) p.kept)

-- ── `-` ─────────────────────────────────────────────────────────────────────────────────────

dash-is : (xs : List ℕ) → xs ≡ 45 ∷ [] → dash xs ≡ true
unfolding dash
dash-is xs e = ap dash e

dash-not : (xs : List ℕ) → (xs ≡ 45 ∷ [] → ⊥) → dash xs ≡ false
unfolding dash
dash-not [] h = refl
dash-not (x ∷ []) h = go (eqb x 45) refl
  where
    go : (t : Bool) → eqb x 45 ≡ t → eqb x 45 ≡ false
    go true e = absurd (h (ap (◌∷ []) (eqb-true x 45 e)))
    go false e = e
dash-not (x ∷ y ∷ xs) h = refl

-- ── lists ───────────────────────────────────────────────────────────────────────────────────

pub list-dash : (xs : List ℕ) (s : List ℕ) → xs ≡ 45 ∷ [] → Stored (list_of xs) s s (Some 0)
unfolding list_of
list-dash xs s e = subst (λ o. Stored o s s (Some 0)) (ap (λ t. cond t (Some []) (shorts (pieces 44 xs))) (sym (dash-is xs e))) (refl, refl)

-- n pieces are read
abbrev pub Listed : (text s s' : List ℕ) (n : ℕ) → Type 0
Listed text s s' n = Reads (list_of text) (shorts (drop n (pieces 44 text))) s s' n

pub listed-none : (text s : List ℕ) → (text ≡ 45 ∷ [] → ⊥) → Listed text s s 0
unfolding list_of
listed-none text s h = reads_as (reads_none (list_of text) s) (ap (λ t. cond t (Some []) (shorts (pieces 44 text))) (dash-not text h))

module _ (text s s' : List ℕ) (n : ℕ) (p : Listed text s s' n) where
  pub listed-end : n ≡ length (pieces 44 text) → Stored (list_of text) s s' (Some n)
  unfolding shorts
  listed-end h = reads_all (reads_as p (ap shorts (drop_of_length-le (pieces 44 text) (omega arith))))

  -- the piece that is read next
  module _ (piece : List ℕ) (h : n < length (pieces 44 text)) (e : piece ≡ get_or (pieces 44 text) n piece) where
    piece_left : shorts (drop n (pieces 44 text)) ≡ both (short_of piece) (shorts (drop (n + 1) (pieces 44 text)))
    unfolding shorts
    piece_left =
        ap shorts (drop-cons (pieces 44 text) n piece h)
        ∙ ap₂ (λ q j. both (short_of q) (shorts (drop j (pieces 44 text)))) (sym e) (sym (add-one n))

    pub listed-bad : (s'' : List ℕ) → None ≡ short_of piece → Stored (list_of text) s s'' None
    unfolding both
    listed-bad s'' g = reads-bad s'' (reads_as p (piece_left ∙ ap (λ o. both o (shorts (drop (n + 1) (pieces 44 text)))) (sym g)))

    module _ (x : ℕ) (g : Some x ≡ short_of piece) where
      listed_at : Reads (list_of text) (both (Some x) (shorts (drop (n + 1) (pieces 44 text)))) s s' n
      listed_at = reads_as p (piece_left ∙ ap (λ o. both o (shorts (drop (n + 1) (pieces 44 text)))) (sym g))

      pub listed-full : (s'' : List ℕ) → length s' ≤ n → Stored (list_of text) s s'' None
      listed-full s'' h = reads-full s'' x (shorts (drop (n + 1) (pieces 44 text))) listed_at h

      pub listed_more : n < length s' → Listed text s (set s' n x) (n + 1)
      listed_more h = reads_more x listed_at h

-- ── bytes ───────────────────────────────────────────────────────────────────────────────────

pub bytes-dash : (xs : List ℕ) (s : List ℕ) → xs ≡ 45 ∷ [] → Stored (bytes_of xs) s s (Some 0)
unfolding bytes_of dash
bytes-dash xs s e = subst (λ ys. Stored (bytes_of ys) s s (Some 0)) (sym e) (refl, refl)

pub bytes-empty : (xs : List ℕ) (s s' : List ℕ) → length xs ≡ 0 → Stored (bytes_of xs) s s' None
unfolding bytes_of
bytes-empty [] s s' h = tt
bytes-empty (x ∷ xs) s s' h = absurd (omega arith)

abbrev pub Bytes : (text s s' : List ℕ) (n from : ℕ) → Type 0
Bytes text s s' n from = (from ≤ length text) × Reads (bytes_of text) (pairs (drop from text)) s s' n

pub bytes-none : (text s : List ℕ) → (text ≡ 45 ∷ [] → ⊥) → (length text ≡ 0 → ⊥) → Bytes text s s 0 0
unfolding bytes_of
bytes-none text s h n = (omega arith, reads_as (reads_none (bytes_of text) s) (go text h n))
  where
    go : (xs : List ℕ) → (xs ≡ 45 ∷ [] → ⊥) → (length xs ≡ 0 → ⊥) → bytes_of xs ≡ pairs xs
    go [] h n = absurd (n refl)
    go (x ∷ xs) h n = ap (λ t. cond t (Some []) (pairs (x ∷ xs))) (dash-not (x ∷ xs) h)

module _ (text s s' : List ℕ) (n from : ℕ) (p : Bytes text s s' n from) where
  pub bytes-all : length text ≤ from → Stored (bytes_of text) s s' (Some n)
  unfolding pairs
  bytes-all h = reads_all (reads_as p.1 (ap pairs (drop_of_length-le text h)))

  -- one digit is left
  pub bytes-odd : (s'' : List ℕ) → length text - from ≡ 1 → Stored (bytes_of text) s s'' None
  unfolding pairs
  bytes-odd s'' h =
      let a : from < length text = omega arith in
      let b : length text ≤ suc from = omega arith in
      reads-bad s'' (reads_as p.1 (ap pairs (drop-cons text from 0 a ∙ ap (get_or text from 0 ∷◌) (drop_of_length-le text b))))

  module _ (h : from + 1 < length text) where
    two-left : pairs (drop from text) ≡ both (byte_of (get_or text from 0) (get_or text (from + 1) 0)) (pairs (drop (from + 2) text))
    unfolding pairs
    two-left =
        let a : from < length text = omega arith in
        let b : suc from < length text = omega arith in
        let c : suc from ≡ from + 1 = omega arith in
        let d : suc (suc from) ≡ from + 2 = omega arith in
        ap pairs (drop-cons text from 0 a ∙ ap (get_or text from 0 ∷◌) (drop-cons text (suc from) 0 b))
        ∙ ap₂ (λ i j. both (byte_of (get_or text from 0) (get_or text i 0)) (pairs (drop j text))) c d

    pub bytes-bad : (s'' : List ℕ) → None ≡ byte_of (get_or text from 0) (get_or text (from + 1) 0) → Stored (bytes_of text) s s'' None
    unfolding both
    bytes-bad s'' g = reads-bad s'' (reads_as p.1 (two-left ∙ ap (λ o. both o (pairs (drop (from + 2) text))) (sym g)))

    module _ (x : ℕ) (g : Some x ≡ byte_of (get_or text from 0) (get_or text (from + 1) 0)) where
      bytes_at : Reads (bytes_of text) (both (Some x) (pairs (drop (from + 2) text))) s s' n
      bytes_at = reads_as p.1 (two-left ∙ ap (λ o. both o (pairs (drop (from + 2) text))) (sym g))

      pub bytes-full : (s'' : List ℕ) → length s' ≤ n → Stored (bytes_of text) s s'' None
      bytes-full s'' m = reads-full s'' x (pairs (drop (from + 2) text)) bytes_at m

      pub bytes-more : n < length s' → Bytes text s (set s' n x) (n + 1) (from + 2)
      bytes-more m = (omega arith, reads_more x bytes_at m)
