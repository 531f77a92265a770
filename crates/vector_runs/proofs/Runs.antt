-- What a buffer holds, by its front and by what is behind it. Assumes nothing.
use mathlib.Core.Bool.{true≢false}
use borrow.Author.Tests.{ltb-false, ltb-true}
use lib.Dec.{ltb}
use mathlib.Core.List.{map, ◌++◌}
use lib.ListN.{replicate}
use Rattle.std.proofs.Common.{◌≡◌, ◌≢◌, ◌+◌, ◌-◌, ◌<◌, ◌≤◌, ℕ, List, Bool, true, false, MatchBool, inl, inr, sym, refl, ap, subst, ◌∙◌, arith, length, get_or, take, drop, length-append, length-drop}
use Rattle.std.proofs.lemmas.List.{ext_get_or, get_or-append_right, get_or-drop, get_or-map, get_or-replicate, get_or-take, get_or_append_left, length-map, length-replicate, length-take-le}
use Rattle.std.specs.Bool.{Decides}
use Rattle.std.proofs.lemmas.Slice.Zip.{get_or-zip, length-zip}
use Rattle.std.specs.List.{AllWithin, HoldsAt, zip}
use Rattle.vector_runs.specs.Runs.{Holds, Misses}

module _ (gives : ℕ → ℕ → Type 0) (out text : List ℕ) where
  -- the pairs of the buffer's front and the text
  abbrev pub pairs : List (ℕ × ℕ)
  pairs = zip (take (length text) out) text

  -- a byte of the buffer is what a byte of the text stands as; or it is not
  abbrev pub Same : ℕ × ℕ → Type 0
  Same p = gives p.1 p.0

  abbrev pub Other : ℕ × ℕ → Type 0
  Other p = (y : ℕ) × (y < 256) × gives p.1 y × (p.0 ≢ y)

  -- the bytes behind the text
  abbrev pub rest : List ℕ
  rest = drop (length text) out

  module _ (room : length text ≤ length out) where
    long : length pairs ≡ length text
    long = omega (arith, length-zip (take (length text) out) text, length-take-le (length text) out room)

    at : (k : ℕ) → k < length text → get_or pairs k (0, 0) ≡ (get_or out k 0, get_or text k 0)
    at k h =
        get_or-zip (take (length text) out) text k (0, 0) (omega (arith, length-take-le (length text) out room)) h
        ∙ ap (λ x. (x, get_or text k 0)) (get_or-take (length text) out k 0 h)

    behind : (k : ℕ) → length text ≤ k → get_or rest (k - length text) 0 ≡ get_or out k 0
    behind k h = get_or-drop (length text) out (k - length text) 0 ∙ ap (λ j. get_or out j 0) (omega arith)

    -- some byte of the front is another
    pub front_missed : (k : ℕ) × (k < length pairs) × HoldsAt Other pairs k → Misses gives out text
    front_missed (k, h, p) =
        let l : k < length text = omega (arith, long) in
        let q : Other (get_or out k 0, get_or text k 0) = subst Other (at k l) (p (0, 0)) in
        inr (inl (k, l, q.0, q.1, q.2, q.3))

    -- where the front is the text, the bytes behind it say which
    pub by_rest : AllWithin Same pairs 0 (length pairs) → (b : Bool)
        → MatchBool b (AllWithin (λ x. x ≡ 165) rest 0 (length rest)) ((k : ℕ) × (k < length rest) × HoldsAt (λ x. x ≢ 165) rest k)
        → MatchBool b (Holds gives out text) (Misses gives out text)
    by_rest f true e = (
      room,
      λ k h. subst Same (at k h) (f k (0, 0) (omega arith) (omega (arith, long))),
      λ k h m. subst (λ x. x ≡ 165) (behind k h) (e (k - length text) 0 (omega arith) (omega (arith, length-drop (length text) out))),
    )
    by_rest f false (k, h, p) =
        let l : length text + k < length out = omega (arith, length-drop (length text) out) in
        inr (inr (length text + k, omega arith, l, subst (λ x. x ≢ 165) (get_or-drop (length text) out k 0) (p 0)))

-- ── what is so where each byte stands in one way ────────────────────────────────────────────

-- the text by f, and behind it 165 up to the end of the buffer
abbrev pub filled : (f : ℕ → ℕ) (out text : List ℕ) → List ℕ
filled f out text = map f text ++ replicate (length out - length text) 165

module _ (f : ℕ → ℕ) (out text : List ℕ) where
  filled_front : (k : ℕ) → k < length text → get_or (filled f out text) k 0 ≡ f (get_or text k 0)
  filled_front k h =
      get_or_append_left (map f text) (replicate (length out - length text) 165) 0 k (omega (arith, length-map text f)) ∙ get_or-map f text k 0 0 h

  filled_rest : (k : ℕ) → length text ≤ k → k < length out → get_or (filled f out text) k 0 ≡ 165
  filled_rest k h m =
      get_or-append_right (map f text) (replicate (length out - length text) 165) (length text) k 0 (length-map text f) h
      ∙ get_or-replicate (length out - length text) (k - length text) 165 0 (omega arith)

  filled_long : length (filled f out text) ≡ length text + (length out - length text)
  filled_long =
      omega (
        arith,
        length-append (map f text) (replicate (length out - length text) 165),
        length-map text f,
        length-replicate {A = ℕ} (length out - length text) 165,
      )

  -- `holds` and `judge` over a closure that answers f: the buffer is asked for as a whole, and their answer is determined
  module _ (gives : ℕ → ℕ → Type 0) (is : (b y : ℕ) → b < 256 → y < 256 → gives b y → y ≡ f b)
      (small : (k : ℕ) → get_or text k 0 < 256) (small' : (k : ℕ) → get_or out k 0 < 256) where
    pub holds-is : Holds gives out text → out ≡ filled f out text
    holds-is (room, front, behind) = ext_get_or 0 out (filled f out text) (omega (arith, filled_long)) (λ k h. go k h (ltb k (length text)) refl)
      where
        go : (k : ℕ) → k < length out → (t : Bool) → ltb k (length text) ≡ t → get_or out k 0 ≡ get_or (filled f out text) k 0
        go k h true e =
            let l : k < length text = ltb-true k (length text) e in
            is _ _ (small k) (small' k) (front k l) ∙ sym (filled_front k l)
        go k h false e =
            let l : length text ≤ k = ltb-false k (length text) e in
            behind k l h ∙ sym (filled_rest k l h)

    pub misses-not : Misses gives out text → out ≢ filled f out text
    misses-not (inl short) e = absurd (omega (arith, filled_long, ap length e))
    misses-not (inr (inl (k, l, y, m, p, n))) e = n (ap (λ xs. get_or xs k 0) e ∙ filled_front k l ∙ sym (is _ _ (small k) m p))
    misses-not (inr (inr (k, l, h, n))) e = n (ap (λ xs. get_or xs k 0) e ∙ filled_rest k l h)

    pub holds_decides : (r : Bool) → MatchBool r (Holds gives out text) (Misses gives out text) → Decides r (out ≡ filled f out text)
    holds_decides true p = (λ e. holds-is p, λ e. refl)
    holds_decides false p = (λ e. absurd (true≢false (sym e)), λ e. absurd (misses-not p e))
