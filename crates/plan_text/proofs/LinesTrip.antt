-- Lines and levels: the nodes of a listing are read as they are written. Assumes nothing.
use mathlib.Core.Path.{◌≡◌, refl, sym, ap, ◌∙◌}
use mathlib.Core.List.{List, [], ◌∷◌, ◌++◌, append-nil}
use mathlib.Core.Bool.{Bool, true, false}
use mathlib.Core.Option.{Option, some}
use Prim.Native.Nat.{ℕ, suc, ◌+◌, ◌≤◌}
use native.Mathlib.Omega.{arith}
use borrow.Author.Tests.{eqb-true, eq-eqb, le-leb}
use lib.Dec.{eqb}
use lib.ListN.{length}
use Rattle.cpl.specs.Lists.{All, a[], ◌a∷◌}
use Rattle.cpl.specs.Plan.{Plan, leaf, unary, binary}
use Rattle.cpl.specs.Read.{pick}
use Rattle.cpl.specs.ReadPlan.{Head, h0, h1, h2}
use Rattle.cpl.specs.Exprs.{plan_nodes}
use Rattle.plan_text.specs.Write.{Text, ◌·◌, head_text}
use Rattle.plan_text.specs.Listing.{heads_of, indent, line_text, plan_text, listing}
use Rattle.plan_text.specs.ReadText.{eat}
use Rattle.plan_text.specs.Lines.{Lines, end, line, onto, lines_of, max_line, indented, head_at, unfiltered, version1_head, short_head_at, Formed, formed, headed, waiting, ending, or_broken, forms}
use Rattle.plan_text.proofs.HeadTrip.{head_read}
use Rattle.plan_text.proofs.Plain.{Inline, Plain, plain_then, plain_letters, plain-head, plain-indent}

-- ── lines ───────────────────────────────────────────────────────────────────────────────────

cut : (v rest : List ℕ) → All Inline v → lines_of (v ++ (10 ∷ rest)) ≡ line v (lines_of rest)
unfolding lines_of onto
cut [] rest a[] = refl
cut (c ∷ v) rest (h a∷ hs) = rw (h, cut v rest hs)

-- a text without a newline is a line
pub plain-line : {t : Text} → Plain t → (rest : List ℕ) → lines_of (t (10 ∷ rest)) ≡ line (t []) (lines_of rest)
plain-line p rest = ap lines_of (p.same (10 ∷ rest)) ∙ (cut p.letters rest p.inline ∙ ap (λ (l : List ℕ). line l (lines_of rest)) (plain_letters p))

-- a node's line with its indent, and without its newline
abbrev pub line_of : (level : ℕ) → Head → List ℕ
line_of level h = indent level (head_text h [])

pub line_letters : (level : ℕ) (h : Head) → Plain (indent level · head_text h)
line_letters level h = plain_then (plain-indent level) (plain-head h)

pub lines_line : (level : ℕ) (h : Head) (rest : List ℕ) → lines_of (line_text level h rest) ≡ line (line_of level h) (lines_of rest)
unfolding line_text
lines_line level h rest = plain-line (line_letters level h) rest

-- the text that lines come from
unfoldable pub unlines : Lines → List ℕ
unlines (end piece) = piece
unlines (line l ls) = l ++ (10 ∷ unlines ls)

onto_unlines : (c : ℕ) (ls : Lines) → unlines (onto c ls) ≡ c ∷ unlines ls
unfolding unlines onto
onto_unlines c (end piece) = refl
onto_unlines c (line l ls) = refl

pub lines_text : (s : List ℕ) → unlines (lines_of s) ≡ s
unfolding unlines lines_of
lines_text [] = refl
lines_text (c ∷ s) = go (lines_text s) (eqb c 10) refl
  where
    go : unlines (lines_of s) ≡ s → (b : Bool) → eqb c 10 ≡ b → unlines (pick b (line [] (lines_of s)) (onto c (lines_of s))) ≡ c ∷ s
    go h true e = let d = eqb-true c 10 e in cc
    go h false e = onto_unlines c (lines_of s) ∙ ap (c ∷◌) h

-- ── a line ──────────────────────────────────────────────────────────────────────────────────

pub eat-word : (w s : List ℕ) → eat w (w ++ s) ≡ some s
unfolding eat
eat-word [] s = refl
eat-word (c ∷ w) s = rw (eq-eqb c c refl, eat-word w s)

pub indent-split : (level : ℕ) (s : List ℕ) → indent level s ≡ indent level [] ++ s
indent-split level s = let p = plain-indent level in p.same s ∙ ap (λ (v : List ℕ). v ++ s) (plain_letters p)

pub head_at_lem : (level : ℕ) (h : Head) → head_at level (line_of level h) ≡ some h
unfolding head_at indented
head_at_lem level h = rw (indent-split level (head_text h []), eat-word (indent level []) (head_text h []), head_read h)

pub short_head_at_lem : (level : ℕ) (h : Head) → unfiltered h ≡ true → length (line_of level h) ≤ max_line → short_head_at level (line_of level h) ≡ some h
unfolding short_head_at version1_head
short_head_at_lem level h u l = rw (le-leb (length (line_of level h)) max_line l, head_at_lem level h, u)

-- ── back ────────────────────────────────────────────────────────────────────────────────────

-- every line of a plan, whose root is at this level, is read as its node
abbrev pub Legible : (read : ℕ → List ℕ → Option Head) (level : ℕ) → Plan → Type 0
Legible read level (leaf h) = read level (line_of level (h0 h)) ≡ some (h0 h)
Legible read level (unary h p) = (read level (line_of level (h1 h)) ≡ some (h1 h)) × Legible read (suc level) p
Legible read level (binary h p₁ p₂) = (read level (line_of level (h2 h)) ≡ some (h2 h)) × Legible read (suc level) p₁ × Legible read (suc level) p₂

pub legible : (level : ℕ) (p : Plan) → Legible head_at level p
legible level (leaf h) = head_at_lem level (h0 h)
legible level (unary h p) = (head_at_lem level (h1 h), legible (suc level) p)
legible level (binary h p₁ p₂) = (head_at_lem level (h2 h), legible (suc level) p₁, legible (suc level) p₂)

-- nodes put before those that were read
abbrev pub before : List Head → Formed → Formed
before [] f = f
before (h ∷ hs) f = headed h (before hs f)

before_++ : (hs gs : List Head) (f : Formed) → before (hs ++ gs) f ≡ before hs (before gs f)
before_++ [] gs f = refl
before_++ (h ∷ hs) gs f = ap (headed h) (before_++ hs gs f)

pub before-formed : (hs gs : List Head) → before hs (formed gs) ≡ formed (hs ++ gs)
unfolding headed
before-formed [] gs = refl
before-formed (h ∷ hs) gs = ap (headed h) (before-formed hs gs)

module _ (read : ℕ → List ℕ → Option Head) where
  -- one line, and then the others
  one : (w n : ℕ) (ws : List ℕ) (h : Head) (rest : List ℕ) → read w (line_of w h) ≡ some h →
      forms read (w ∷ ws) n (lines_of (line_text w h rest)) ≡ headed h (forms read (waiting w h ws) (suc n) (lines_of rest))
  unfolding forms or_broken
  one w n ws h rest e = rw (lines_line w h rest, e)

  pub forms-plan : (p : Plan) (w n : ℕ) (ws rest : List ℕ) → Legible read w p →
      forms read (w ∷ ws) n (lines_of (plan_text w p rest)) ≡ before (heads_of p) (forms read ws (n + plan_nodes p) (lines_of rest))
  unfolding plan_text heads_of plan_nodes waiting
  forms-plan (leaf h) w n ws rest l = one w n ws (h0 h) rest l ∙ ap (λ (k : ℕ). headed (h0 h) (forms read ws k (lines_of rest))) (omega arith)
  forms-plan (unary h p) w n ws rest l =
      one w n ws (h1 h) (plan_text (suc w) p rest) l.0
      ∙ ap (headed (h1 h)) (forms-plan p (suc w) (suc n) ws rest l.1 ∙ ap (λ (k : ℕ). before (heads_of p) (forms read ws k (lines_of rest))) (omega arith))
  forms-plan (binary h p₁ p₂) w n ws rest l =
      one w n ws (h2 h) (plan_text (suc w) p₁ (plan_text (suc w) p₂ rest)) l.0
      ∙ ap (headed (h2 h))
      (forms-plan p₁ (suc w) (suc n) (suc w ∷ ws) (plan_text (suc w) p₂ rest) l.1
      ∙ (ap (before (heads_of p₁)) (forms-plan p₂ (suc w) (suc n + plan_nodes p₁) ws rest l.2)
      ∙ (sym (before_++ (heads_of p₁) (heads_of p₂) (forms read ws (suc n + plan_nodes p₁ + plan_nodes p₂) (lines_of rest)))
      ∙ ap (λ (k : ℕ). before (heads_of p₁ ++ heads_of p₂) (forms read ws k (lines_of rest))) (omega arith))))

  -- the nodes of a listing
  pub forms-listing : (p : Plan) → Legible read 0 p → forms read (0 ∷ []) 1 (lines_of (listing p)) ≡ formed (heads_of p)
  unfolding listing forms ending lines_of
  forms-listing p l = forms-plan p 0 1 [] [] l ∙ (before-formed (heads_of p) [] ∙ ap formed (append-nil (heads_of p)))
