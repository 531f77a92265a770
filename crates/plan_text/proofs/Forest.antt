-- Lines that are read as nodes are the lines of plans: one for each level that waited. Assumes nothing.
use mathlib.Core.Path.{◌≡◌, refl, sym, ap, ◌∙◌}
use mathlib.Core.List.{List, [], ◌∷◌, ◌++◌, append_assoc, append-nil}
use mathlib.Core.Bool.{Bool, true, false}
use mathlib.Core.Option.{Option, none, some}
use Prim.Native.Nat.{ℕ, suc, ◌≤◌}
use native.Mathlib.Omega.{arith}
use borrow.Author.Tests.{leb-true}
use lib.Dec.{leb}
use lib.ListN.{length}
use Rattle.cpl.specs.Lists.{All}
use Rattle.cpl.specs.Plan.{Plan, leaf, unary, binary}
use Rattle.cpl.specs.Read.{pick}
use Rattle.cpl.specs.ReadPlan.{Head, h0, h1, h2}
use Rattle.plan_text.specs.Write.{head_text}
use Rattle.plan_text.specs.Listing.{heads_of, indent, line_text, plan_text, listing}
use Rattle.plan_text.specs.ReadText.{eat}
use Rattle.plan_text.specs.Lines.{Lines, end, line, lines_of, max_line, Short, indented, head_at, unfiltered, version1_head, short_head_at, Formed, formed, broken, headed, waiting, ending, or_broken, forms}
use Rattle.plan_text.proofs.Laws.{eat_forth}
use Rattle.plan_text.proofs.Named.{NamedHead}
use Rattle.plan_text.proofs.HeadTrip.{head_was}
use Rattle.plan_text.proofs.Plain.{plain_letters}
use Rattle.plan_text.proofs.ListTrip.{all_both}
use Rattle.plan_text.proofs.LinesTrip.{line_of, line_letters, indent-split, unlines, lines_text}

-- a plan for each level
data Forest : List ℕ → Type 0 where
  f[] : Forest []
  ◌f∷◌ : {w : ℕ} {ws : List ℕ} → Plan → Forest ws → Forest (w ∷ ws)

infixr 30 ◌f∷◌
forest_heads : {ws : List ℕ} → Forest ws → List Head
forest_heads f[] = []
forest_heads (p f∷ f) = heads_of p ++ forest_heads f

forest_text : {ws : List ℕ} → Forest ws → List ℕ
forest_text f[] = []
forest_text (◌f∷◌ {w = w} p f) = plan_text w p (forest_text f)

-- a node takes its inputs
grow : (w : ℕ) (ws : List ℕ) (h : Head) → Forest (waiting w h ws) → Forest (w ∷ ws)
unfolding waiting
grow w ws (h0 a) f = leaf a f∷ f
grow w ws (h1 a) (p f∷ f) = unary a p f∷ f
grow w ws (h2 a) (p f∷ (q f∷ f)) = binary a p q f∷ f

grow_heads : (w : ℕ) (ws : List ℕ) (h : Head) (f : Forest (waiting w h ws)) → forest_heads (grow w ws h f) ≡ h ∷ forest_heads f
unfolding waiting grow forest_heads heads_of
grow_heads w ws (h0 a) f = refl
grow_heads w ws (h1 a) (p f∷ f) = refl
grow_heads w ws (h2 a) (p f∷ (q f∷ f)) = ap (h2 a ∷◌) (append_assoc (heads_of p) (heads_of q) (forest_heads f))

grow_text : (w : ℕ) (ws : List ℕ) (h : Head) (f : Forest (waiting w h ws)) → forest_text (grow w ws h f) ≡ line_text w h (forest_text f)
unfolding waiting grow forest_text plan_text
grow_text w ws (h0 a) f = refl
grow_text w ws (h1 a) (p f∷ f) = refl
grow_text w ws (h2 a) (p f∷ (q f∷ f)) = refl

-- ── a line ──────────────────────────────────────────────────────────────────────────────────

-- a line that is read as a node is short, and the node's line if no pair is the one for `q0.c1`
short_was : (w : ℕ) (l : List ℕ) (h : Head) → short_head_at w l ≡ some h → (length l ≤ max_line) × (NamedHead h → l ≡ line_of w h)
unfolding short_head_at head_at indented version1_head
short_was w l h e = go (leb (length l) max_line) refl e
  where
    form : (o : Option (List ℕ)) → eat (indent w []) l ≡ o → indented o ≡ some h → NamedHead h → l ≡ line_of w h
    form none f g good = cc
    form (some s) f g good =
        eat_forth (indent w []) l s f ∙ (ap (λ (u : List ℕ). indent w [] ++ u) (head_was s h g good) ∙ sym (indent-split w (head_text h [])))

    old : (o : Option Head) → head_at w l ≡ o → version1_head o ≡ some h → head_at w l ≡ some h
    old none f g = cc
    old (some k) f g = pass (unfiltered k) g
      where
        pass : (b : Bool) → pick b (some k) none ≡ some h → head_at w l ≡ some h
        pass true g = f ∙ g
        pass false g = cc

    go : (b : Bool) → leb (length l) max_line ≡ b → pick b (version1_head (head_at w l)) none ≡ some h → (length l ≤ max_line) × (NamedHead h → l ≡ line_of w h)
    go true f g = (leb-true (length l) max_line f, form (eat (indent w []) l) refl (old (head_at w l) refl g))
    go false f g = absurd (let z : ◌≡◌ {A = ℕ} 0 1 = cc in omega arith)

line-text : (w : ℕ) (h : Head) (rest : List ℕ) → line_of w h ++ (10 ∷ rest) ≡ line_text w h rest
unfolding line_text
line-text w h rest = let p = line_letters w h in ap (λ (v : List ℕ). v ++ (10 ∷ rest)) (sym (plain_letters p)) ∙ sym (p.same (10 ∷ rest))

-- ── all lines ───────────────────────────────────────────────────────────────────────────────

record Grown (ws : List ℕ) (hs : List Head) (ls : Lines) : Type 0 where
  forest : Forest ws
  heads : forest_heads forest ≡ hs
  text : All NamedHead hs → unlines ls ≡ forest_text forest
  short : Short ls

grown : (w : ℕ) (ws : List ℕ) (h : Head) (hs : List Head) (l : List ℕ) (ls : Lines) → short_head_at w l ≡ some h → Grown (waiting w h ws) hs ls →
    Grown (w ∷ ws) (h ∷ hs) (line l ls)
unfolding unlines
grown w ws h hs l ls e g =
    let s = short_was w l h e in
    record {
      forest = grow w ws h g.forest;
      heads = grow_heads w ws h g.forest ∙ ap (h ∷◌) g.heads;
      text =
          λ good.
          let k = all_both good in
          ap (λ (v : List ℕ). v ++ (10 ∷ unlines ls)) (s.1 k.0)
          ∙ (line-text w h (unlines ls) ∙ (ap (line_text w h) (g.text k.1) ∙ sym (grow_text w ws h g.forest)));
      short = (s.0, g.short);
    }

impossible : {A : Type 0} (n : ℕ) (hs : List Head) → broken n ≡ formed hs → A
impossible n hs e = absurd (let z : ◌≡◌ {A = ℕ} 0 1 = cc in omega arith)

ended : (ws : List ℕ) (n : ℕ) (piece : List ℕ) (hs : List Head) → ending ws n piece ≡ formed hs → Grown ws hs (end piece)
unfolding ending unlines forest_heads forest_text
ended [] n [] hs e = record { forest = f[]; heads = cc; text = λ good. refl; short = tt }
ended [] n (c ∷ piece) hs e = impossible n hs e
ended (w ∷ ws) n piece hs e = impossible n hs e

forms_was : (ls : Lines) (ws : List ℕ) (n : ℕ) (hs : List Head) → forms short_head_at ws n ls ≡ formed hs → Grown ws hs ls
unfolding forms or_broken headed
forms_was (end piece) ws n hs e = ended ws n piece hs e
forms_was (line l ls) [] n hs e = impossible n hs e
forms_was (line l ls) (w ∷ ws) n hs e = go (λ h gs f. forms_was ls (waiting w h ws) (suc n) gs f) (short_head_at w l) refl e
  where
    rest : Head → Formed
    rest h = forms short_head_at (waiting w h ws) (suc n) ls

    one : (h : Head) → short_head_at w l ≡ some h → ((gs : List Head) → rest h ≡ formed gs → Grown (waiting w h ws) gs ls) →
        (f : Formed) → rest h ≡ f → headed h f ≡ formed hs → Grown (w ∷ ws) hs (line l ls)
    one h r self (formed gs) f e = let same : h ∷ gs ≡ hs = cc in rw (← same) (grown w ws h gs l ls r (self gs f))
    one h r self (broken m) f e = impossible m hs e

    go : ((h : Head) (gs : List Head) → rest h ≡ formed gs → Grown (waiting w h ws) gs ls) → (o : Option Head) → short_head_at w l ≡ o →
        or_broken n o rest ≡ formed hs → Grown (w ∷ ws) hs (line l ls)
    go self none r e = impossible n hs e
    go self (some h) r e = one h r (self h) (rest h) refl e

-- a text that is read as nodes is the listing of one plan, if no pair is the one for `q0.c1`
pub record Planned (text : List ℕ) (hs : List Head) : Type 0 where
  pub plan : Plan
  pub heads : heads_of plan ≡ hs
  pub same : All NamedHead hs → text ≡ listing plan
  pub short : Short (lines_of text)

root : (text : List ℕ) (hs : List Head) (f : Forest (0 ∷ [])) → forest_heads f ≡ hs → (All NamedHead hs → unlines (lines_of text) ≡ forest_text f) →
    Short (lines_of text) → Planned text hs
unfolding forest_heads forest_text listing
root text hs (p f∷ f[]) e g s =
    record { plan = p; heads = sym (append-nil (heads_of p)) ∙ e; same = λ good. sym (lines_text text) ∙ g good; short = s }

pub plan_was : (text : List ℕ) (hs : List Head) → forms short_head_at (0 ∷ []) 1 (lines_of text) ≡ formed hs → Planned text hs
plan_was text hs e =
    let g = forms_was (lines_of text) (0 ∷ []) 1 hs e in
    root text hs g.forest g.heads g.text g.short
