-- The same of a whole plan, and of a file. Assumes nothing.
use mathlib.Core.Path.{◌≡◌, refl, sym, ap, subst, ◌∙◌}
use mathlib.Core.Logic.{◌⊎◌, inl, inr, ⊎_elim}
use mathlib.Core.List.{List, [], ◌∷◌, ◌++◌, append_assoc, append-nil}
use mathlib.Core.Bool.{Bool, true, false}
use mathlib.Core.Option.{some}
use Prim.Native.Nat.{ℕ, zero, suc, ◌+◌, ◌≤◌}
use native.Mathlib.Omega.{arith}
use borrow.Author.Tests.{ltb-true, ltb-false, le-leb, lt-leb}
use lib.Dec.{ltb, leb}
use lib.ListN.{length, length-append}
use Rattle.cpl.specs.Lists.{All}
use Rattle.cpl.specs.Limits.{Version, IsVersion, is_1, is_2, max_nodes, max_tags}
use Rattle.cpl.specs.Codes.{MANY}
use Rattle.cpl.specs.Plan.{Plan, leaf, unary, binary, Catalogue}
use Rattle.cpl.specs.Exprs.{plan_nodes}
use Rattle.cpl.specs.Accept.{fault}
use Rattle.cpl.specs.Bytes.{plan_bytes, catalogue_bytes, bytes_of}
use Rattle.cpl.specs.Read.{Res, ok, bad, Reader, and_then, ◌>>=◌, pick, node_tag}
use Rattle.cpl.specs.ReadPlan.{Head, h0, h1, h2, read_head, read_inputs, plan_to, mark_bytes, starts, read_mark, read_catalogue, read_source, read_file}
use Rattle.cpl.specs.Writable.{FitCatalogue}
use Rattle.cpl.proofs.Lists.{All_left, All_right}
use Rattle.cpl.proofs.Stands.{Stands, stands_self, stands_first, stands_rest}
use Rattle.cpl.proofs.Codec.{same_ok}
use Rattle.cpl.proofs.CatalogueTrip.{catalogue_codec}
use Rattle.cpl.proofs.HeadTrip.{head_bytes, head_tag, head_rest, head_bytes_lem}
use Rattle.plan_text.specs.Listing.{heads_of}
use Rattle.plan_text.specs.Sizes.{Weighed, fine, unmet, weigh, head_asks, or_fault, size_fault}
use Rattle.plan_text.proofs.ListTrip.{all_both}
use Rattle.plan_text.proofs.SizesTrip.{fine_met}
use Rattle.plan_text.proofs.Judged.{Agrees}
use Rattle.plan_text.proofs.SameCode.{SpeltHead, head-judged}

-- ── a node ──────────────────────────────────────────────────────────────────────────────────

-- read, with t' tags: the faults of size are those of the nodes that follow
record Read {A : Type 0} (C : Catalogue) (a : A) (size nodes : ℕ) (hs gs : List Head) (at t n : ℕ) (r : Res A) : Type 0 where
  tags : ℕ
  reads : r ≡ ok a (at + size) tags (n + nodes)
  few_tags : tags ≤ max_tags
  few_nodes : n + nodes ≤ max_nodes
  later : size_fault C (suc n) t hs ≡ size_fault C (suc (n + nodes)) tags gs

-- refused: with the code of the first fault of size
record Refused {A : Type 0} (C : Catalogue) (hs : List Head) (t n : ℕ) (r : Res A) : Type 0 where
  code : ℕ
  place : ℕ
  number : ℕ
  refuses : r ≡ bad code place
  sized : size_fault C (suc n) t hs ≡ some (fault code number)

abbrev Either : {A : Type 0} (C : Catalogue) (a : A) (size nodes : ℕ) (hs gs : List Head) (at t n : ℕ) → Res A → Type 0
Either C a size nodes hs gs at t n r = Read C a size nodes hs gs at t n r ⊎ Refused C hs t n r

node : (C : Catalogue) (h : Head) → SpeltHead C.version h → (gs : List Head) (file : List ℕ) (at t n : ℕ) → Stands file at (head_bytes C.version h) → t ≤ max_tags → n ≤ max_nodes →
    Either C h (length (head_bytes C.version h)) 1 (h ∷ gs) gs at t n ((node_tag >>= λ x. read_head C at x) file at t n)
unfolding node_tag size_fault or_fault weigh
node C h spelt gs file at t n s l m =
    let b = head_bytes_lem C.version h in
    let s' : Stands file at (head_tag C.version h ∷ head_rest C.version h) = subst (λ (bs : List ℕ). Stands file at bs) (sym b.1) s in
    let size : length (head_bytes C.version h) ≡ suc (length (head_rest C.version h)) = ap length (sym b.1) in
    rw (le-leb (at + 1) (length file) (omega (arith, s'.0)), s'.1) (room size s' (ltb n max_nodes) refl)
  where
    room : length (head_bytes C.version h) ≡ suc (length (head_rest C.version h)) → Stands file at (head_tag C.version h ∷ head_rest C.version h) → (b : Bool) → ltb n max_nodes ≡ b →
        Either C h (length (head_bytes C.version h)) 1 (h ∷ gs) gs at t n (and_then (pick b (ok (head_tag C.version h) (at + 1) t (n + 1)) (bad MANY at)) (λ x at' t' n'. read_head C at x file at' t' n'))
    room size s' true e = rest (weigh t (head_asks C h)) refl (read_head C at (head_tag C.version h) file (at + 1) t (n + 1)) ((head-judged C at h spelt).judges file (at + 1) t (n + 1) s'.2 (omega arith) l (omega (arith, ltb-true n max_nodes e)))
      where
        fits : leb (suc n) max_nodes ≡ true
        fits = le-leb (suc n) max_nodes (ltb-true n max_nodes e)

        rest : (w : Weighed) → weigh t (head_asks C h) ≡ w → (r : Res Head) → Agrees h (at + 1 + length (head_rest C.version h)) (n + 1) w r → Either C h (length (head_bytes C.version h)) 1 (h ∷ gs) gs at t n r
        rest (fine t') f r a =
            inl record {
              tags = t';
              reads = a ∙ same_ok h (omega arith) refl refl;
              few_tags = (fine_met (head_asks C h) t t' l f).within;
              few_nodes = omega (arith, ltb-true n max_nodes e);
              later = rw (fits, f) (ap (λ (k : ℕ). size_fault C k t' gs) (omega arith));
            }
        rest (unmet code) f r a = inr record { code = code; place = a.0; number = suc n; refuses = a.1; sized = rw (fits, f) }
    room size s' false e =
        inr record { code = MANY; place = at; number = suc n; refuses = refl; sized = rw (lt-leb (suc n) max_nodes (omega (arith, ltb-false n max_nodes e))) }

-- ── one after the other ─────────────────────────────────────────────────────────────────────

module _ (C : Catalogue) where
  given : {A : Type 0} (a : A) (gs : List Head) (at t n : ℕ) → t ≤ max_tags → n ≤ max_nodes → Either C a 0 0 gs gs at t n (ok a at t n)
  given a gs at t n l m =
      inl record { tags = t; reads = same_ok a (omega arith) refl (omega arith); few_tags = l; few_nodes = omega arith; later = ap (λ (k : ℕ). size_fault C (suc k) t gs) (omega arith) }

  combine : {A B : Type 0} {a : A} {b : B} (size nodes size' nodes' : ℕ) (hs ms gs : List Head) (at t n : ℕ) (r : Res A) (k : A → ℕ → ℕ → ℕ → Res B) → Either C a size nodes hs ms at t n r →
      ((t' : ℕ) → t' ≤ max_tags → n + nodes ≤ max_nodes → Either C b size' nodes' ms gs (at + size) t' (n + nodes) (k a (at + size) t' (n + nodes))) →
      Either C b (size + size') (nodes + nodes') hs gs at t n (and_then r k)
  combine {a = a} {b} size nodes size' nodes' hs ms gs at t n r k (inl x) f =
      ⊎_elim
      (λ y.
      inl record {
        tags = y.tags;
        reads = ap (λ (q : Res _). and_then q k) x.reads ∙ (y.reads ∙ same_ok b (omega arith) refl (omega arith));
        few_tags = y.few_tags;
        few_nodes = omega (arith, y.few_nodes);
        later = x.later ∙ (y.later ∙ ap (λ (i : ℕ). size_fault C (suc i) y.tags gs) (omega arith));
      })
      (λ z. inr record { code = z.code; place = z.place; number = z.number; refuses = ap (λ (q : Res _). and_then q k) x.reads ∙ z.refuses; sized = x.later ∙ z.sized })
      (f x.tags x.few_tags x.few_nodes)
  combine size nodes size' nodes' hs ms gs at t n r k (inr z) f =
      inr record { code = z.code; place = z.place; number = z.number; refuses = ap (λ (q : Res _). and_then q k) z.refuses; sized = z.sized }

  -- the same, with what was read put into f
  put : {A B : Type 0} {a : A} (f : A → B) (size nodes : ℕ) (hs gs : List Head) (at t n : ℕ) (r : Res A) → Either C a size nodes hs gs at t n r →
      Either C (f a) size nodes hs gs at t n (and_then r λ x at' t' n'. ok (f x) at' t' n')
  put {a = a} f size nodes hs gs at t n r (inl x) =
      inl record { tags = x.tags; reads = ap (λ (q : Res _). and_then q λ y at' t' n'. ok (f y) at' t' n') x.reads; few_tags = x.few_tags; few_nodes = x.few_nodes; later = x.later }
  put f size nodes hs gs at t n r (inr z) =
      inr record { code = z.code; place = z.place; number = z.number; refuses = ap (λ (q : Res _). and_then q λ y at' t' n'. ok (f y) at' t' n') z.refuses; sized = z.sized }

  sizes : {A : Type 0} {a : A} {size size' nodes nodes' : ℕ} {hs hs' gs : List Head} (at t n : ℕ) (r : Res A) → size ≡ size' → nodes ≡ nodes' → hs ≡ hs' →
      Either C a size nodes hs gs at t n r → Either C a size' nodes' hs' gs at t n r
  sizes at t n r e f g x = rw (← e, ← f, ← g) x

  grouped : {A B D : Type 0} (r : Res A) (f : A → ℕ → ℕ → ℕ → Res B) (k : B → ℕ → ℕ → ℕ → Res D) → and_then (and_then r f) k ≡ and_then r λ a at t n. and_then (f a at t n) k
  grouped (ok a at t n) f k = refl
  grouped (bad code place) f k = refl

  -- ── plans ───────────────────────────────────────────────────────────────────────────────────

  -- a node, and then its inputs
  from-node : (h : Head) → SpeltHead C.version h → (b : Plan) (size nodes : ℕ) (ms gs : List Head) (file : List ℕ) (at t n : ℕ) → Stands file at (head_bytes C.version h) → t ≤ max_tags → n ≤ max_nodes → (self : Reader Plan) →
      ((t' : ℕ) → t' ≤ max_tags → n + 1 ≤ max_nodes →
      Either C b size nodes ms gs (at + length (head_bytes C.version h)) t' (n + 1) (read_inputs self h file (at + length (head_bytes C.version h)) t' (n + 1))) →
      Either C b (length (head_bytes C.version h) + size) (1 + nodes) (h ∷ ms) gs at t n ((node_tag >>= λ x. read_head C at x >>= λ k. read_inputs self k) file at t n)
  from-node h spelt b size nodes ms gs file at t n s l m self f =
      subst (λ (r : Res Plan). Either C b (length (head_bytes C.version h) + size) (1 + nodes) (h ∷ ms) gs at t n r)
      (grouped (node_tag file at t n) (λ x at' t' n'. read_head C at x file at' t' n') (λ k at' t' n'. read_inputs self k file at' t' n'))
      (combine (length (head_bytes C.version h)) 1 size nodes (h ∷ ms) ms gs at t n ((node_tag >>= λ x. read_head C at x) file at t n) (λ k at' t' n'. read_inputs self k file at' t' n')
      (node C h spelt ms file at t n s l m) f)

  plan : (deep : ℕ) (p : Plan) → All (SpeltHead C.version) (heads_of p) → (gs : List Head) (file : List ℕ) (at t n : ℕ) → Stands file at (plan_bytes C.version p) → suc max_nodes ≤ n + deep → t ≤ max_tags → n ≤ max_nodes →
      Either C p (length (plan_bytes C.version p)) (plan_nodes p) (heads_of p ++ gs) gs at t n (plan_to C deep file at t n)
  unfolding plan_to read_inputs heads_of plan_bytes plan_nodes
  plan zero p a gs file at t n s d l m = absurd (omega arith)
  plan (suc deep) (leaf h) a gs file at t n s d l m =
      sizes at t n _ (omega arith) (omega arith) refl
      (from-node (h0 h) (all_both a).0 (leaf h) 0 0 gs gs file at t n s l m (λ file at tags nodes. plan_to C deep file at tags nodes) λ t' l' m'. given (leaf h) gs _ t' (n + 1) l' m')
  plan (suc deep) (unary h p) a gs file at t n s d l m =
      let k = all_both a in
      let hb = head_bytes C.version (h1 h) in
      sizes at t n _ (sym (length-append hb (plan_bytes C.version p))) (omega arith) refl
      (from-node (h1 h) k.0 (unary h p) (length (plan_bytes C.version p)) (plan_nodes p) (heads_of p ++ gs) gs file at t n (stands_first file hb (plan_bytes C.version p) at s) l m (λ file at tags nodes. plan_to C deep file at tags nodes)
      λ t' l' m'.
      put (unary h) _ _ (heads_of p ++ gs) gs _ t' (n + 1) _ (plan deep p k.1 gs file (at + length hb) t' (n + 1) (stands_rest file hb (plan_bytes C.version p) at s) (omega arith) l' m'))
  plan (suc deep) (binary h p₁ p₂) a gs file at t n s d l m =
      let k = all_both a in
      let hb = head_bytes C.version (h2 h) in
      let bs = plan_bytes C.version p₁ ++ plan_bytes C.version p₂ in
      let at₁ = at + length hb in
      let s₁ = stands_rest file hb bs at s in
      let ms = heads_of p₂ ++ gs in
      sizes at t n _ (sym (length-append hb bs ∙ ap (length hb +◌) (length-append (plan_bytes C.version p₁) (plan_bytes C.version p₂)))) (omega arith) (ap (h2 h ∷◌) (sym (append_assoc (heads_of p₁) (heads_of p₂) gs)))
      (from-node (h2 h) k.0 (binary h p₁ p₂) (length (plan_bytes C.version p₁) + length (plan_bytes C.version p₂)) (plan_nodes p₁ + plan_nodes p₂) (heads_of p₁ ++ ms) gs file at t n (stands_first file hb bs at s) l m
      (λ file at tags nodes. plan_to C deep file at tags nodes) λ t' l' m'.
      combine (length (plan_bytes C.version p₁)) (plan_nodes p₁) (length (plan_bytes C.version p₂)) (plan_nodes p₂) (heads_of p₁ ++ ms) ms gs at₁ t' (n + 1) _ _
      (plan deep p₁ (All_left (heads_of p₁) (heads_of p₂) k.1) ms file at₁ t' (n + 1) (stands_first file (plan_bytes C.version p₁) (plan_bytes C.version p₂) at₁ s₁) (omega arith) l' m')
      λ t'' l'' m''.
      put (binary h p₁) _ _ ms gs _ t'' _ _
      (plan deep p₂ (All_right (heads_of p₁) (heads_of p₂) k.1) gs file (at₁ + length (plan_bytes C.version p₁)) t'' (n + 1 + plan_nodes p₁) (stands_rest file (plan_bytes C.version p₁) (plan_bytes C.version p₂) at₁ s₁) (omega arith) l'' m''))

-- ── files ───────────────────────────────────────────────────────────────────────────────────

mark_read : {v : Version} → IsVersion v → (rest : List ℕ) → read_mark (mark_bytes v ++ rest) 0 0 0 ≡ ok v 5 0 0
unfolding read_mark starts
mark_read is_1 rest = refl
mark_read is_2 rest = refl

source_bad : (file : List ℕ) (v : Version) (C : Catalogue) (at code place : ℕ) → read_mark file 0 0 0 ≡ ok v 5 0 0 → read_catalogue v file 5 0 0 ≡ ok C at 0 0 →
    plan_to C (suc max_nodes) file at 0 0 ≡ bad code place → read_file file ≡ bad code place
unfolding read_source
source_bad file v C at code place e f g = rw (e, f, g)

-- "then 4 and 5": the code of the first fault of size is the one with which the file that would be written is refused
pub same_code : (C : Catalogue) (p : Plan) → FitCatalogue C → All (SpeltHead C.version) (heads_of p) → (code number : ℕ) → size_fault C 1 0 (heads_of p) ≡ some (fault code number) →
    (place : ℕ) × (read_file (bytes_of (record { catalogue = C; plan = p })) ≡ bad code place)
unfolding bytes_of size_fault
same_code C p tables spelt code number e =
    let cs = catalogue_bytes C in
    let ps = plan_bytes C.version p in
    let v = C.version in
    let file : List ℕ = mark_bytes v ++ (cs ++ ps) in
    let body : Stands file 5 (cs ++ ps) = stands_rest file (mark_bytes v) (cs ++ ps) 0 (stands_self file) in
    let c = ((catalogue_codec v tables.version_is).reads C (tables, refl)).read file 5 0 0 (stands_first file cs ps 5 body) (omega arith) (omega arith) in
    let r = plan C (suc max_nodes) p spelt [] file (5 + length cs) 0 0 (stands_rest file cs ps 5 body) (omega arith) (omega arith) (omega arith) in
    let f : size_fault C 1 0 (heads_of p ++ []) ≡ some (fault code number) = ap (size_fault C 1 0) (append-nil (heads_of p)) ∙ e in
    ⊎_elim (λ x. absurd (let l = x.later in let z : ◌≡◌ {A = ℕ} 0 1 = cc in omega arith))
    (λ z.
    let same : z.code ≡ code = (let g = z.sized in cc) in
    (z.place, source_bad file v C (5 + length cs) code z.place (mark_read tables.version_is (cs ++ ps)) c (z.refuses ∙ ap (λ (k : ℕ). bad k z.place) same)))
    r
