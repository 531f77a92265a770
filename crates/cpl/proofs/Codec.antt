-- A reader and a writer that belong together, and how they are put together from smaller ones. Assumes nothing.
use Prim.Native.Nat.{ℕ, ◌+◌, ◌≤◌}
use mathlib.Core.Path.{◌≡◌, refl, ◌∙◌}
use mathlib.Core.Bool.{Bool, true, false}
use mathlib.Core.List.{List, [], ◌++◌}
use native.Mathlib.Omega.{arith}
use lib.ListN.{length, length-append}
use Rattle.cpl.specs.Limits.{max_nodes, max_tags}
use Rattle.cpl.specs.Lists.{a[]}
use Rattle.cpl.specs.AreBytes.{AreBytes}
use Rattle.cpl.specs.Read.{Res, ok, bad, Reader, and_then, ◌>>=◌, give, refuse, pick, here}
use Rattle.cpl.proofs.Lists.{All_++}
use Rattle.cpl.proofs.Stands.{Stands, stands_fits, stands_first, stands_rest, stands_both}

-- ── from the bytes to the value ─────────────────────────────────────────────────────────────

-- where the bytes bs stand, p reads them as a, with so many tags and nodes
pub record Reads {A : Type 0} (p : Reader A) (a : A) (bs : List ℕ) (tags nodes : ℕ) : Type 0 where
  pub are_bytes : AreBytes bs
  pub read : (file : List ℕ) (at t n : ℕ) → Stands file at bs → t + tags ≤ max_tags → n + nodes ≤ max_nodes → p file at t n ≡ ok a (at + length bs) (t + tags) (n + nodes)

pub same_ok : {A : Type 0} (a : A) {at at' t t' n n' : ℕ} → at ≡ at' → t ≡ t' → n ≡ n' → ok a at t n ≡ ok a at' t' n'
same_ok a e f g = cc

pub reads-give : {A : Type 0} {a : A} → Reads (give a) a [] 0 0
reads-give {a = a} = record { are_bytes = a[]; read = λ file at t n s l m. same_ok a (omega arith) (omega arith) (omega arith) }

pub reads_then : {A B : Type 0} {p : Reader A} (k : A → Reader B) {a : A} {b : B} {xs ys : List ℕ} {t t' n n' : ℕ} →
    Reads p a xs t n → Reads (k a) b ys t' n' → Reads (p >>= k) b (xs ++ ys) (t + t') (n + n')
reads_then k {b = b} {xs} {ys} {t} {t'} {n} {n'} r q =
    record {
      are_bytes = All_++ r.are_bytes q.are_bytes;
      read =
          λ file at u m s l j.
          rw (r.read file at u m (stands_first file xs ys at s) (omega arith) (omega arith))
          (q.read file (at + length xs) (u + t) (m + n) (stands_rest file xs ys at s) (omega arith) (omega arith)
          ∙ same_ok b (omega (arith, length-append xs ys)) (omega arith) (omega arith));
    }

-- p, and what was read put into f
pub reads-map : {A B : Type 0} {p : Reader A} (f : A → B) {a : A} {bs : List ℕ} {t n : ℕ} → Reads p a bs t n → Reads (p >>= λ x. give (f x)) (f a) bs t n
reads-map f r = record { are_bytes = r.are_bytes; read = λ file at u m s l j. rw (r.read file at u m s l j) }

pub reads_here : {A : Type 0} (k : ℕ → Reader A) {a : A} {bs : List ℕ} {t n : ℕ} → ((at : ℕ) → Reads (k at) a bs t n) → Reads (here >>= k) a bs t n
reads_here k r = record { are_bytes = (r 0).are_bytes; read = λ file at u m s l j. (r at).read file at u m s l j }

pub reads_yes : {A : Type 0} (b : Bool) {p : Reader A} (q : Reader A) {a : A} {bs : List ℕ} {t n : ℕ} → b ≡ true → Reads p a bs t n → Reads (pick b p q) a bs t n
reads_yes b q e r = rw e r

pub reads_no : {A : Type 0} (b : Bool) (p : Reader A) {q : Reader A} {a : A} {bs : List ℕ} {t n : ℕ} → b ≡ false → Reads q a bs t n → Reads (pick b p q) a bs t n
reads_no b p e r = rw e r

-- the same, said in other words
pub reads_as : {A : Type 0} {p : Reader A} {a a' : A} {bs bs' : List ℕ} {t t' n n' : ℕ} → a ≡ a' → bs ≡ bs' → t ≡ t' → n ≡ n' → Reads p a bs t n → Reads p a' bs' t' n'
reads_as e f g h r = rw (← e, ← f, ← g, ← h) r

-- ── from the value to the bytes ─────────────────────────────────────────────────────────────

-- Q holds of what was read, if something was
abbrev pub Holds : {A : Type 0} → (A → ℕ → ℕ → ℕ → Type 0) → Res A → Type 0
Holds Q (ok a at t n) = Q a at t n
Holds Q (bad code place) = Unit {0}

pub holds_then : {A : Type 0} (P : A → ℕ → ℕ → ℕ → Type 0) {B : Type 0} (Q : B → ℕ → ℕ → ℕ → Type 0) (r : Res A) (k : A → ℕ → ℕ → ℕ → Res B) →
    Holds P r → ((a : A) (at t n : ℕ) → P a at t n → Holds Q (k a at t n)) → Holds Q (and_then r k)
holds_then P Q (ok a at t n) k h f = f a at t n h
holds_then P Q (bad code place) k h f = tt

pub holds-pick : {A : Type 0} (Q : A → ℕ → ℕ → ℕ → Type 0) (b : Bool) (x y : Res A) → (b ≡ true → Holds Q x) → (b ≡ false → Holds Q y) → Holds Q (pick b x y)
holds-pick Q true x y f g = f refl
holds-pick Q false x y f g = g refl

pub holds-ok : {A : Type 0} (Q : A → ℕ → ℕ → ℕ → Type 0) {r : Res A} {a : A} {at t n : ℕ} → r ≡ ok a at t n → Holds Q r → Q a at t n
holds-ok Q e h = rw e at h

-- which bytes, and how many tags and nodes, belong to a value
abbrev pub Form : Type 0 → Type 1
Form A = A → List ℕ → ℕ → ℕ → Type 0

-- from `at` on, with t tags and n nodes before, the bytes bs stand, with so many tags and nodes
pub record Stood (file : List ℕ) (at t n : ℕ) (bs : List ℕ) (tags nodes at' t' n' : ℕ) : Type 0 where
  pub stands : Stands file at bs
  pub next : at' ≡ at + length bs
  pub tags_read : t' ≡ t + tags
  pub nodes_read : n' ≡ n + nodes
  pub few_tags : t' ≤ max_tags
  pub few_nodes : n' ≤ max_nodes

pub record Found {A : Type 0} (S : Form A) (file : List ℕ) (at t n : ℕ) (a : A) (at' t' n' : ℕ) : Type 0 where
  pub bs : List ℕ
  pub tags : ℕ
  pub nodes : ℕ
  pub is : S a bs tags nodes
  pub stood : Stood file at t n bs tags nodes at' t' n'

-- what p reads, it reads from bytes that belong to it
pub record Only {A : Type 0} (S : Form A) (p : Reader A) : Type 0 where
  pub found : (file : List ℕ) → AreBytes file → (at t n : ℕ) → at ≤ length file → t ≤ max_tags → n ≤ max_nodes → Holds (Found S file at t n) (p file at t n)

-- the form of what is good, has the bytes w, and its tags and nodes
abbrev pub Spelled : {A : Type 0} → (A → Type 0) → (A → List ℕ) → (A → ℕ) → (A → ℕ) → Form A
Spelled Good w tags nodes a bs t n = Good a × (bs ≡ w a) × (t ≡ tags a) × (n ≡ nodes a)

pub record Codec {A : Type 0} (Good : A → Type 0) (w : A → List ℕ) (tags nodes : A → ℕ) (p : Reader A) : Type 0 where
  pub reads : (a : A) → Good a → Reads p a (w a) (tags a) (nodes a)
  pub only : Only (Spelled Good w tags nodes) p

pub stood_inside : {file : List ℕ} {at t n : ℕ} {bs : List ℕ} {tags nodes at' t' n' : ℕ} → Stood file at t n bs tags nodes at' t' n' → at' ≤ length file
stood_inside {file} {at} {bs = bs} s = omega (arith, s.next, stands_fits file bs at s.stands)

pub stood_then : {file : List ℕ} {at t n : ℕ} {xs ys : List ℕ} {τ τ' ν ν' at' t' n' at'' t'' n'' : ℕ} →
    Stood file at t n xs τ ν at' t' n' → Stood file at' t' n' ys τ' ν' at'' t'' n'' → Stood file at t n (xs ++ ys) (τ + τ') (ν + ν') at'' t'' n''
stood_then {file} {at} {xs = xs} {ys} s r =
    record {
      stands = stands_both file xs ys at s.stands (rw s.next at r.stands);
      next = omega (arith, length-append xs ys);
      tags_read = omega arith;
      nodes_read = omega arith;
      few_tags = r.few_tags;
      few_nodes = r.few_nodes;
    }

pub found_stood : {A : Type 0} {Good : A → Type 0} {w : A → List ℕ} {tags nodes : A → ℕ} {file : List ℕ} {at t n : ℕ} {a : A} {at' t' n' : ℕ} →
    Found (Spelled Good w tags nodes) file at t n a at' t' n' → Stood file at t n (w a) (tags a) (nodes a) at' t' n'
found_stood z = rw (z.is.1, z.is.2, z.is.3) at z.stood

holds-map : {A : Type 0} (P Q : A → ℕ → ℕ → ℕ → Type 0) (r : Res A) → ((a : A) (at t n : ℕ) → P a at t n → Q a at t n) → Holds P r → Holds Q r
holds-map P Q (ok a at t n) f h = f a at t n h
holds-map P Q (bad code place) f h = tt

pub only_give : {A : Type 0} {S : Form A} {a : A} → S a [] 0 0 → Only S (give a)
only_give i =
    record {
      found =
          λ file b at t n h l m.
          record { bs = []; tags = 0; nodes = 0; is = i; stood = record { stands = h; next = omega arith; tags_read = omega arith; nodes_read = omega arith; few_tags = l; few_nodes = m } };
    }

pub only_refuse : {A : Type 0} {S : Form A} {code place : ℕ} → Only S (refuse code place)
only_refuse = record { found = λ file b at t n h l m. tt }

pub only_then : {A B : Type 0} {Good : A → Type 0} {w : A → List ℕ} {tags nodes : A → ℕ} {p : Reader A} {S : Form B} (k : A → Reader B) → Codec Good w tags nodes p →
    ((a : A) → Good a → Only (λ b bs t n. S b (w a ++ bs) (tags a + t) (nodes a + n)) (k a)) → Only S (p >>= k)
only_then {w = w} {tags} {nodes} {p} {S} k c f =
    record {
      found =
          λ file b at t n h l m.
          holds_then _ (Found S file at t n) (p file at t n) _ (c.only.found file b at t n h l m) λ a at' t' n' z.
          let s = found_stood z in
          holds-map (Found (λ y bs t n. S y (w a ++ bs) (tags a + t) (nodes a + n)) file at' t' n') (Found S file at t n) (k a file at' t' n')
          (λ y at'' t'' n'' z'. record { bs = w a ++ z'.bs; tags = tags a + z'.tags; nodes = nodes a + z'.nodes; is = z'.is; stood = stood_then s z'.stood })
          ((f a z.is.0).found file b at' t' n' (stood_inside s) s.few_tags s.few_nodes);
    }

pub only_as : {A : Type 0} {S S' : Form A} {p : Reader A} → ((a : A) (bs : List ℕ) (t n : ℕ) → S a bs t n → S' a bs t n) → Only S p → Only S' p
only_as {S = S} {S'} {p} f o =
    record {
      found =
          λ file b at t n h l m.
          holds-map (Found S file at t n) (Found S' file at t n) (p file at t n)
          (λ y at'' t'' n'' z. record { bs = z.bs; tags = z.tags; nodes = z.nodes; is = f y z.bs z.tags z.nodes z.is; stood = z.stood })
          (o.found file b at t n h l m);
    }

-- p, and what was read put into f
pub only_in : {A B : Type 0} {S : Form B} {p : Reader A} (f : A → B) → Only (λ a bs t n. S (f a) bs t n) p → Only S (p >>= λ x. give (f x))
only_in {S = S} {p} f o =
    record {
      found =
          λ file b at t n h l m.
          holds_then _ (Found S file at t n) (p file at t n) _ (o.found file b at t n h l m) λ a at' t' n' z.
          record { bs = z.bs; tags = z.tags; nodes = z.nodes; is = z.is; stood = z.stood };
    }

pub only_map : {A B : Type 0} {Good : A → Type 0} {w : A → List ℕ} {tags nodes : A → ℕ} {p : Reader A} {S : Form B} (f : A → B) → Codec Good w tags nodes p →
    ((a : A) → Good a → S (f a) (w a) (tags a) (nodes a)) → Only S (p >>= λ x. give (f x))
only_map {S = S} f c g = only_in f (only_as (λ a bs t n i. rw (i.1, i.2, i.3) (g a i.0)) c.only)

pub only_here : {A : Type 0} {S : Form A} (k : ℕ → Reader A) → ((at : ℕ) → Only S (k at)) → Only S (here >>= k)
only_here k o = record { found = λ file b at t n h l m. (o at).found file b at t n h l m }

pub only_pick : {A : Type 0} {S : Form A} (b : Bool) {p q : Reader A} → (b ≡ true → Only S p) → (b ≡ false → Only S q) → Only S (pick b p q)
only_pick true f g = f refl
only_pick false f g = g refl

-- ── both ────────────────────────────────────────────────────────────────────────────────────

-- no tags, or no nodes
abbrev pub nought : {A : Type 0} → A → ℕ
nought a = 0

-- the same, where what is good, its bytes and its tags are said in other words
pub codec_as : {A : Type 0} {Good Good' : A → Type 0} {w w' : A → List ℕ} {tags tags' nodes : A → ℕ} {p : Reader A} →
    ((a : A) → Good' a → Good a) → ((a : A) → Good a → Good' a) → ((a : A) → Good a → (w a ≡ w' a) × (tags a ≡ tags' a)) →
    Codec Good w tags nodes p → Codec Good' w' tags' nodes p
codec_as f g e c =
    record {
      reads = λ a h. let k = e a (f a h) in reads_as refl k.0 k.1 refl (c.reads a (f a h));
      only = only_as (λ a bs t n i. let k = e a i.0 in (g a i.0, i.1 ∙ k.0, i.2 ∙ k.1, i.3)) c.only;
    }

-- readers of things nested less than so deep: one that reads as deep as the limits let anything be nested
pub codec_deep : {A : Type 0} {Good : A → Type 0} {w : A → List ℕ} {tags nodes : A → ℕ} (p : ℕ → Reader A) (depth : A → ℕ) (most : ℕ) →
    ((a : A) → tags a ≤ max_tags → nodes a ≤ max_nodes → depth a ≤ most) → ((deep : ℕ) → Codec (λ a. Good a × (depth a ≤ deep)) w tags nodes (p deep)) →
    Codec Good w tags nodes (p most)
codec_deep p depth most e c =
    record {
      reads =
          λ a g.
          record {
            are_bytes = ((c (depth a)).reads a (g, omega arith)).are_bytes;
            read = λ file at t n s l m. ((c most).reads a (g, e a (omega arith) (omega arith))).read file at t n s l m;
          };
      only = only_as (λ a bs t n i. (i.0.0, i.1, i.2, i.3)) (c most).only;
    }
