-- A larger request never reads less: of the pass, by every merge and whether the plan is accepted or not; then of two answers of code 0.
use mathlib.Core.Path.{◌≡◌, ◌∙◌, ap, subst, subst⁻¹}
use mathlib.Core.List.{List}
use mathlib.Core.Bool.{Bool, true, false}
use mathlib.Core.Option.{Option, none, some}
use Prim.Native.Nat.{ℕ, suc, ◌+◌}
use lib.Dec.{T, eqb}
use lib.ListN.{length}
use Rattle.cpl.specs.AreBytes.{AreBytes}
use Rattle.cpl.specs.Tests.{any_b, iota}
use Rattle.cpl.specs.Plan.{Pair, Item, Leaf, Binary, Plan, leaf, unary, binary, Catalogue, Source}
use Rattle.cpl.specs.Exprs.{plan_nodes}
use Rattle.cpl.specs.Read.{Res, ok}
use Rattle.cpl.specs.Fields.{leaf_fields, binary_fields, fields_of}
use Rattle.cpl.proofs.Bools.{halves, both-T}
use Rattle.rules.specs.Mask.{Mask, LeM}
use Rattle.rules.specs.Request.{mask_of}
use Rattle.rules.specs.Keys.{key_of}
use Rattle.rules.specs.Merge.{Merge}
use Rattle.rules.specs.Rules.{Job}
use Rattle.rules.specs.Rewrite.{rewrite}
use Rattle.rules.specs.Answer.{Answer, merge_of, answer, answer_all}
use Rattle.rules.specs.Success.{source_of, Success}
use Rattle.rules.specs.Scans.{scans, Numbered, Left, job_scans, pend_scans, merged_scans, items_of, unary_scans, binary_scans, walk_scans, scans_under, leaf_columns, survives, reads_at, NoLess, Into, Narrower, narrower, NarrowerAt}
use Rattle.rules.specs.Larger.{Contains, scans_left, FollowedIn, Larger}
use Rattle.rules.proofs.Parts.{none_into, Into_++, Into_map, any_into, Part-any, mask-more, all_more}
use Rattle.rules.proofs.AskedMore.{More, not-walked, asks-more, leaf-more, projection-more, unary-more, left-more, right-more}
use Rattle.rules.proofs.Follow.{walk_same, followed}
use Rattle.rules.proofs.Successes.{read_back}

-- ── the pass ────────────────────────────────────────────────────────────────────────────────

module _ (C : Catalogue) where
  -- whatever is beneficial: a larger request leaves no scan less, and of each no column less
  abbrev pub Grows : Left → Type 0
  Grows s = (b b' : Bool) (R R' : Mask) → LeM R R' → Into (NarrowerAt C) (s b R) (s b' R')

  job_grows : {j j' : Job} → More j j' → (s : Left) → Grows s → Into (NarrowerAt C) (job_scans j s) (job_scans j' s)
  unfolding job_scans
  job_grows (not-walked {j = j}) s g = none_into (job_scans j s)
  job_grows (asks-more {b = b} {b' = b'} {Q = Q} {Q' = Q'} l) s g = g b b' Q Q' l

  pend_grows : (q : Option (List Item)) (fs : List Pair) (s : Left) → Grows s → Grows (pend_scans C q fs s)
  unfolding pend_scans
  pend_grows none fs s g = g
  pend_grows (some is) fs s g = λ b b' R R' l. job_grows (projection-more C is fs l) s g

  merged_grows : (r : Option (List Item)) (s : List Item → Left) (s' : Left) → ((ks : List Item) → Grows (s ks)) → Grows s' → Grows (merged_scans r s s')
  unfolding merged_scans
  merged_grows none s s' g h = h
  merged_grows (some ks) s s' g h = g ks

  binary_grows : (h : Binary) (fl fr : List Pair) (s₁ s₂ : Left) → Grows s₁ → Grows s₂ → Grows (binary_scans h fl fr s₁ s₂)
  unfolding binary_scans
  binary_grows h fl fr s₁ s₂ g₁ g₂ b b' R R' l = Into_++ (g₁ true true _ _ (left-more h fl fr l)) (g₂ true true _ _ (right-more h fl fr l))

  module _ (M : Merge) where
    unary_grows : (own q : Option (List Item)) (fs : List Pair) (job : Bool → Mask → Job) → ((b b' : Bool) (R R' : Mask) → LeM R R' → More (job b R) (job b' R'))
        → (s : Option (List Item) → Left) → ((q : Option (List Item)) → Grows (s q)) → Grows (unary_scans M C own q fs job s)
    unfolding unary_scans
    unary_grows (some is) none fs job m s g = g (some is)
    unary_grows (some is) (some js) fs job m s g = merged_grows (M js is) _ _ (λ ks. g (some ks)) (pend_grows (some js) fs (s (some is)) (g (some is)))
    unary_grows none q fs job m s g = pend_grows q fs _ (λ b b' R R' l. job_grows (m b b' R R' l) (s none) (g none))

    -- the induction, over the request that reaches each old node
    pub walk_grows : (p : Plan) (at : ℕ) (q : Option (List Item)) → Grows (walk_scans M C p at q)
    unfolding walk_scans
    walk_grows (leaf h) at q = pend_grows q (leaf_fields C h) _ (λ b b' R R' l. leaf-more C h at b b' l)
    walk_grows (unary h p) at q = unary_grows (items_of h) q _ _ (λ b b' R R' l. unary-more C (key_of C p) (fields_of C p) h b b' l) _ (λ q. walk_grows p (suc at) q)
    walk_grows (binary h p₁ p₂) at q =
        pend_grows q (binary_fields h (fields_of C p₁) (fields_of C p₂)) _ (binary_grows h (fields_of C p₁) (fields_of C p₂) _ _ (walk_grows p₁ (suc at) none) (walk_grows p₂ (suc (at + plan_nodes p₁)) none))

-- ── in numbers and columns ──────────────────────────────────────────────────────────────────

column-within : (C : Catalogue) {h k : Leaf} → Narrower C h k → (i : ℕ) → T (any_b (eqb i) (leaf_columns C h)) → T (any_b (eqb i) (leaf_columns C k))
unfolding leaf_columns
column-within C (narrower s) i t = Part-any (eqb i) s t

pub no_less : (C : Catalogue) {xs ys : List Numbered} → Into (NarrowerAt C) xs ys → NoLess C xs ys
unfolding survives reads_at
no_less C h =
    record {
      survive = λ n t. any_into _ _ (λ x y w u. subst (λ k. T (eqb n k)) w.same_node u) h t;
      columns = λ n i t. any_into _ _
          (λ x y w u.
          let k = halves (eqb n x.number) (any_b (eqb i) (leaf_columns C x.head)) u in
          both-T (eqb n y.number) (any_b (eqb i) (leaf_columns C y.head)) (subst (λ k. T (eqb n k)) w.same_node k.0) (column-within C w.scan_within i k.1)) h t;
    }

-- "A larger request never reads less."
pub larger : (M : Merge) (C : Catalogue) (p : Plan) {R R' : Mask} → LeM R R' → NoLess C (scans_under M C p R) (scans_under M C p R')
larger M C p {R} {R'} l = no_less C (walk_grows C M p 0 none false false R R' l)

-- the same of the two rewritten plans alone, without numbers
pub larger_plans : (M : Merge) (C : Catalogue) (p : Plan) {R R' : Mask} → LeM R R' → Into (Narrower C) (scans (rewrite M C p R).plan) (scans (rewrite M C p R').plan)
larger_plans M C p {R} {R'} l =
    rw (← walk_same M C p 0 none false R, ← walk_same M C p 0 none false R') (Into_map (λ x. x.head) (λ y. y.head) (λ x y w. w.scan_within) (walk_grows C M p 0 none false false R R' l))

-- ── answers ─────────────────────────────────────────────────────────────────────────────────

-- a file reads as one source
one_source : {r : Res Source} {s s' : Source} {n n' t t' k k' : ℕ} → r ≡ ok s n t k → r ≡ ok s' n' t' k' → s' ≡ s
one_source e e' = cc

success-followed : {mode mask : ℕ} {file : List ℕ} {request : ℕ → List ℕ} {a : Answer} (s : Success mode mask file request a) → FollowedIn s
success-followed {mode} {mask} s = rw s.by_the_rules (followed (merge_of mode mask) s.catalogue s.old s.R)

module _ {mode mask : ℕ} {file : List ℕ} {request request' : ℕ → List ℕ} {a a' : Answer} (s : Success mode mask file request a) (s' : Success mode mask file request' a') where
  one_read : source_of s'.catalogue s'.old ≡ source_of s.catalogue s.old
  one_read = one_source s.reads s'.reads

  second_asks : s'.R ≡ mask_of (length (fields_of s.catalogue s.old)) (request' (length (fields_of s.catalogue s.old)))
  second_asks = s'.asks ∙ ap (λ x. mask_of (length (fields_of x.catalogue x.plan)) (request' (length (fields_of x.catalogue x.plan)))) one_read

  pub larger_masks : LeM s.R s'.R → Larger mode mask file request request' a a'
  larger_masks l =
      record {
        first = s;
        second = s';
        one_catalogue = ap (λ x. x.catalogue) one_read;
        one_plan = ap (λ x. x.plan) one_read;
        followed = (success-followed s, success-followed s');
        no_less = subst⁻¹ (λ x. NoLess s.catalogue (scans_left s) (scans_under (merge_of mode mask) x.catalogue x.plan s'.R)) one_read (larger (merge_of mode mask) s.catalogue s.old l);
      }

  -- the requests may be made from the root's field count
  pub larger_successes : Contains (request' (length (fields_of s.catalogue s.old))) (request (length (fields_of s.catalogue s.old))) → Larger mode mask file request request' a a'
  larger_successes h = larger_masks (rw (s.asks, second_asks) (mask-more _ _ _ h))

-- two answers of code 0 to one file: "for one plan, one mode and one mask, with both requests accepted"
pub larger_answers : (mode mask : ℕ) (file is js out out' : List ℕ) → AreBytes file → Contains js is → (answer mode mask file is out).code ≡ 0 → (answer mode mask file js out').code ≡ 0
    → Larger mode mask file (λ width. is) (λ width. js) (answer mode mask file is out) (answer mode mask file js out')
larger_answers mode mask file is js out out' k h e e' =
    larger_successes (read_back mode mask file (λ width. is) out k e) (read_back mode mask file (λ width. js) out' k e') h

-- and an answer to all fields reads no less than any
pub all-is_largest : (mode mask : ℕ) (file is out out' : List ℕ) → AreBytes file → (answer mode mask file is out).code ≡ 0 → (answer_all mode mask file out').code ≡ 0
    → Larger mode mask file (λ width. is) (λ width. iota 0 width) (answer mode mask file is out) (answer_all mode mask file out')
all-is_largest mode mask file is out out' k e e' =
    let s = read_back mode mask file (λ width. is) out k e in
    let s' = read_back mode mask file (λ width. iota 0 width) out' k e' in
    larger_masks s s' (rw (s.asks, second_asks s s') (all_more _ is))
