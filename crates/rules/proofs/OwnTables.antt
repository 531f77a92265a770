-- The numbers by which the scans are followed are right: where every scan has a table of its own, the rewritten plan shows them; and node by node in
-- prefix order they are the places of the scans.
use mathlib.Core.Path.{◌≡◌, refl, sym, ◌∙◌, ap, ap₂, subst}
use mathlib.Core.List.{List, [], ◌∷◌, ◌++◌, map}
use mathlib.Core.Bool.{false}
use mathlib.Core.Option.{none}
use Prim.Native.Nat.{ℕ, zero, suc, ◌+◌, ◌<◌, ◌≤◌}
use native.Mathlib.Omega.{arith}
use native.Mathlib.Nat.{add-zero}
use lib.ListN.{length, length-map, length-append, get_or, get_or-eq_default, get_or-append, get_or-map}
use borrow.Author.Tests.{eq-eqb, ne_eqb}
use lib.Seq.{get_or-append-add}
use Rattle.cpl.specs.Tests.{sum_of}
use Rattle.cpl.specs.Lists.{All, a[], ◌a∷◌}
use Rattle.cpl.specs.Plan.{Leaf, scan, empty, Plan, leaf, unary, binary, TableKey, Catalogue, names_of}
use Rattle.cpl.specs.Exprs.{plan_nodes}
use Rattle.cpl.proofs.Lists.{map-map, map_cong_a, map_++, All_++}
use Rattle.rules.specs.Mask.{Mask}
use Rattle.rules.specs.Keys.{declared}
use Rattle.rules.specs.Merge.{Merge}
use Rattle.rules.specs.Rewrite.{rewrite}
use Rattle.rules.specs.Scans.{leaf_scans, Numbered, numbered, scans_of, scans_under, Into, i[], ◌i∷◌, pass, Narrower, narrower, NarrowerAt}
use Rattle.rules.specs.OwnTables.{retable_leaf, retable, own_tables, lacking, leaf_table, node_table, nodes, table_at, own_keys, own_catalogue, Traced}
use Rattle.rules.proofs.Follow.{walk_same, walk_among}
use Rattle.rules.proofs.Retable.{walk-retable, left-retable}

-- ── places in a list ────────────────────────────────────────────────────────────────────────

-- from `at` on f says what the list says
record Says {A : Type 0} (d : A) (f : ℕ → A) (at : ℕ) (xs : List A) : Type 0 where
  there : (i : ℕ) → i < length xs → f (at + i) ≡ get_or xs i d

says_itself : {A : Type 0} (d : A) (xs : List A) → Says d (λ n. get_or xs n d) 0 xs
says_itself d xs = record { there = λ i l. ap (λ n. get_or xs n d) (omega arith) }

module _ {A : Type 0} {d : A} {f : ℕ → A} {at : ℕ} where
  says-head : {x : A} {xs : List A} → Says d f at (x ∷ xs) → f at ≡ x
  says-head s = ap f (sym (add-zero at)) ∙ s.there 0 (omega arith)

  says_tail : {x : A} {xs : List A} → Says d f at (x ∷ xs) → Says d f (suc at) xs
  says_tail s = record { there = λ i l. let e : suc at + i ≡ at + suc i = omega arith in ap f e ∙ s.there (suc i) (omega arith) }

  says-left : (xs ys : List A) → Says d f at (xs ++ ys) → Says d f at xs
  says-left xs ys s = record { there = λ i l. s.there i (omega (arith, length-append xs ys)) ∙ get_or-append xs ys d i l }

  says-right : (xs ys : List A) (n : ℕ) → length xs ≡ n → Says d f at (xs ++ ys) → Says d f (at + n) ys
  says-right xs ys n e s =
      record { there = λ i l. let e : (at + n) + i ≡ at + (length xs + i) = omega arith in ap f e ∙ (s.there (length xs + i) (omega (arith, length-append xs ys)) ∙ get_or-append-add xs ys i d) }

-- ── the numbers of the nodes ────────────────────────────────────────────────────────────────

length-nodes : (p : Plan) → length (nodes p) ≡ plan_nodes p
unfolding nodes plan_nodes
length-nodes (leaf h) = refl
length-nodes (unary h p) = ap suc (length-nodes p)
length-nodes (binary h p₁ p₂) = ap suc (length-append (nodes p₁) (nodes p₂) ∙ ap₂ ◌+◌ (length-nodes p₁) (length-nodes p₂))

module _ (d : Plan) (f : ℕ → Plan) where
  -- each scan stands at its number
  scans-stand : (p : Plan) (at : ℕ) → Says d f at (nodes p) → All (λ x. f x.number ≡ leaf x.head) (scans_of p at)
  unfolding scans_of nodes numbered leaf_scans
  scans-stand (leaf (scan t q is es)) at s = says-head s a∷ a[]
  scans-stand (leaf (empty b cs)) at s = a[]
  scans-stand (unary h p) at s = scans-stand p (suc at) (says_tail s)
  scans-stand (binary h p₁ p₂) at s =
      let t = says_tail s in
      let e : suc at + plan_nodes p₁ ≡ suc (at + plan_nodes p₁) = omega arith in
      All_++ (scans-stand p₁ (suc at) (says-left (nodes p₁) (nodes p₂) t)) (scans-stand p₂ (suc (at + plan_nodes p₁)) (subst (λ n. Says d f n (nodes p₂)) e (says-right (nodes p₁) (nodes p₂) (plan_nodes p₁) (length-nodes p₁) t)))

-- "Nodes are numbered in prefix order from 0": the numbers of a plan's scans are their places among its nodes, whatever stands past the last
pub scans_placed : (p d : Plan) → All (λ x. get_or (nodes p) x.number d ≡ leaf x.head) (scans_of p 0)
scans_placed p d = scans-stand d (λ n. get_or (nodes p) n d) p 0 (says_itself d (nodes p))

-- ── tables of their own ─────────────────────────────────────────────────────────────────────

nodes-own : (p : Plan) (at : ℕ) → plan_nodes (own_tables p at) ≡ plan_nodes p
unfolding plan_nodes own_tables
nodes-own (leaf h) at = refl
nodes-own (unary h p) at = ap suc (nodes-own p (suc at))
nodes-own (binary h p₁ p₂) at = ap₂ (λ m n. suc (m + n)) (nodes-own p₁ (suc at)) (nodes-own p₂ (suc (at + plan_nodes p₁)))

module _ (C : Catalogue) where
  abbrev tables : Plan → List ℕ
  tables p = map (node_table C) (nodes p)

  length-tables : (p : Plan) → length (tables p) ≡ plan_nodes p
  length-tables p = length-map (nodes p) (node_table C) ∙ length-nodes p

  -- the old tables put back
  put_back : (u : ℕ → ℕ) (p : Plan) (at : ℕ) → Says (lacking C) u at (tables p) → retable u (own_tables p at) ≡ p
  unfolding retable own_tables retable_leaf nodes node_table leaf_table
  put_back u (leaf (scan t q is es)) at s = ap (λ v. leaf (scan v q is es)) (says-head s)
  put_back u (leaf (empty b cs)) at s = refl
  put_back u (unary h p) at s = ap (unary h) (put_back u p (suc at) (says_tail s))
  put_back u (binary h p₁ p₂) at s =
      let t : Says (lacking C) u (suc at) (tables p₁ ++ tables p₂) = subst (Says (lacking C) u (suc at)) (map_++ (node_table C) (nodes p₁) (nodes p₂)) (says_tail s) in
      let e : suc at + plan_nodes p₁ ≡ suc (at + plan_nodes p₁) = omega arith in
      ap₂ (binary h) (put_back u p₁ (suc at) (says-left (tables p₁) (tables p₂) t))
      (put_back u p₂ (suc (at + plan_nodes p₁)) (subst (λ n. Says (lacking C) u n (tables p₂)) e (says-right (tables p₁) (tables p₂) (plan_nodes p₁) (length-tables p₁) t)))

  own-numbers : (p : Plan) (at : ℕ) → All (λ x. leaf_table C x.head ≡ x.number) (scans_of (own_tables p at) at)
  unfolding scans_of own_tables retable_leaf numbered leaf_scans leaf_table
  own-numbers (leaf (scan t q is es)) at = ◌a∷◌ {x = record { number = at; head = scan at q is es }} refl a[]
  own-numbers (leaf (empty b cs)) at = a[]
  own-numbers (unary h p) at = own-numbers p (suc at)
  own-numbers (binary h p₁ p₂) at =
      All_++ (own-numbers p₁ (suc at))
      (subst (λ n. All (λ x. leaf_table C x.head ≡ x.number) (scans_of (own_tables p₂ (suc (at + plan_nodes p₁))) (suc (at + n)))) (sym (nodes-own p₁ (suc at))) (own-numbers p₂ (suc (at + plan_nodes p₁))))

  within-table : {D : Catalogue} {h k : Leaf} → Narrower D h k → leaf_table C h ≡ leaf_table C k
  unfolding leaf_table
  within-table (narrower s) = refl

  numbers-left : {D : Catalogue} {xs ys : List Numbered} → Into (NarrowerAt D) xs ys → All (λ x. leaf_table C x.head ≡ x.number) ys → All (λ x. leaf_table C x.head ≡ x.number) xs
  numbers-left i[] a[] = a[]
  numbers-left (w i∷ hs) (e a∷ es) = (within-table w.scan_within ∙ (e ∙ sym w.same_node)) a∷ numbers-left hs es
  numbers-left (pass hs) (e a∷ es) = numbers-left hs es

  no_names : names_of C (lacking C) ≡ []
  unfolding lacking
  no_names = get_or-eq_default C.tables [] (omega arith)

  none-declared : (ks : List TableKey) (t : ℕ) → sum_of (λ k. suc k.table) ks ≤ t → declared ks t ≡ []
  unfolding declared sum_of
  none-declared [] t l = refl
  none-declared (k ∷ ks) t l = rw (ne_eqb k.table t (λ e. omega arith)) (none-declared ks t (omega arith))

  no_key : declared C.keys (lacking C) ≡ []
  unfolding lacking
  no_key = none-declared C.keys (length C.tables + sum_of (λ k. suc k.table) C.keys) (omega arith)

  -- the catalogue of their own has the names and the keys of the old tables
  own_names : (p : Plan) (t : ℕ) → names_of C (table_at C p t) ≡ names_of (own_catalogue C p) t
  unfolding table_at own_catalogue
  own_names p t = sym (get_or-map (names_of C) (tables p) t (lacking C)) ∙ ap (get_or (map (names_of C) (tables p)) t) no_names

  own-declared : (ts : List ℕ) (at t n : ℕ) → n ≡ at + t → declared C.keys (get_or ts t (lacking C)) ≡ declared (own_keys C at ts) n
  unfolding declared own_keys
  own-declared [] at t n e = no_key
  own-declared (x ∷ ts) at zero n e = rw (eq-eqb at n (omega arith))
  own-declared (x ∷ ts) at (suc t) n e = rw (ne_eqb at n (λ d. omega arith)) (own-declared ts (suc at) t n (omega arith))

  own_keys_lem : (p : Plan) (t : ℕ) → declared C.keys (table_at C p t) ≡ declared (own_catalogue C p).keys t
  unfolding table_at own_catalogue
  own_keys_lem p t = own-declared (tables p) 0 t t (omega arith)

  pub traced : (M : Merge) (p : Plan) (R : Mask) → Traced M C p R
  traced M p R =
      let u = table_at C p in
      let D = own_catalogue C p in
      let o = own_tables p 0 in
      let back : retable u o ≡ p = put_back u p 0 (unfold table_at in says_itself (lacking C) (tables p)) in
      let xs = scans_under M D o R in
      let own : All (λ x. leaf_table C x.head ≡ x.number) xs = numbers-left (walk_among D M o 0 none false R) (own-numbers p 0) in
      record {
        same_plan = back;
        same_pass = sym (ap (λ w. w.plan) (walk-retable u C D (own_names p) (own_keys_lem p) M o none false R)) ∙ ap (λ q. (rewrite M C q R).plan) back;
        numbers =
            ap (map (leaf_table C)) (sym (walk_same M D o 0 none false R))
            ∙ (map-map (leaf_table C) (λ x. x.head) xs
            ∙ (map_cong_a own
            ∙ (sym (map-map (λ x. x.number) _ xs)
            ∙ ap (map (λ x. x.number)) (sym (left-retable u C D (own_names p) (own_keys_lem p) M o 0 none false R) ∙ ap (λ q. scans_under M C q R) back))));
      }
