-- Every refusal of reading has a code from 2 to 6 (only that of the mark is 2), and every fault of acceptance one from 7 to 10, or 17.
use mathlib.Core.Logic.{◌⊎◌, inl, inr}
use mathlib.Core.Path.{◌≡◌, refl}
use mathlib.Core.Bool.{Bool, true, false}
use mathlib.Core.List.{List, [], ◌∷◌}
use mathlib.Core.Option.{Option, none, some}
use Prim.Native.Nat.{ℕ, zero, suc, ◌+◌, ◌≤◌}
use native.Mathlib.Omega.{arith}
use lib.Dec.{ltb, leb, eqb}
use lib.ListN.{length, get_or}
use Rattle.cpl.specs.Limits.{Version, version1, version2, max_tables, max_keys, max_nodes, max_tags}
use Rattle.cpl.specs.Codes.{VALUE, MANY, CLASH, UNKNOWN, AMBIGUOUS, WIDTH, FIELDS, alias_tag}
use Rattle.cpl.specs.Plan.{Pair, Plan, leaf, unary, binary, TableKey, Catalogue, Source, names_of, keyed_tables}
use Rattle.cpl.specs.Read.{Res, ok, bad, Reader, and_then, ◌>>=◌, give, refuse, pick, here, field, value, is_not, nonzero, index, below, fresh, count, any, tag, node_tag, times, counted, times_after, counted_after}
use Rattle.cpl.specs.ReadExpr.{read_pair, read_column, read_literal, leaf_rest, expr_rest, expr_to, read_expr, read_alias, read_bare, read_item, read_key, read_call, read_agg, read_win, read_on}
use Rattle.cpl.specs.ReadPlan.{Head, h0, h1, h2, read_limit, read_aggregate, read_cond, read_join, read_columns, read_scan, read_empty, read_head, read_inputs, plan_to, starts, mark_bytes, read_mark, read_table_key, read_catalogue, read_end, read_source, read_file}
use Rattle.cpl.specs.Accept.{Test, Fault, fault, ◌then◌, must, node_fault, check}
use Rattle.cpl.specs.Exprs.{known, definite}

-- ── readers ─────────────────────────────────────────────────────────────────────────────────

abbrev pub Within : ℕ → ℕ → ℕ → Type 0
Within low high code = (low ≤ code) × (code ≤ high)

-- a refusal has a code from `low` to 6
abbrev pub CodedFrom : ℕ → {A : Type 0} → Res A → Type 0
CodedFrom low (ok a at tags nodes) = Unit {0}
CodedFrom low (bad code place) = Within low 6 code

abbrev pub Coded : {A : Type 0} → Res A → Type 0
Coded r = CodedFrom 2 r

-- a reader whose refusals have codes from 3 to 6: all but that of the mark
pub record Safe {A : Type 0} (p : Reader A) : Type 0 where
  pub coded : (file : List ℕ) (at tags nodes : ℕ) → CodedFrom 3 (p file at tags nodes)

coded_then : (low : ℕ) {A B : Type 0} (r : Res A) (k : A → ℕ → ℕ → ℕ → Res B) → CodedFrom low r → ((a : A) (at tags nodes : ℕ) → CodedFrom low (k a at tags nodes)) → CodedFrom low (and_then r k)
coded_then low (ok a at tags nodes) k h f = f a at tags nodes
coded_then low (bad code place) k h f = h

coded_pick : (low : ℕ) {A : Type 0} (b : Bool) (r s : Res A) → CodedFrom low r → CodedFrom low s → CodedFrom low (pick b r s)
coded_pick low true r s h k = h
coded_pick low false r s h k = k

coded_lower : {A : Type 0} (r : Res A) → CodedFrom 3 r → Coded r
coded_lower (ok a at tags nodes) h = tt
coded_lower (bad code place) h = (omega (arith, h.0), h.1)

pub bind : {A B : Type 0} (p : Reader A) (k : A → Reader B) → Safe p → ((a : A) → Safe (k a)) → Safe (λ file at tags nodes. and_then (p file at tags nodes) (λ a at' tags' nodes'. k a file at' tags' nodes'))
bind p k h f = record { coded = λ file at tags nodes. coded_then 3 (p file at tags nodes) _ (h.coded file at tags nodes) (λ a at' tags' nodes'. (f a).coded file at' tags' nodes') }

choose : {A : Type 0} (b : Bool) (p q : Reader A) → Safe p → Safe q → Safe (pick b p q)
choose true p q h k = h
choose false p q h k = k

pub given : {A : Type 0} (a : A) → Safe (give a)
given a = record { coded = λ file at tags nodes. tt }

here_safe : Safe here
here_safe = record { coded = λ file at tags nodes. tt }

-- ── fields ──────────────────────────────────────────────────────────────────────────────────

value-refused : {A : Type 0} (p : ℕ) → Safe {A = A} (refuse VALUE p)
value-refused p = record { coded = λ file at tags nodes. (omega arith, omega arith) }

many_refused : {A : Type 0} (p : ℕ) → Safe {A = A} (refuse MANY p)
many_refused p = record { coded = λ file at tags nodes. (omega arith, omega arith) }

field_safe : (k : ℕ) → Safe (field k)
unfolding field
field_safe k = record { coded = λ file at tags nodes. coded_pick 3 (leb (at + k) (length file)) _ _ tt (omega arith, omega arith) }

value_safe : (k : ℕ) (allowed : ℕ → Bool) → Safe (value k allowed)
unfolding value
value_safe k allowed = bind here _ here_safe (λ p. bind (field k) _ (field_safe k) (λ x. choose (allowed x) _ _ (given x) (value-refused p)))

nonzero_safe : (k : ℕ) → Safe (nonzero k)
unfolding nonzero
nonzero_safe k = value_safe k (is_not 0)

index_safe : (k n : ℕ) → Safe (index k n)
unfolding index
index_safe k n = value_safe k _

below_safe : (n : ℕ) → Safe (below n)
unfolding below
below_safe n = index_safe 1 n

count_safe : (k : ℕ) (allowed : ℕ → Bool) (most : ℕ) → Safe (count k allowed most)
unfolding count
count_safe k allowed most = bind here _ here_safe (λ p. bind (value k allowed) _ (value_safe k allowed) (λ n. choose (leb n most) _ _ (given n) (many_refused p)))

tag_safe : Safe tag
unfolding tag
tag_safe = record { coded = λ file at tags nodes. coded_pick 3 (leb (at + 1) (length file)) _ _ (coded_pick 3 (ltb tags max_tags) _ _ tt (omega arith, omega arith)) (omega arith, omega arith) }

node_tag_safe : Safe node_tag
unfolding node_tag
node_tag_safe = record { coded = λ file at tags nodes. coded_pick 3 (leb (at + 1) (length file)) _ _ (coded_pick 3 (ltb nodes max_nodes) _ _ tt (omega arith, omega arith)) (omega arith, omega arith) }

times_safe : {A : Type 0} (n : ℕ) (p : Reader A) → Safe p → Safe (times n p)
unfolding times
times_safe zero p h = given []
times_safe (suc n) p h = bind p _ h (λ x. bind (times n p) _ (times_safe n p h) (λ xs. given (x ∷ xs)))

pub counted_safe : {A : Type 0} (k : ℕ) (allowed : ℕ → Bool) (most : ℕ) (p : Reader A) → Safe p → Safe (counted k allowed most p)
unfolding counted
counted_safe k allowed most p h = bind (count k allowed most) _ (count_safe k allowed most) (λ n. times_safe n p h)

times_after_safe : {A : Type 0} (n : ℕ) (p : List A → Reader A) → ((before : List A) → Safe (p before)) → (before : List A) → Safe (times_after n p before)
unfolding times_after
times_after_safe zero p h before = given []
times_after_safe (suc n) p h before = bind (p before) _ (h before) (λ x. bind (times_after n p (x ∷ before)) _ (times_after_safe n p h (x ∷ before)) (λ xs. given (x ∷ xs)))

counted_after_safe : {A : Type 0} (k : ℕ) (allowed : ℕ → Bool) (most : ℕ) (p : List A → Reader A) → ((before : List A) → Safe (p before)) → Safe (counted_after k allowed most p)
unfolding counted_after
counted_after_safe k allowed most p h = bind (count k allowed most) _ (count_safe k allowed most) (λ n. times_after_safe n p h [])

-- ── expressions and the parts of nodes ──────────────────────────────────────────────────────

pair_safe : Safe read_pair
unfolding read_pair
pair_safe = bind (field 2) _ (field_safe 2) (λ q. bind (nonzero 2) _ (nonzero_safe 2) (λ n. given _))

leaf_safe : (t : ℕ) → Safe (leaf_rest t)
unfolding leaf_rest read_column read_literal
leaf_safe t = choose (eqb t 0) _ _ (bind read_pair _ pair_safe (λ c. given _)) (choose (eqb t 1) _ _ (bind (field 8) _ (field_safe 8) (λ v. given _)) (given _))

expr_to_safe : (deep : ℕ) → Safe (expr_to deep)
unfolding expr_to expr_rest
expr_to_safe zero = bind here _ here_safe (λ p. many_refused p)
expr_to_safe (suc deep) =
    let e = expr_to_safe deep in
    bind here _ here_safe (λ p. bind tag _ tag_safe (λ t.
    choose (ltb t 3) _ _ (leaf_safe t)
    (choose (ltb t 5) _ _ (bind (expr_to deep) _ e (λ a. given _))
    (choose (ltb t 12) _ _ (bind (expr_to deep) _ e (λ a. bind (expr_to deep) _ e (λ b. given _))) (value-refused p)))))

pub expr_safe : Safe read_expr
expr_safe = expr_to_safe (suc max_tags)

item_safe : Safe read_item
unfolding read_item read_bare read_alias
item_safe =
    bind here _ here_safe (λ p. bind tag _ tag_safe (λ t.
    choose (eqb t 0) _ _ (bind read_pair _ pair_safe (λ c. given _))
    (choose (eqb t alias_tag) _ _ (bind read_pair _ pair_safe (λ c. bind read_expr _ expr_safe (λ e. given _))) (value-refused p))))

key_safe : Safe read_key
unfolding read_key
key_safe = bind (below 4) _ (below_safe 4) (λ x. bind read_expr _ expr_safe (λ e. given _))

call_safe : (f : ℕ) → Safe (read_call f)
unfolding read_call
call_safe f = choose (eqb f 0) _ _ (given _) (bind read_expr _ expr_safe (λ e. given _))

agg_safe : Safe read_agg
unfolding read_agg
agg_safe = bind read_pair _ pair_safe (λ c. bind (below 5) _ (below_safe 5) (λ f. bind (read_call f) _ (call_safe f) (λ g. given _)))

win_safe : Safe read_win
unfolding read_win
win_safe =
    bind read_pair _ pair_safe (λ c. bind (below 5) _ (below_safe 5) (λ f.
    bind (counted 1 any max_keys read_expr) _ (counted_safe 1 any max_keys read_expr expr_safe) (λ ps.
    bind (counted 1 any max_keys read_key) _ (counted_safe 1 any max_keys read_key key_safe) (λ ks. bind (read_call f) _ (call_safe f) (λ g. given _)))))

pub on_safe : Safe read_on
unfolding read_on
on_safe = bind read_expr _ expr_safe (λ a. bind read_expr _ expr_safe (λ b. given _))

-- ── nodes, plans, files ─────────────────────────────────────────────────────────────────────

aggregate_safe : (v : Version) → Safe (read_aggregate v)
unfolding read_aggregate
aggregate_safe v =
    bind (counted v.wide any v.max_items read_item) _ (counted_safe v.wide any v.max_items read_item item_safe)
    (λ gs. bind (counted v.wide _ v.max_items read_agg) _ (counted_safe v.wide _ v.max_items read_agg agg_safe) (λ vs. given _))

join_safe : Safe read_join
unfolding read_join read_cond
join_safe =
    bind (below 8) _ (below_safe 8) (λ t. bind (counted 1 any max_keys read_on) _ (counted_safe 1 any max_keys read_on on_safe) (λ os.
    bind read_cond _ (bind (below 2) _ (below_safe 2) (λ x. choose (eqb x 0) _ _ (given none) (bind read_expr _ expr_safe (λ e. given (some e))))) (λ c. given _)))

scan_safe : (C : Catalogue) → Safe (read_scan C)
unfolding read_scan read_columns
scan_safe C =
    let v = C.version in
    bind (below (length C.tables)) _ (below_safe (length C.tables)) (λ t. bind (nonzero 2) _ (nonzero_safe 2) (λ q.
    bind (read_columns v (length (names_of C t))) _
    (bind (below 2) _ (below_safe 2) (λ x.
    choose (eqb x 0) _ _ (given none) (bind (counted v.wide any v.max_columns (index v.wide _)) _ (counted_safe v.wide any v.max_columns (index v.wide _) (index_safe v.wide _)) (λ is. given (some is)))))
    (λ is. bind (counted v.late any v.max_filters read_expr) _ (counted_safe v.late any v.max_filters read_expr expr_safe) (λ es. given _))))

empty_safe : (v : Version) → Safe (read_empty v)
unfolding read_empty
empty_safe v = bind (below 2) _ (below_safe 2) (λ x. bind (counted v.wide any v.max_items read_pair) _ (counted_safe v.wide any v.max_items read_pair pair_safe) (λ cs. given _))

head_safe : (C : Catalogue) (p t : ℕ) → Safe (read_head C p t)
unfolding read_head read_limit
head_safe C p t =
    let v = C.version in
    choose (eqb t 1) _ _ (bind (counted v.wide any v.max_items read_item) _ (counted_safe v.wide any v.max_items read_item item_safe) (λ is. given _))
    (choose (eqb t 2) _ _ (bind read_expr _ expr_safe (λ e. given _))
    (choose (eqb t 3) _ _ (bind (counted 1 (is_not 0) max_keys read_key) _ (counted_safe 1 (is_not 0) max_keys read_key key_safe) (λ ks. given _))
    (choose (eqb t 4) _ _ (bind read_limit _ (bind (field 4) _ (field_safe 4) (λ s. bind (field 4) _ (field_safe 4) (λ n. given _))) (λ h. given (h1 h)))
    (choose (eqb t 5) _ _ (bind (read_aggregate v) _ (aggregate_safe v) (λ h. given _))
    (choose (eqb t 6) _ _ (bind (counted v.wide (is_not 0) v.max_items read_win) _ (counted_safe v.wide (is_not 0) v.max_items read_win win_safe) (λ ws. given _))
    (choose (eqb t 7) _ _ (bind (nonzero 2) _ (nonzero_safe 2) (λ q. given _))
    (choose (eqb t 8) _ _ (given _)
    (choose (eqb t 9) _ _ (given _)
    (choose (eqb t 10) _ _ (bind read_join _ join_safe (λ h. given _))
    (choose (eqb t 11) _ _ (bind (read_scan C) _ (scan_safe C) (λ h. given _))
    (choose (eqb t 12) _ _ (bind (read_empty v) _ (empty_safe v) (λ h. given _)) (value-refused p))))))))))))

inputs_safe : (self : Reader Plan) → Safe self → (h : Head) → Safe (read_inputs self h)
unfolding read_inputs
inputs_safe self s (h0 h) = given _
inputs_safe self s (h1 h) = bind self _ s (λ p. given _)
inputs_safe self s (h2 h) = bind self _ s (λ p₁. bind self _ s (λ p₂. given _))

plan_safe : (C : Catalogue) (deep : ℕ) → Safe (plan_to C deep)
unfolding plan_to
plan_safe C zero = bind here _ here_safe (λ p. many_refused p)
plan_safe C (suc deep) = bind here _ here_safe (λ p. bind node_tag _ node_tag_safe (λ t. bind (read_head C p t) _ (head_safe C p t) (λ h. inputs_safe _ (plan_safe C deep) h)))

table-key_safe : (v : Version) (tables : List (List ℕ)) (before : List TableKey) → Safe (read_table_key v tables before)
unfolding read_table_key
table-key_safe v tables before =
    bind (value 1 (fresh (length tables) (keyed_tables before))) _ (value_safe 1 _) (λ t.
    bind (counted_after v.wide (is_not 0) v.max_columns _) _ (counted_after_safe v.wide (is_not 0) v.max_columns _ (λ taken. value_safe v.wide (fresh (length (get_or tables t [])) taken))) (λ is. given _))

catalogue_safe : (v : Version) → Safe (read_catalogue v)
unfolding read_catalogue
catalogue_safe v =
    bind (counted 1 any max_tables _) _ (counted_safe 1 any max_tables _ (counted_safe v.wide any v.max_columns (nonzero 2) (nonzero_safe 2))) (λ ts.
    bind (counted_after v.late any v.max_table_keys _) _ (counted_after_safe v.late any v.max_table_keys _ (table-key_safe v ts)) (λ ks. given _))

pub end_safe : Safe read_end
unfolding read_end
end_safe = record { coded = λ file at tags nodes. coded_pick 3 (eqb at (length file)) _ _ tt (omega arith, omega arith) }

-- what stands behind the mark
abbrev read_body : Version → Reader Source
read_body v = read_catalogue v >>= λ C. plan_to C (suc max_nodes) >>= λ p. read_end >>= λ z. give (record { catalogue = C; plan = p })

body_safe : (v : Version) → Safe (read_body v)
body_safe v =
    bind (read_catalogue v) _ (catalogue_safe v) (λ C. bind (plan_to C (suc max_nodes)) _ (plan_safe C (suc max_nodes)) (λ p. bind read_end _ end_safe (λ z. given _)))

pub reading_coded : (file : List ℕ) → Coded (read_file file)
unfolding read_source read_mark
reading_coded file =
    coded_then 2 (read_mark file 0 0 0) _ (coded_pick 2 (starts (mark_bytes version1) file) _ _ tt (coded_pick 2 (starts (mark_bytes version2) file) _ _ tt (omega arith, omega arith))) λ v at tags nodes.
    coded_lower (read_body v file at tags nodes) ((body_safe v).coded file at tags nodes)

-- ── acceptance ──────────────────────────────────────────────────────────────────────────────

abbrev pub FaultCode : ℕ → Type 0
FaultCode code = Within 7 10 code ⊎ (code ≡ AMBIGUOUS)

abbrev pub Faulty : Option Fault → Type 0
Faulty none = Unit {0}
Faulty (some (fault code node)) = FaultCode code

faulty_then : (f g : Option Fault) → Faulty f → Faulty g → Faulty (f then g)
unfolding ◌then◌
faulty_then none g h k = k
faulty_then (some e) g h k = h

faulty-must : (b : Bool) (code at : ℕ) → FaultCode code → Faulty (must b code at)
unfolding must
faulty-must true code at h = tt
faulty-must false code at h = h

faulty-node : (C : Catalogue) (at : ℕ) (k : Test → Bool) (e : Bool) (fs gs : List Pair) → Faulty (node_fault C at k e fs gs)
unfolding node_fault
faulty-node C at k e fs gs =
    faulty_then (must (k known) UNKNOWN at) _ (faulty-must (k known) UNKNOWN at (inl (omega arith, omega arith)))
    (faulty_then (must (k definite) AMBIGUOUS at) _ (faulty-must (k definite) AMBIGUOUS at (inr refl))
    (faulty_then (must e WIDTH at) _ (faulty-must e WIDTH at (inl (omega arith, omega arith)))
    (faulty_then (must (leb (length fs) C.version.max_fields) FIELDS at) _ (faulty-must _ FIELDS at (inl (omega arith, omega arith))) (faulty-must _ CLASH at (inl (omega arith, omega arith))))))

pub check_coded : (C : Catalogue) (p : Plan) (at : ℕ) → Faulty (check C p at)
unfolding check
check_coded C (leaf h) at = faulty-node C at _ _ _ _
check_coded C (unary h p) at = faulty_then (check C p (suc at)) _ (check_coded C p (suc at)) (faulty-node C at _ _ _ _)
check_coded C (binary h p₁ p₂) at = faulty_then (check C p₁ (suc at)) _ (check_coded C p₁ (suc at)) (faulty_then (check C p₂ _) _ (check_coded C p₂ _) (faulty-node C at _ _ _ _))
