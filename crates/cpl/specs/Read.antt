-- Readers of a file of bytes, and how they are put together. A reader is given the file, the offset where it stands and how many expression
-- tags and nodes were read before. It answers a value with the next offset and the new counts, or a refusal: a code and a place.
use Rattle.std.specs.Prelude.{ℕ, zero, suc, ◌+◌, ◌*◌, Bool, true, false, not, ◌&&◌, List, [], ◌∷◌, length, get_or, ltb, leb, eqb}
use Rattle.cpl.specs.Tests.{any_b}
use Rattle.cpl.specs.Limits.{max_nodes, max_tags}
use Rattle.cpl.specs.Codes.{CUT, VALUE, MANY}

infixl 20 ◌>>=◌
infixl 20 ◌>>◌
pub data Res (A : Type 0) : Type 0 where
  ok : A → (next tags nodes : ℕ) → Res A
  bad : (code place : ℕ) → Res A

abbrev pub Reader : Type 0 → Type 0
Reader A = List ℕ → ℕ → ℕ → ℕ → Res A

-- go on with what was read, or hand the refusal on
abbrev pub and_then : {A B : Type 0} → Res A → (A → ℕ → ℕ → ℕ → Res B) → Res B
and_then (ok a at tags nodes) k = k a at tags nodes
and_then (bad code place) k = bad code place

abbrev pub ◌>>=◌ : {A B : Type 0} → Reader A → (A → Reader B) → Reader B
◌>>=◌ p k file at tags nodes = and_then (p file at tags nodes) (λ a at' tags' nodes'. k a file at' tags' nodes')

abbrev pub ◌>>◌ : {A B : Type 0} → Reader A → Reader B → Reader B
◌>>◌ p q file at tags nodes = and_then (p file at tags nodes) (λ a at' tags' nodes'. q file at' tags' nodes')

abbrev pub give : {A : Type 0} → A → Reader A
give a file at tags nodes = ok a at tags nodes

abbrev pub refuse : {A : Type 0} → (code place : ℕ) → Reader A
refuse code place file at tags nodes = bad code place

abbrev pub pick : {A : Type 0} → Bool → A → A → A
pick true a b = a
pick false a b = b

-- the offset where the reader stands
abbrev pub here : Reader ℕ
here file at tags nodes = ok at at tags nodes

-- ── fields ──────────────────────────────────────────────────────────────────────────────────

-- "Numbers are little-endian": the number that k bytes from `at` spell
unfoldable pub little : ℕ → List ℕ → ℕ → ℕ
little zero file at = 0
little (suc k) file at = get_or file at 0 + 256 * little k file (at + 1)

-- a field of k bytes. "CUT: a field runs past the end; field's offset"
unfoldable pub field : ℕ → Reader ℕ
field k file at tags nodes = pick (leb (at + k) (length file)) (ok (little k file at) (at + k) tags nodes) (bad CUT at)

-- a field of k bytes, of which only some numbers are allowed. "VALUE: a tag, flag, function, zero, table or column index not allowed; field's offset"
unfoldable pub value : ℕ → (ℕ → Bool) → Reader ℕ
value k allowed = here >>= λ p. field k >>= λ x. pick (allowed x) (give x) (refuse VALUE p)

unfoldable pub is_not : ℕ → ℕ → Bool
is_not y x = pick (eqb x y) false true

-- a field of k bytes that is not 0
unfoldable pub nonzero : ℕ → Reader ℕ
nonzero k = value k (is_not 0)

-- a field of k bytes that is below n
unfoldable pub index : (k n : ℕ) → Reader ℕ
index k n = value k (λ x. ltb x n)

-- a byte below n
unfoldable pub below : ℕ → Reader ℕ
below n = index 1 n

-- below n, and none of those that were taken before
unfoldable pub fresh : (n : ℕ) (taken : List ℕ) → ℕ → Bool
fresh n taken x = ltb x n && not (any_b (eqb x) taken)

-- a count of k bytes. "MANY: a count above its limit"; "at one field 3, 4, 5"
unfoldable pub count : ℕ → (ℕ → Bool) → ℕ → Reader ℕ
count k allowed limit = here >>= λ p. value k allowed >>= λ n. pick (leb n limit) (give n) (refuse MANY p)

unfoldable pub any : ℕ → Bool
any n = true

-- ── tags: "the 257th node, the 4,097th tag"; "node and tag limits before the tag's value" ──────

unfoldable pub tag : Reader ℕ
tag file at tags nodes = pick (leb (at + 1) (length file)) (pick (ltb tags max_tags) (ok (get_or file at 0) (at + 1) (tags + 1) nodes) (bad MANY at)) (bad CUT at)

unfoldable pub node_tag : Reader ℕ
node_tag file at tags nodes = pick (leb (at + 1) (length file)) (pick (ltb nodes max_nodes) (ok (get_or file at 0) (at + 1) tags (nodes + 1)) (bad MANY at)) (bad CUT at)

-- ── lists ───────────────────────────────────────────────────────────────────────────────────

-- p, n times over
unfoldable pub times : {A : Type 0} → ℕ → Reader A → Reader (List A)
times zero p = give []
times (suc n) p = do
  x ← p
  xs ← (λ file at tags nodes. times n p file at tags nodes)
  give (x ∷ xs)

-- a count of k bytes, and p that many times over
unfoldable pub counted : {A : Type 0} → ℕ → (ℕ → Bool) → ℕ → Reader A → Reader (List A)
counted k allowed limit p = count k allowed limit >>= λ n. times n p

-- the same, where each element may be refused for those that were read before it (the last of them first)
unfoldable pub times_after : {A : Type 0} → ℕ → (List A → Reader A) → (before : List A) → Reader (List A)
times_after zero p before = give []
times_after (suc n) p before = do
  x ← p before
  xs ← (λ file at tags nodes. times_after n p (x ∷ before) file at tags nodes)
  give (x ∷ xs)

unfoldable pub counted_after : {A : Type 0} → ℕ → (ℕ → Bool) → ℕ → (List A → Reader A) → Reader (List A)
counted_after k allowed limit p = count k allowed limit >>= λ n. times_after n p []
