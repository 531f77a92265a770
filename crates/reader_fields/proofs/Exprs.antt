-- What `read_expr` answers is right: a law for each way through it. Assumes nothing.
use Prim.Native.Nat.{ℕ, zero, suc, ◌+◌, ◌*◌, ◌-◌, ◌^◌, ◌≤◌, ◌<◌}
use mathlib.Core.Path.{◌≡◌, refl}
use mathlib.Core.Bool.{Bool, true, false}
use mathlib.Core.List.{List, [], ◌∷◌, ◌++◌}
use native.Mathlib.Omega.{arith}
use lib.Dec.{ltb}
use lib.Seq.{sets}
use borrow.Author.Tests.{lt-ltb, le-ltb, eq-eqb, ne_eqb}
use Rattle.std.specs.Prelude.{Result, Ok}
use Rattle.cpl.specs.Limits.{max_tags}
use Rattle.cpl.specs.Codes.{VALUE, op1_of, op2_of, signed}
use Rattle.cpl.specs.Plan.{pair, Expr, col, lit, miss, un, bin}
use Rattle.cpl.specs.Exprs.{expr_tags}
use Rattle.cpl.specs.Read.{Res, ok, bad, field, tag}
use Rattle.cpl.specs.ReadExpr.{read_pair, read_column, read_literal, leaf_rest, expr_rest, expr_to}
use Rattle.cpl.proofs.CodeTrip.{op1-number, op2-number, literal-number}
use Rattle.tree.specs.Layout.{expr_cells}
use Rattle.reader_fields.specs.Answers.{spot, Took, bare_store, RightCells, Reads}
use Rattle.refusals.specs.declared.Refusal.{Refusal}
use Rattle.reader_fields.specs.declared.Spot.{Spot}
use Rattle.reader_fields.proofs.Sets.{sets_then, expr_some, expr_long, right_as}

-- ── expressions without operands ────────────────────────────────────────────────────────────

leaf-took : (s : Spot) (cells cells' : List ℕ) (n : ℕ) {x : Res Expr} (e : Expr) {next : ℕ} → x ≡ ok e next (s.tags + 1) n → expr_tags e ≡ 1 →
    cells' ≡ sets cells (3 * s.made) (expr_cells s.made e) → s.tags < max_tags →
    Took bare_store s cells cells' [] [] n x (spot next (s.tags + 1) (s.made + 1) s.row)
leaf-took s cells cells' n e h one c l =
    record { value = e; is = h; made_is = omega arith; row_is = omega arith; cells_are = c; rows_are = refl; grown = omega arith; few = omega arith }

module _ (file : List ℕ) (at tags : ℕ) where
  pub column-bad : {code place : ℕ} → ((tags n : ℕ) → read_pair file at tags n ≡ bad code place) → (n : ℕ) → read_column file at tags n ≡ bad code place
  unfolding read_column
  column-bad e n = rw (e tags n)

  pub literal-bad : {code place : ℕ} → ((tags n : ℕ) → field 8 file at tags n ≡ bad code place) → (n : ℕ) → read_literal file at tags n ≡ bad code place
  unfolding read_literal
  literal-bad e n = rw (e tags n)

module _ (file : List ℕ) (s : Spot) (cells : List ℕ) where
  pub column-ok : {q m next : ℕ} → ((tags n : ℕ) → read_pair file s.at tags n ≡ ok (pair q m) next tags n) → {cells' : List ℕ} →
      cells' ≡ sets cells (3 * s.made) (0 ∷ q ∷ m ∷ []) → s.tags < max_tags →
      RightCells read_column file s (s.tags + 1) cells cells' (Ok (spot next (s.tags + 1) (s.made + 1) s.row))
  unfolding read_column expr_tags expr_cells
  column-ok {q} {m} e {cells'} c l n = leaf-took s cells cells' n (col (pair q m)) (rw (e (s.tags + 1) n)) refl c l

  pub literal-ok : {v next : ℕ} → ((tags n : ℕ) → field 8 file s.at tags n ≡ ok v next tags n) → v < 256 ^ 8 → {cells' : List ℕ} →
      cells' ≡ sets cells (3 * s.made) (1 ∷ v ∷ 0 ∷ []) → s.tags < max_tags →
      RightCells read_literal file s (s.tags + 1) cells cells' (Ok (spot next (s.tags + 1) (s.made + 1) s.row))
  unfolding read_literal expr_tags expr_cells
  literal-ok {v} e h {cells'} c l n =
      leaf-took s cells cells' n (lit (signed v)) (rw (e (s.tags + 1) n)) refl (rw (literal-number v (omega arith)).1 c) l

  module _ {t : ℕ} where
    pub leaf-column : t ≡ 0 → (cells' : List ℕ) (r : Result Spot Refusal) → RightCells read_column file s (s.tags + 1) cells cells' r → RightCells (leaf_rest t) file s (s.tags + 1) cells cells' r
    unfolding leaf_rest
    leaf-column h cells' r w = rw (eq-eqb t 0 h) w

    pub leaf-literal : t ≡ 1 → (cells' : List ℕ) (r : Result Spot Refusal) → RightCells read_literal file s (s.tags + 1) cells cells' r → RightCells (leaf_rest t) file s (s.tags + 1) cells cells' r
    unfolding leaf_rest
    leaf-literal h cells' r w = rw (ne_eqb t 0 (λ e. omega arith), eq-eqb t 1 h) w

    pub leaf-missing : (t ≡ 0 → ⊥) → (t ≡ 1 → ⊥) → {cells' : List ℕ} → cells' ≡ sets cells (3 * s.made) (2 ∷ 0 ∷ 0 ∷ []) → s.tags < max_tags →
        RightCells (leaf_rest t) file s (s.tags + 1) cells cells' (Ok (spot s.at (s.tags + 1) (s.made + 1) s.row))
    unfolding leaf_rest expr_tags expr_cells
    leaf-missing h k {cells'} c l n = leaf-took s cells cells' n miss (rw (ne_eqb t 0 h, ne_eqb t 1 k)) refl c l

-- ── one step of the reader ──────────────────────────────────────────────────────────────────

module _ (deep : ℕ) (file : List ℕ) (at tags n : ℕ) where
  step-bad : {code place : ℕ} → tag file at tags n ≡ bad code place → expr_to (suc deep) file at tags n ≡ bad code place
  unfolding expr_to
  step-bad e = rw e

  module _ {t from : ℕ} (e : tag file at tags n ≡ ok t from (tags + 1) n) where
    step : expr_to (suc deep) file at tags n ≡ expr_rest (λ f a u m. expr_to deep f a u m) at t file from (tags + 1) n
    unfolding expr_to
    step = rw e

    step-leaf : t < 3 → expr_to (suc deep) file at tags n ≡ leaf_rest t file from (tags + 1) n
    unfolding expr_rest
    step-leaf h = rw (step, lt-ltb t 3 h)

    step_value : 11 < t → expr_to (suc deep) file at tags n ≡ bad VALUE at
    unfolding expr_rest
    step_value h = rw (step, le-ltb t 3 (omega arith), le-ltb t 5 (omega arith), le-ltb t 12 (omega arith))

    step-first : 3 ≤ t → t ≤ 11 → {code place : ℕ} → expr_to deep file from (tags + 1) n ≡ bad code place → expr_to (suc deep) file at tags n ≡ bad code place
    unfolding expr_rest
    step-first h k {code} {place} f = go (ltb t 5) refl
      where
        go : (b : Bool) → ltb t 5 ≡ b → expr_to (suc deep) file at tags n ≡ bad code place
        go true q = rw (step, le-ltb t 3 h, q, f)
        go false q = rw (step, le-ltb t 3 h, q, lt-ltb t 12 (omega arith), f)

    module _ {a : Expr} {next used : ℕ} (f : expr_to deep file from (tags + 1) n ≡ ok a next used n) where
      step-one : 3 ≤ t → t < 5 → expr_to (suc deep) file at tags n ≡ ok (un (op1_of t) a) next used n
      unfolding expr_rest
      step-one h k = rw (step, le-ltb t 3 h, lt-ltb t 5 k, f)

      step-second : 5 ≤ t → t ≤ 11 → {code place : ℕ} → expr_to deep file next used n ≡ bad code place → expr_to (suc deep) file at tags n ≡ bad code place
      unfolding expr_rest
      step-second h k g = rw (step, le-ltb t 3 (omega arith), le-ltb t 5 h, lt-ltb t 12 (omega arith), f, g)

      step-two : 5 ≤ t → t ≤ 11 → {b : Expr} {next' used' : ℕ} → expr_to deep file next used n ≡ ok b next' used' n → expr_to (suc deep) file at tags n ≡ ok (bin (op2_of t) a b) next' used' n
      unfolding expr_rest
      step-two h k g = rw (step, le-ltb t 3 (omega arith), le-ltb t 5 h, lt-ltb t 12 (omega arith), f, g)

-- the cells of an expression with operands, from those of the operands
one-cells : (made m t : ℕ) (a : Expr) (cells c1 c2 : List ℕ) → 3 ≤ t → t < 5 → m ≡ made + expr_tags a → c1 ≡ sets cells (3 * made) (expr_cells made a) →
    c2 ≡ sets c1 (3 * m) (t ∷ (m - 1) ∷ 0 ∷ []) → c2 ≡ sets cells (3 * made) (expr_cells made (un (op1_of t) a))
unfolding expr_cells
one-cells made m t a cells c1 c2 h k e p q =
    rw (← e, op1-number t h k) (sets_then (expr_cells made a) (t ∷ (m - 1) ∷ 0 ∷ []) cells c1 c2 (3 * made) (3 * m) p q (omega (arith, expr_long made a)))

two_cells : (made m m' t : ℕ) (a b : Expr) (cells c1 c2 c3 : List ℕ) → 5 ≤ t → t ≤ 11 → m ≡ made + expr_tags a → m' ≡ m + expr_tags b →
    c1 ≡ sets cells (3 * made) (expr_cells made a) → c2 ≡ sets c1 (3 * m) (expr_cells m b) → c3 ≡ sets c2 (3 * m') (t ∷ (m - 1) ∷ (m' - 1) ∷ []) →
    c3 ≡ sets cells (3 * made) (expr_cells made (bin (op2_of t) a b))
unfolding expr_cells
two_cells made m m' t a b cells c1 c2 c3 h k e f p q r =
    let last : List ℕ = t ∷ (m - 1) ∷ (m' - 1) ∷ [] in
    rw (← e, ← f, op2-number t h (omega arith))
    (sets_then (expr_cells made a) (expr_cells m b ++ last) cells c1 c3 (3 * made) (3 * m) p
    (sets_then (expr_cells m b) last c1 c2 c3 (3 * m) (3 * m') q r (omega (arith, expr_long m b)))
    (omega (arith, expr_long made a)))

-- ── the answers of `read_expr` ──────────────────────────────────────────────────────────────

-- what reading an expression leaves: a tag and a node more at least, and no more nodes than tags
pub reads-grown : (file : List ℕ) (s : Spot) (cells cells' : List ℕ) (t : Spot) → Reads file s cells cells' (Ok t) →
    (t.tags ≤ max_tags) × (s.tags < t.tags) × (s.made < t.made) × (s.tags + t.made ≤ s.made + t.tags) × (t.row ≡ s.row)
reads-grown file s cells cells' t h =
    let w = h (suc max_tags) (omega arith) 0 in
    omega (arith, w.few, w.grown, w.made_is, w.row_is, expr_some w.value)

-- an expression is refused, at every depth that the tags left allow
abbrev pub Refuses : List ℕ → (at tags code place : ℕ) → Type 0
Refuses file at tags code place = (deep : ℕ) → max_tags < tags + deep → (n : ℕ) → expr_to deep file at tags n ≡ bad code place

module _ (file : List ℕ) (at tags : ℕ) (l : tags ≤ max_tags) where
  pub reads-tag-bad : {code place : ℕ} → ((n : ℕ) → tag file at tags n ≡ bad code place) → Refuses file at tags code place
  reads-tag-bad e zero d n = absurd (omega arith)
  reads-tag-bad e (suc deep) d n = step-bad deep file at tags n (e n)

  module _ {t from : ℕ} (e : (n : ℕ) → tag file at tags n ≡ ok t from (tags + 1) n) where
    pub reads-value : 11 < t → Refuses file at tags VALUE at
    reads-value h zero d n = absurd (omega arith)
    reads-value h (suc deep) d n = step_value deep file at tags n (e n) h

    pub reads_first : 3 ≤ t → t ≤ 11 → {code place : ℕ} → Refuses file from (tags + 1) code place → Refuses file at tags code place
    reads_first three eleven first zero d n = absurd (omega arith)
    reads_first three eleven first (suc deep) d n = step-first deep file at tags n (e n) three eleven (first deep (omega arith) n)

module _ (file : List ℕ) (s : Spot) (cells : List ℕ) (l : s.tags ≤ max_tags) where
  module _ {t from : ℕ} (e : (n : ℕ) → tag file s.at s.tags n ≡ ok t from (s.tags + 1) n) where
    pub reads-leaf : t < 3 → (cells' : List ℕ) (r : Result Spot Refusal) → RightCells (leaf_rest t) file (spot from s.tags s.made s.row) (s.tags + 1) cells cells' r → Reads file s cells cells' r
    reads-leaf h cells' r w zero d n = absurd (omega arith)
    reads-leaf h cells' r w (suc deep) d n =
        right_as bare_store (spot from s.tags s.made s.row) s cells cells' [] [] n r refl refl (omega arith) (step-leaf deep file s.at s.tags n (e n) h) (w n)

    module _ (three : 3 ≤ t) (eleven : t ≤ 11) (c1 : List ℕ) where
      module _ (a : Spot) (first : Reads file (spot from (s.tags + 1) s.made s.row) cells c1 (Ok a)) where
        pub reads-one : t < 5 → {c2 : List ℕ} → c2 ≡ sets c1 (3 * a.made) (t ∷ (a.made - 1) ∷ 0 ∷ []) → Reads file s cells c2 (Ok (spot a.at a.tags (a.made + 1) a.row))
        unfolding expr_tags
        reads-one k c zero d n = absurd (omega arith)
        reads-one k {c2} c (suc deep) d n =
            let w = first deep (omega arith) n in
            record {
              value = un (op1_of t) w.value;
              is = step-one deep file s.at s.tags n (e n) w.is three k;
              made_is = omega (arith, w.made_is);
              row_is = w.row_is;
              cells_are = one-cells s.made a.made t w.value cells c1 c2 three k w.made_is w.cells_are c;
              rows_are = refl;
              grown = omega (arith, w.grown);
              few = w.few;
            }

        module _ (five : 5 ≤ t) where
          pub reads_second : {code place : ℕ} → Refuses file a.at a.tags code place → Refuses file s.at s.tags code place
          reads_second second zero d n = absurd (omega arith)
          reads_second second (suc deep) d n =
              let w = first deep (omega arith) n in
              step-second deep file s.at s.tags n (e n) w.is five eleven (second deep (omega (arith, w.grown)) n)

          pub reads_two : (c2 : List ℕ) (b : Spot) → Reads file a c1 c2 (Ok b) → {c3 : List ℕ} → c3 ≡ sets c2 (3 * b.made) (t ∷ (a.made - 1) ∷ (b.made - 1) ∷ []) →
              Reads file s cells c3 (Ok (spot b.at b.tags (b.made + 1) b.row))
          unfolding expr_tags
          reads_two c2 b second c zero d n = absurd (omega arith)
          reads_two c2 b second {c3} c (suc deep) d n =
              let w = first deep (omega arith) n in
              let v = second deep (omega (arith, w.grown)) n in
              record {
                value = bin (op2_of t) w.value v.value;
                is = step-two deep file s.at s.tags n (e n) w.is five eleven v.is;
                made_is = omega (arith, w.made_is, v.made_is);
                row_is = omega (arith, w.row_is, v.row_is);
                cells_are = two_cells s.made a.made b.made t w.value v.value cells c1 c2 c3 five eleven w.made_is v.made_is w.cells_are v.cells_are c;
                rows_are = refl;
                grown = omega (arith, w.grown, v.grown);
                few = v.few;
              }
