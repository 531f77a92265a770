-- Pairs and expressions are read as they are written. Assumes nothing.
use Prim.Native.Nat.{ℕ, zero, suc, ◌≤◌, ◌<◌, max}
use mathlib.Core.Path.{refl, sym, ap}
use mathlib.Core.List.{[], ◌∷◌, ◌++◌}
use native.Mathlib.Omega.{arith}
use lib.Dec.{ltb, eqb}
use borrow.Author.Tests.{eqb-true, eqb-false, ltb-true, ltb-false, lt-ltb, le-ltb}
use Rattle.cpl.specs.Limits.{max_tags}
use Rattle.cpl.specs.Plan.{Pair, pair, Op1, Op2, Expr, col, lit, miss, un, bin}
use Rattle.cpl.specs.Codes.{op1_tag, op1_of, op2_tag, op2_of, signed, unsigned}
use Rattle.cpl.specs.Exprs.{expr_tags}
use Rattle.cpl.specs.Read.{Reader, ◌>>=◌, tag}
use Rattle.cpl.specs.ReadExpr.{read_pair, read_column, read_literal, leaf_rest, expr_rest, expr_to, read_expr}
use Rattle.cpl.specs.Bytes.{pair_bytes, expr_bytes}
use Rattle.cpl.specs.Writable.{FitPair, FitExpr}
use Rattle.cpl.proofs.Codec.{Reads, reads-give, reads_then, reads-map, reads_here, reads_yes, reads_no, reads_as, Spelled, Only, only_give, only_refuse, only_then, only_map, only_here, only_pick, Codec, nought, codec_deep}
use Rattle.cpl.proofs.FieldTrip.{field_codec, name_codec, tag_codec}
use Rattle.cpl.proofs.CodeTrip.{op1-number, op2-number, literal-number, number-op1, number-op2, number-literal}

pub pair_codec : Codec FitPair pair_bytes nought nought read_pair
unfolding FitPair pair_bytes read_pair
pair_codec = record { reads = reads; only = only_then _ (field_codec 2) λ q h. only_map (pair q) name_codec λ n g. ((h, g), refl, refl, refl) }
  where
    reads : (c : Pair) → FitPair c → Reads read_pair c (pair_bytes c) 0 0
    reads (pair q n) h = reads_then _ ((field_codec 2).reads q h.0) (reads-map (pair q) (name_codec.reads n h.1))

-- ── expressions ─────────────────────────────────────────────────────────────────────────────

depth : Expr → ℕ
depth (col c) = 1
depth (lit z) = 1
depth miss = 1
depth (un o a) = suc (depth a)
depth (bin o a b) = suc (max (depth a) (depth b))

depth_tags : (e : Expr) → depth e ≤ expr_tags e
unfolding depth expr_tags
depth_tags (col c) = omega arith
depth_tags (lit z) = omega arith
depth_tags miss = omega arith
depth_tags (un o a) = omega (arith, depth_tags a)
depth_tags (bin o a b) = omega (arith, depth_tags a, depth_tags b)

depth_some : (e : Expr) → 0 < depth e
unfolding depth
depth_some (col c) = omega arith
depth_some (lit z) = omega arith
depth_some miss = omega arith
depth_some (un o a) = omega arith
depth_some (bin o a b) = omega arith

-- what can be written, nested at most so deep
abbrev FitTo : ℕ → Expr → Type 0
FitTo deep e = FitExpr e × (depth e ≤ deep)

-- operands that are read as they are written make expressions that are
module _ (deep : ℕ) (self : Reader Expr) (c : Codec (FitTo deep) expr_bytes expr_tags nought self) (p : ℕ) where
  step-reads : (e : Expr) → FitTo (suc deep) e → Reads (tag >>= λ t. expr_rest self p t) e (expr_bytes e) (expr_tags e) 0
  unfolding depth expr_tags FitExpr expr_bytes expr_rest leaf_rest read_column read_literal
  step-reads (col c) h = reads_then _ (tag_codec.reads 0 (omega arith)) (reads-map col (pair_codec.reads c h.0))
  step-reads (lit z) h =
      let g = number-literal z h.0 in
      reads_then _ (tag_codec.reads 1 (omega arith)) (reads_as (ap lit g.1) refl refl refl (reads-map (λ (v : ℕ). lit (signed v)) ((field_codec 8).reads (unsigned z) g.0)))
  step-reads miss h = reads_then _ (tag_codec.reads 2 (omega arith)) reads-give
  step-reads (un o a) h =
      let g = number-op1 o in
      reads_as refl refl (omega arith) refl
      (reads_then _ (tag_codec.reads (op1_tag o) (omega arith))
      (reads_no _ _ (le-ltb (op1_tag o) 3 g.0)
      (reads_yes _ _ (lt-ltb (op1_tag o) 5 g.1)
      (reads_as (ap (λ (x : Op1). un x a) g.2) refl refl refl (reads-map (un (op1_of (op1_tag o))) (c.reads a (h.0, omega arith)))))))
  step-reads (bin o a b) h =
      let g = number-op2 o in
      reads_as refl refl (omega arith) refl
      (reads_then _ (tag_codec.reads (op2_tag o) (omega arith))
      (reads_no _ _ (le-ltb (op2_tag o) 3 (omega arith))
      (reads_no _ _ (le-ltb (op2_tag o) 5 g.0)
      (reads_yes _ _ (lt-ltb (op2_tag o) 12 g.1)
      (reads_then _ (c.reads a (h.0.0, omega arith)) (reads_as (ap (λ (x : Op2). bin x a b) g.2) refl refl refl (reads-map (bin (op2_of (op2_tag o)) a) (c.reads b (h.0.1, omega arith)))))))))

  step_only : Only (Spelled (FitTo (suc deep)) expr_bytes expr_tags nought) (tag >>= λ t. expr_rest self p t)
  unfolding depth expr_tags FitExpr expr_bytes expr_rest leaf_rest read_column read_literal
  step_only =
      only_then _ tag_codec λ t h.
      only_pick (ltb t 3)
      (λ e.
      only_pick (eqb t 0) (λ z. only_map col pair_codec λ c g. ((g, omega arith), ap (λ (x : ℕ). x ∷ pair_bytes c) (eqb-true t 0 z), refl, refl))
      (λ z.
      only_pick (eqb t 1)
      (λ o.
      only_map (λ (v : ℕ). lit (signed v)) (field_codec 8) λ v g.
      let k = literal-number v g in
      ((k.0, omega arith), cc (eqb-true t 1 o), refl, refl))
      (λ o. only_give ((tt, omega arith), ap (λ (x : ℕ). x ∷ []) (omega (arith, ltb-true t 3 e, eqb-false t 0 z, eqb-false t 1 o)), refl, refl))))
      (λ e.
      only_pick (ltb t 5)
      (λ f. only_map (un (op1_of t)) c λ a g. ((g.0, omega arith), ap (λ (x : ℕ). x ∷ expr_bytes a) (sym (op1-number t (ltb-false t 3 e) (ltb-true t 5 f))), omega arith, refl))
      (λ f.
      only_pick (ltb t 12)
      (λ l.
      only_then _ c λ a g.
      only_map (bin (op2_of t) a) c λ b i.
      (((g.0, i.0), omega arith), ap (λ (x : ℕ). x ∷ (expr_bytes a ++ expr_bytes b)) (sym (op2-number t (ltb-false t 5 f) (ltb-true t 12 l))), omega arith, refl))
      (λ l. only_refuse)))

expr_to_lem : (deep : ℕ) → Codec (FitTo deep) expr_bytes expr_tags nought (expr_to deep)
unfolding expr_to
expr_to_lem zero = record { reads = λ e h. absurd (omega (arith, depth_some e)); only = only_here _ λ p. only_refuse }
expr_to_lem (suc deep) =
    record {
      reads = λ e h. reads_here _ λ p. step-reads deep (expr_to deep) (expr_to_lem deep) p e h;
      only = only_here _ λ p. step_only deep (expr_to deep) (expr_to_lem deep) p;
    }

pub expr_codec : Codec FitExpr expr_bytes expr_tags nought read_expr
expr_codec = codec_deep expr_to depth (suc max_tags) (λ e l m. omega (arith, depth_tags e)) expr_to_lem
