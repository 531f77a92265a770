-- A plan is read as it is written. Assumes nothing.
use Prim.Native.Nat.{ℕ, zero, suc, ◌+◌, ◌≤◌, ◌<◌, max}
use mathlib.Core.Path.{◌≡◌, refl, sym, ap, ◌∙◌}
use mathlib.Core.List.{List, [], ◌∷◌, ◌++◌, append-nil}
use native.Mathlib.Omega.{arith}
use Rattle.cpl.specs.Limits.{max_nodes}
use Rattle.cpl.specs.Plan.{Plan, leaf, unary, binary, Catalogue}
use Rattle.cpl.specs.Exprs.{plan_tags, plan_nodes}
use Rattle.cpl.specs.Read.{Reader}
use Rattle.cpl.specs.ReadPlan.{Head, h0, h1, h2, read_inputs, plan_to}
use Rattle.cpl.specs.Bytes.{plan_bytes}
use Rattle.cpl.specs.Writable.{FitPlan, FitCatalogue}
use Rattle.cpl.proofs.Codec.{Reads, reads-give, reads_then, reads-map, reads_here, reads_as, Form, Only, only_give, only_refuse, only_then, only_map, only_here, Codec, codec_deep}
use Rattle.cpl.proofs.FieldTrip.{node-tag_codec}
use Rattle.cpl.proofs.HeadTrip.{head_bytes, head_tags, head_tag, head_rest, head_bytes_lem, FitHead, head_codec}

depth : Plan → ℕ
depth (leaf h) = 1
depth (unary h p) = suc (depth p)
depth (binary h p₁ p₂) = suc (max (depth p₁) (depth p₂))

depth_nodes : (p : Plan) → depth p ≤ plan_nodes p
unfolding depth plan_nodes
depth_nodes (leaf h) = omega arith
depth_nodes (unary h p) = omega (arith, depth_nodes p)
depth_nodes (binary h p₁ p₂) = omega (arith, depth_nodes p₁, depth_nodes p₂)

depth_some : (p : Plan) → 0 < depth p
unfolding depth
depth_some (leaf h) = omega arith
depth_some (unary h p) = omega arith
depth_some (binary h p₁ p₂) = omega arith

module _ (C : Catalogue) (tables : FitCatalogue C) where
  -- what can be written, nested at most so deep
  abbrev FitTo : ℕ → Plan → Type 0
  FitTo deep p = FitPlan C p × (depth p ≤ deep)

  -- inputs that are read as they are written make plans that are
  module _ (deep : ℕ) (self : Reader Plan) (c : Codec (FitTo deep) (plan_bytes C.version) plan_tags plan_nodes self) where
    inputs-reads : (p : Plan) → FitTo (suc deep) p →
        (h : Head) × (bs : List ℕ) × (t n : ℕ) × FitHead C h × Reads (read_inputs self h) p bs t n × (head_bytes C.version h ++ bs ≡ plan_bytes C.version p) × (head_tags h + t ≡ plan_tags p) × (suc n ≡ plan_nodes p)
    unfolding depth FitPlan plan_bytes plan_tags plan_nodes read_inputs
    inputs-reads (leaf h) g = (h0 h, [], 0, 0, g.0, reads-give, append-nil _, omega arith, refl)
    inputs-reads (unary h p) g = (h1 h, plan_bytes C.version p, plan_tags p, plan_nodes p, g.0.0, reads-map (unary h) (c.reads p (g.0.1, omega arith)), refl, refl, refl)
    inputs-reads (binary h p₁ p₂) g = (
      h2 h,
      plan_bytes C.version p₁ ++ plan_bytes C.version p₂,
      plan_tags p₁ + plan_tags p₂,
      plan_nodes p₁ + plan_nodes p₂,
      g.0.0,
      reads_then _ (c.reads p₁ (g.0.1, omega arith)) (reads-map (binary h p₁) (c.reads p₂ (g.0.2, omega arith))),
      refl,
      refl,
      refl,
    )

    inputs_only : (S : Form Plan) (h : Head) → FitHead C h →
        ((p : Plan) (bs : List ℕ) (t n : ℕ) → FitTo (suc deep) p → head_bytes C.version h ++ bs ≡ plan_bytes C.version p → head_tags h + t ≡ plan_tags p → suc n ≡ plan_nodes p → S p bs t n) → Only S (read_inputs self h)
    unfolding depth FitPlan plan_bytes plan_tags plan_nodes read_inputs
    inputs_only S (h0 h) g f = only_give (f (leaf h) [] 0 0 (g, omega arith) (append-nil _) (omega arith) refl)
    inputs_only S (h1 h) g f = only_map (unary h) c λ p i. f (unary h p) _ _ _ ((g, i.0), omega arith) refl refl refl
    inputs_only S (h2 h) g f = only_then _ c λ p₁ i. only_map (binary h p₁) c λ p₂ j. f (binary h p₁ p₂) _ _ _ ((g, i.0, j.0), omega arith) refl refl refl

  plan_to_lem : (deep : ℕ) → Codec (FitTo deep) (plan_bytes C.version) plan_tags plan_nodes (plan_to C deep)
  unfolding plan_to
  plan_to_lem zero = record { reads = λ p g. absurd (omega (arith, depth_some p)); only = only_here _ λ at. only_refuse }
  plan_to_lem (suc deep) =
      record {
        reads =
            λ p g.
            reads_here _ λ at.
            let (h, bs, t, n, fit, inputs, same, tags, nodes) = inputs-reads deep (plan_to C deep) (plan_to_lem deep) p g in
            let k = head_bytes_lem C.version h in
            reads_as refl (ap (λ (xs : List ℕ). xs ++ bs) k.1 ∙ same) (omega arith) (omega arith)
            (reads_then _ (node-tag_codec.reads (head_tag C.version h) k.0) (reads_then _ ((head_codec C tables at (head_tag C.version h)).reads h (fit, refl)) inputs));
        only =
            only_here _ λ at.
            only_then _ node-tag_codec λ x l.
            only_then _ (head_codec C tables at x) λ h g.
            inputs_only deep (plan_to C deep) (plan_to_lem deep) _ h g.0 λ p bs t n fit same tags nodes.
            (fit, ap (λ (y : ℕ). y ∷ (head_rest C.version h ++ bs)) (sym g.1) ∙ ap (λ (xs : List ℕ). xs ++ bs) (head_bytes_lem C.version h).1 ∙ same, omega arith, omega arith);
      }

  pub plan_codec : Codec (FitPlan C) (plan_bytes C.version) plan_tags plan_nodes (plan_to C (suc max_nodes))
  plan_codec = codec_deep (plan_to C) depth (suc max_nodes) (λ p l m. omega (arith, depth_nodes p)) plan_to_lem
