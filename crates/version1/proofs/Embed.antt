-- A plan of version 1 as it was, as one of both versions: without keys and filters. Its tags, nodes, fields and faults are the same.
use mathlib.Core.Path.{◌≡◌, refl, ap, ap₂}
use mathlib.Core.List.{List, []}
use mathlib.Core.Bool.{Bool, true}
use Prim.Native.Nat.{ℕ, suc, ◌+◌}
use Rattle.cpl.specs.Tests.{all_b, sum_of}
use Rattle.cpl.specs.Plan.{Pair, Leaf, scan, empty, Plan, leaf, unary, binary, Catalogue, keyless, Source}
use Rattle.cpl.specs.Exprs.{leaf_exprs, leaf_tags, unary_tags, binary_tags, plan_tags, plan_nodes}
use Rattle.cpl.specs.Fields.{leaf_fields, leaf_input, unary_fields, binary_fields, fields_of}
use Rattle.cpl.specs.Accept.{Test, each_passes, ◌then◌, node_fault, check}
use Rattle.version1.specs.Language.{Leaf as Leaf1, scan as scan1, empty as empty1, Plan as Plan1, leaf as leaf1, unary as unary1, binary as binary1, Catalogue as Catalogue1, Source as Source1, plan_tags as planTags1, plan_nodes as planNodes1, leaf_fields as leafFields1, fields_of as fieldsOf1, node_fault as nodeFault1, check as check1}

abbrev pub up_leaf : Leaf1 → Leaf
up_leaf (scan1 t q is) = scan t q is []
up_leaf (empty1 b cs) = empty b cs

abbrev pub up : Plan1 → Plan
up (leaf1 h) = leaf (up_leaf h)
up (unary1 h p) = unary h (up p)
up (binary1 h p₁ p₂) = binary h (up p₁) (up p₂)

abbrev pub up_catalogue : Catalogue1 → Catalogue
up_catalogue C = keyless C

abbrev pub up_source : Source1 → Source
up_source s = record { catalogue = up_catalogue s.catalogue; plan = up s.plan }

-- ── what is the same ────────────────────────────────────────────────────────────────────────

leaf-tags : (h : Leaf1) → leaf_tags (up_leaf h) ≡ 0
unfolding leaf_tags sum_of
leaf-tags (scan1 t q is) = refl
leaf-tags (empty1 b cs) = refl

pub tags-same : (p : Plan1) → plan_tags (up p) ≡ planTags1 p
unfolding plan_tags planTags1
tags-same (leaf1 h) = leaf-tags h
tags-same (unary1 h p) = ap (λ (n : ℕ). unary_tags h + n) (tags-same p)
tags-same (binary1 h p₁ p₂) = ap₂ (λ (m n : ℕ). binary_tags h + (m + n)) (tags-same p₁) (tags-same p₂)

pub nodes-same : (p : Plan1) → plan_nodes (up p) ≡ planNodes1 p
unfolding plan_nodes planNodes1
nodes-same (leaf1 h) = refl
nodes-same (unary1 h p) = ap suc (nodes-same p)
nodes-same (binary1 h p₁ p₂) = ap₂ (λ (m n : ℕ). suc (m + n)) (nodes-same p₁) (nodes-same p₂)

module _ (C : Catalogue1) where
  pub leaf_fields_lem : (h : Leaf1) → leaf_fields (up_catalogue C) (up_leaf h) ≡ leafFields1 C h
  unfolding leaf_fields leafFields1
  leaf_fields_lem (scan1 t q is) = refl
  leaf_fields_lem (empty1 b cs) = refl

  pub fields-same : (p : Plan1) → fields_of (up_catalogue C) (up p) ≡ fieldsOf1 C p
  unfolding fields_of fieldsOf1
  fields-same (leaf1 h) = leaf_fields_lem h
  fields-same (unary1 h p) = ap (unary_fields h) (fields-same p)
  fields-same (binary1 h p₁ p₂) = ap₂ (binary_fields h) (fields-same p₁) (fields-same p₂)

  -- a leaf without filters has nothing to pass
  leaf-passes : (h : Leaf1) → ◌≡◌ {A = Test → Bool} (each_passes (leaf_exprs (up_leaf h)) (leaf_input (up_catalogue C) (up_leaf h))) (λ test. true)
  unfolding leaf_exprs all_b
  leaf-passes (scan1 t q is) = refl
  leaf-passes (empty1 b cs) = refl

  fault-same : (at : ℕ) (k : Test → Bool) (e : Bool) (fs gs : List Pair) → node_fault (up_catalogue C) at k e fs gs ≡ nodeFault1 at k e fs gs
  unfolding node_fault nodeFault1
  fault-same at k e fs gs = refl

  pub check-same : (p : Plan1) (at : ℕ) → check (up_catalogue C) (up p) at ≡ check1 C p at
  unfolding check check1
  check-same (leaf1 h) at = rw (leaf-passes h, leaf_fields_lem h) (fault-same at _ _ _ _)
  check-same (unary1 h p) at = rw (fields-same p, check-same p (suc at)) (ap (λ (f : _). check1 C p (suc at) then f) (fault-same at _ _ _ _))
  check-same (binary1 h p₁ p₂) at =
      rw (fields-same p₁, fields-same p₂, nodes-same p₁, check-same p₁ (suc at), check-same p₂ (suc (at + planNodes1 p₁)))
      (ap (λ (f : _). check1 C p₁ (suc at) then check1 C p₂ (suc (at + planNodes1 p₁)) then f) (fault-same at _ _ _ _))
