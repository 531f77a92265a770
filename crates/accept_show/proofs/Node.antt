-- A tree of one node, an Empty with two pairs, can be judged. Assumes nothing.
use mathlib.Core.Path.{◌≡◌, sym, ap, ap₂, subst}
use mathlib.Core.Bool.{true}
use mathlib.Core.List.{List, [], ◌∷◌}
use Prim.Native.Nat.{ℕ, ◌+◌, ◌*◌, ◌^◌, ◌<◌, ◌≤◌}
use native.Mathlib.Omega.{arith}
use lib.ListN.{length}
use Rattle.cpl.specs.Exprs.{leaf_tags, plan_nodes, plan_tags}
use Rattle.cpl.specs.Limits.{is_1}
use Rattle.cpl.specs.Lists.{a[], ◌a∷◌, b[]}
use Rattle.cpl.specs.Plan.{Catalogue, empty, keyless, leaf, pair}
use Rattle.cpl.specs.Writable.{FitAfter, FitCatalogue, FitLeaf, FitList, FitName, FitPair, FitPlan}
use Rattle.versions.specs.Versions.{version_of}
use Rattle.versions.specs.declared.Version.{Version}
use Rattle.tree.specs.Node.{node_of, words_at}
use Rattle.tree.specs.Rows.{list_at}
use Rattle.tree.specs.Tree.{WfNode, lent, plan_at}
use Rattle.tree.proofs.Plans.{node}
use Rattle.parts.specs.Catalogue.{catalogue_at}
use Rattle.accept.specs.Verdicts.{Judgeable, span_of}

-- its row of numbers
abbrev pub empty_node : List ℕ
empty_node = 12 ∷ 0 ∷ 0 ∷ 2 ∷ 1 ∷ 0 ∷ 0 ∷ []

abbrev pub pair_rows : (q n r m : ℕ) → List ℕ
pair_rows q n r m = q ∷ n ∷ 0 ∷ 0 ∷ r ∷ m ∷ 0 ∷ 0 ∷ []

module _ (cells : List ℕ) (q n r m : ℕ) where
  plan : plan_at (lent cells (pair_rows q n r m) empty_node) 0 ≡ leaf (empty true (pair q n ∷ pair r m ∷ []))
  unfolding plan_at node_of words_at list_at
  plan = node (lent cells (pair_rows q n r m) empty_node) 255 0

  module _ (C : Catalogue) (fits : (q < 2 ^ 16) × (n < 2 ^ 16) × (r < 2 ^ 16) × (m < 2 ^ 16)) (named : (0 < n) × (0 < m)) (items : 2 ≤ C.version.max_items) where
    ok : WfNode C (lent cells (pair_rows q n r m) empty_node) 1 0
    unfolding node_of words_at FitPlan FitLeaf FitList FitPair FitName plan_tags leaf_tags plan_nodes
    ok = record {
      numbers = record { inside = omega arith; numbers = record { limit = λ e. absurd (omega arith); alias = λ e. absurd (omega arith); scan = λ e. absurd (omega arith) } };
      parts = record { room = omega arith; each = λ k a b. omega arith };
      inputs = tt;
      fit = subst (FitPlan C) (sym plan) (omega arith, (fits.0, (named.0, fits.1)) a∷ (fits.2, (named.1, fits.3)) a∷ a[]);
      tags = subst (λ p. plan_tags p ≤ 4096) (sym plan) (omega arith);
      within = subst (λ p. 0 + plan_nodes p ≤ 1) (sym plan) (omega arith);
    }

    pub judgeable : (names s w : List ℕ) (version : Version) → C.tables ≡ catalogue_at names 0 → C.version ≡ version_of version → FitCatalogue C → C.version.max_fields ≡ 128 → 256 ≤ length s → 512 ≤ length w
        → Judgeable C (lent cells (pair_rows q n r m) empty_node) 1 names 0 version s w 0 0
    unfolding plan_nodes
    judgeable names s w version e v f fields a b =
        let one : plan_nodes (plan_at (lent cells (pair_rows q n r m) empty_node) 0) ≡ 1 = ap plan_nodes plan in
        let span : span_of C (lent cells (pair_rows q n r m) empty_node) 0 ≡ 128 = ap₂ ◌*◌ fields one in
        record {
          tree = record { few = omega arith; each = λ k h. let z : 0 ≡ k = omega arith in subst (WfNode C (lent cells (pair_rows q n r m) empty_node) 1) z ok };
          here = omega arith;
          named = record { each = λ t h. absurd (omega arith) };
          tables_fit = f;
          tables_are = e;
          version_is = v;
          room = omega (arith, span, a);
          wide = omega arith;
        }

-- the catalogue of a version 1 file without tables
abbrev pub bare : List ℕ → Catalogue
bare names = keyless (catalogue_at names 0)

pub bare-fits : (names : List ℕ) → FitCatalogue (bare names)
unfolding FitList FitAfter catalogue_at list_at
bare-fits names = record { version_is = is_1; tables_fit = (omega arith, a[]); keys_fit = (omega arith, b[]) }
