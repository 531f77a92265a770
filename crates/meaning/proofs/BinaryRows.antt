-- Union and Join: where each rewritten input has exactly what was asked of it, the rewritten node is the old node narrowed.
use mathlib.Core.Path.{sym, ◌∙◌, ap₂}
use mathlib.Core.List.{List, ◌++◌, map}
use Rattle.cpl.specs.Lists.{Fit}
use Rattle.cpl.specs.Plan.{Pair, Binary, union, join, Plan, binary, Catalogue}
use Rattle.cpl.specs.Fields.{join_fields, binary_fields, fields_of}
use Rattle.cpl.proofs.Lists.{map_++}
use Rattle.rules.specs.Mask.{Mask, select}
use Rattle.rules.specs.Rules.{plus, left_part, right_part, join_exprs, left_ask, right_ask, binary_kept}
use Rattle.rules.proofs.Masks.{LeM_refl}
use Rattle.rules.proofs.Asked.{plus_cov, plus-fit, plus-keeps, part-fits, join-keeps, join-fields}
use Rattle.meaning.specs.Value.{Row, Log}
use Rattle.meaning.specs.Joins.{matches, binary_rows}
use Rattle.meaning.specs.Meaning.{meaning}
use Rattle.meaning.proofs.Wide.{WideRows}
use Rattle.meaning.proofs.Joins.{matches-select, join_rows-select}
use Rattle.meaning.proofs.Rows.{Narrowed}

module _ (C : Catalogue) (D : Log) (fl fr : List Pair) {ls rs : List Row} (w : WideRows fl ls) where
  pub binary-narrows : (h : Binary) (R : Mask) {p₁ p₂ : Plan} → Fit R (binary_fields h fl fr)
      → Narrowed C D fl ls (left_ask h fl fr R) (left_ask h fl fr R) p₁ → Narrowed C D fr rs (right_ask h fl fr R) (right_ask h fl fr R) p₂
      → Narrowed C D (binary_fields h fl fr) (binary_rows h fl fr ls rs) R (binary_kept h fl fr R) (binary h p₁ p₂)
  unfolding fields_of meaning binary_rows binary_fields left_ask right_ask binary_kept
  binary-narrows union R f n₁ n₂ = record { keeps = LeM_refl R; fields = n₁.fields; rows = ap₂ ◌++◌ n₁.rows n₂.rows ∙ sym (map_++ (select R) ls rs) }
  binary-narrows (join t os c) R {p₁} {p₂} f n₁ n₂ =
      let h = part-fits t fl fr f in
      let es = join_exprs os c in
      let Kl = plus es fl (left_part t fl R) in
      let Kr = plus es fr (right_part t fl fr R) in
      let fit = plus-fit es h.0 in
      let agree = matches-select fl fr Kl Kr fit os c (plus_cov es h.0 (LeM_refl Kl)) (plus_cov es h.1 (LeM_refl Kr)) in
      record {
        keeps = join-keeps t fl fr R (plus-keeps es h.0 (LeM_refl Kl)) (plus-keeps es h.1 (LeM_refl Kr));
        fields = ap₂ (join_fields t) n₁.fields n₂.fields ∙ join-fields t fr Kr fit;
        rows = ap₂ (λ gs qs. binary_rows (join t os c) gs (fields_of C p₂) qs (meaning C D p₂)) n₁.fields n₁.rows
            ∙ (ap₂ (λ gs qs. binary_rows (join t os c) (select Kl fl) gs (map (select Kl) ls) qs) n₂.fields n₂.rows
            ∙ join_rows-select fl fr Kl Kr fit (matches os c fl fr) (matches os c (select Kl fl) (select Kr fr)) agree ls rs w t);
      }
