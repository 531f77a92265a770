-- `check` finds no fault exactly where `Accepted` holds; then what that says of the fields.
use mathlib.Core.Path.{◌≡◌, refl, ap₂}
use mathlib.Core.List.{List}
use mathlib.Core.Bool.{Bool, true, false, not, true≢false}
use mathlib.Core.Option.{Option, none, some}
use Prim.Native.Nat.{ℕ, suc, ◌+◌, ◌≤◌}
use lib.Dec.{T, leb, leb→le, le→leb}
use lib.ListN.{length}
use Rattle.cpl.specs.Codes.{CLASH, UNKNOWN, AMBIGUOUS, WIDTH, FIELDS}
use Rattle.cpl.specs.Plan.{Pair, Expr, Binary, union, join, Plan, leaf, unary, binary, Catalogue}
use Rattle.cpl.specs.Exprs.{known, definite, plan_nodes}
use Rattle.cpl.specs.Fields.{binary_fields, fields_of}
use Rattle.cpl.specs.Accept.{clash, Test, each_passes, together, Fault, ◌then◌, must, node_fault, check}
use Rattle.cpl.specs.Lists.{All}
use Rattle.cpl.specs.Accepted.{Clear, Resolved, NodeOk, Accepted}
use Rattle.cpl.proofs.Lists.{All_map, All_both, all-T, T-all}
use Rattle.cpl.proofs.Clash.{clear, no_clash, clear-join}

-- ── expression by expression ────────────────────────────────────────────────────────────────

pub record Sees (fs : List Pair) (e : Expr) : Type 0 where
  pub is_known : T (known fs e)
  pub is-definite : T (definite fs e)

pub each_sees : (es : List Expr) (fs : List Pair) → Resolved (each_passes es fs) → All (Sees fs) es
each_sees es fs r = All_map (λ e h. record { is_known = h.0; is-definite = h.1 }) (All_both (all-T (known fs) es r.all_found) (all-T (definite fs) es r.all_definite))

pub all_see : {es : List Expr} (fs : List Pair) → All (Sees fs) es → Resolved (each_passes es fs)
all_see fs h = record { all_found = T-all (known fs) (All_map (λ e s. s.is_known) h); all_definite = T-all (definite fs) (All_map (λ e s. s.is-definite) h) }

-- ── one test after the other ────────────────────────────────────────────────────────────────

pub then_none : (f g : Option Fault) → (f then g) ≡ none → (f ≡ none) × (g ≡ none)
unfolding ◌then◌
then_none none g e = (refl, e)
then_none (some x) g e = absurd (let z : true ≡ false = cc in true≢false z)

pub none_then : {f g : Option Fault} → f ≡ none → g ≡ none → (f then g) ≡ none
unfolding ◌then◌
none_then e h = ap₂ ◌then◌ e h

pub must-none : (b : Bool) (code at : ℕ) → must b code at ≡ none → T b
unfolding must
must-none true code at e = tt
must-none false code at e = absurd (let z : true ≡ false = cc in true≢false z)

pub none-must : (b : Bool) (code at : ℕ) → T b → must b code at ≡ none
unfolding must
none-must true code at t = refl
none-must false code at t = absurd t

node_ok : (C : Catalogue) (at : ℕ) (k : Test → Bool) (e : Bool) (fs gs : List Pair) → node_fault C at k e fs gs ≡ none → NodeOk C k e fs gs
unfolding node_fault
node_ok C at k e fs gs n =
    let h₁ = then_none (must (k known) UNKNOWN at) _ n in
    let h₀ = then_none (must (k definite) AMBIGUOUS at) _ h₁.1 in
    let h₂ = then_none (must e WIDTH at) _ h₀.1 in
    let h₃ = then_none (must (leb (length fs) C.version.max_fields) FIELDS at) _ h₂.1 in
    record {
      resolved = record { all_found = must-none (k known) UNKNOWN at h₁.0; all_definite = must-none (k definite) AMBIGUOUS at h₀.0 };
      as_wide = must-none e WIDTH at h₂.0;
      few = leb→le (length fs) C.version.max_fields (must-none (leb (length fs) C.version.max_fields) FIELDS at h₃.0);
      distinct = clear gs (must-none (not (clash gs)) CLASH at h₃.1);
    }

ok-node : (C : Catalogue) (at : ℕ) {k : Test → Bool} {e : Bool} {fs gs : List Pair} → NodeOk C k e fs gs → node_fault C at k e fs gs ≡ none
unfolding node_fault
ok-node C at {k} {e} {fs} {gs} o =
    none_then (none-must (k known) UNKNOWN at o.resolved.all_found)
    (none_then (none-must (k definite) AMBIGUOUS at o.resolved.all_definite)
    (none_then (none-must e WIDTH at o.as_wide)
    (none_then (none-must (leb (length fs) C.version.max_fields) FIELDS at (le→leb (length fs) C.version.max_fields o.few)) (none-must (not (clash gs)) CLASH at (no_clash o.distinct)))))

-- ── plans ───────────────────────────────────────────────────────────────────────────────────

pub accepted : (C : Catalogue) (p : Plan) (at : ℕ) → check C p at ≡ none → Accepted C p
unfolding check Accepted
accepted C (leaf h) at n = node_ok C at _ _ _ _ n
accepted C (unary h p) at n = let k = then_none (check C p (suc at)) _ n in (accepted C p (suc at) k.0, node_ok C at _ _ _ _ k.1)
accepted C (binary h p₁ p₂) at n =
    let k = then_none (check C p₁ (suc at)) _ n in
    let l = then_none (check C p₂ (suc (at + plan_nodes p₁))) _ k.1 in
    (accepted C p₁ (suc at) k.0, accepted C p₂ (suc (at + plan_nodes p₁)) l.0, node_ok C at _ _ _ _ l.1)

pub no_fault : (C : Catalogue) (p : Plan) (at : ℕ) → Accepted C p → check C p at ≡ none
unfolding check Accepted
no_fault C (leaf h) at o = ok-node C at o
no_fault C (unary h p) at o = none_then (no_fault C p (suc at) o.0) (ok-node C at o.1)
no_fault C (binary h p₁ p₂) at o = none_then (no_fault C p₁ (suc at) o.0) (none_then (no_fault C p₂ (suc (at + plan_nodes p₁)) o.1) (ok-node C at o.2))

-- the fields of an accepted plan are few and distinct
pub few-fields : (C : Catalogue) (p : Plan) → Accepted C p → length (fields_of C p) ≤ C.version.max_fields
unfolding Accepted fields_of
few-fields C (leaf h) o = o.few
few-fields C (unary h p) o = o.1.few
few-fields C (binary h p₁ p₂) o = o.2.few

own-clear : (h : Binary) (fl fr : List Pair) → Clear (together h fl fr) → Clear (binary_fields h fl fr)
unfolding together binary_fields
own-clear union fl fr k = k
own-clear (join t os c) fl fr k = clear-join t fl fr k

pub distinct-fields : (C : Catalogue) (p : Plan) → Accepted C p → Clear (fields_of C p)
unfolding Accepted fields_of
distinct-fields C (leaf h) o = o.distinct
distinct-fields C (unary h p) o = o.1.distinct
distinct-fields C (binary h p₁ p₂) o = own-clear h (fields_of C p₁) (fields_of C p₂) o.2.distinct
