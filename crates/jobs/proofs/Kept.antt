-- Which of a node's fields are left. Assumes nothing.
use mathlib.Core.Path.{◌≡◌, sym, subst, ◌∙◌}
use mathlib.Core.Bool.{Bool}
use Prim.Native.Nat.{ℕ, ◌*◌, ◌^◌, ◌<◌}
use native.Mathlib.Omega.{arith}
use lib.Bits.{bit_or}
use Rattle.required_indices.specs.Request.{Asks, Holds, set_of, words_n}
use Rattle.required_indices.specs.declared.RequiredIndices.{RequiredIndices}
use Rattle.required_indices.proofs.Methods.{follow_asks, follow_fits}
use Rattle.jobs.specs.Job.{KeptBy, LeftBy, RestBy, ThenIs}
use Rattle.jobs.specs.declared.Rest.{Rest}
use Rattle.jobs.specs.declared.Rest.TheVariants as rests

pub then_fits : {rest : Rest} {set kept : RequiredIndices} {width : ℕ} → rest ≡ rests.InputThen width → LeftBy rest set kept → set_of set * 2 ^ width < 2 ^ (words_n * 64)
then_fits {set = set} {kept} {width} e o =
    let t : ThenIs o.fields o.left set width = subst (λ t. RestBy o.fields o.left set kept t) e o.is in
    follow_fits width t.asks (omega (arith, t.few, t.wide))

module _ {rest : Rest} {set kept input : RequiredIndices} where
  pub kept_then : {width : ℕ} {out : RequiredIndices} {b : Bool} → rest ≡ rests.InputThen width → Holds out (bit_or (set_of input) (set_of set * 2 ^ width)) b → KeptBy rest set kept input out
  kept_then {width} {out} e h = record {
    asks = λ fs g K x l a.
        let t : ThenIs fs g set width = subst (λ t. RestBy fs g set kept t) e x in
        subst (Asks out) (sym (t.is K)) (follow_asks width a t.asks (t.wide ∙ sym l) h);
  }
