-- A request, index by index. Assumes nothing.
use mathlib.Core.Path.{◌≡◌, refl, sym, ap, ap₂, subst, ◌∙◌}
use mathlib.Core.Logic.{◌⊎◌, ⊎_elim}
use mathlib.Core.Bool.{Bool, true, false, ◌&&◌, ◌||◌}
use mathlib.Core.List.{List, [], ◌∷◌}
use mathlib.Core.Option.{none, some}
use Rattle.std.specs.Prelude.{Ok, Err}
use Prim.Native.Nat.{ℕ, zero, suc, ◌+◌, ◌-◌, ◌^◌, ◌<◌, ◌≤◌}
use native.Mathlib.Numerals.{add-one}
use native.Mathlib.Omega.{arith}
use borrow.Author.Tests.{le-leb, le-ltb, lt-leb, lt-ltb}
use lib.Bits.{bit_or}
use lib.Dec.{eqb, eqb_refl, leb, ltb}
use lib.ListN.{drop, drop_of_length-le, get_or, length, take}
use lib.Seq.{drop-cons, take_all, take-suc}
use Rattle.cpl.specs.Lists.{All, a[], ◌a∷◌}
use Rattle.cpl.specs.Read.{pick}
use Rattle.cpl.specs.Tests.{any_b, iota}
use Rattle.cpl.proofs.Bools.{is_true}
use Rattle.cpl.proofs.FitFields.{iota-length}
use Rattle.cpl.proofs.Lists.{All_map, map_cong_a}
use Rattle.rules.specs.Mask.{ones}
use Rattle.rules.specs.Request.{fault_from, mask_of, request_fault}
use Rattle.refusals.specs.declared.Reason.TheVariants as reason
use Rattle.refusals.specs.declared.Refusal.{Refusal}
use Rattle.required_indices.specs.Request.{Asks, Holds, flag_of, set_of}
use Rattle.required_indices.specs.declared.RequiredIndices.{RequiredIndices}
use Rattle.required_indices.proofs.Building.{list-add, list_start}
use Rattle.required_indices.proofs.Methods.{all-asks}
use Rattle.request.specs.Requests.{RequestIs}

-- the first i indices are taken: each is at least `least` below the next
pub record Taken (width : ℕ) (is : List ℕ) (set : RequiredIndices) (least i : ℕ) : Type 0 where
  pub upto : i ≤ length is
  pub fault : request_fault width is ≡ fault_from i least width (drop i is)
  pub asks : Asks set (mask_of width (take i is))
  pub flag : flag_of set ≡ false

pub taken_none : (width : ℕ) (is : List ℕ) (set : RequiredIndices) → Holds set 0 false → Taken width is set 0 0
unfolding request_fault
taken_none width is set h = record { upto = omega arith; fault = refl; asks = list_start width h; flag = h.flag }

module _ (width : ℕ) (is : List ℕ) (set : RequiredIndices) (least i : ℕ) (t : Taken width is set least i) where
  at_next : i < length is → request_fault width is ≡ pick (leb least (get_or is i 0) && ltb (get_or is i 0) width) (fault_from (suc i) (suc (get_or is i 0)) width (drop (suc i) is)) (some i)
  unfolding fault_from
  at_next h = t.fault ∙ ap (fault_from i least width) (drop-cons is i 0 h)

  too_low : i < length is → get_or is i 0 < least → request_fault width is ≡ some i
  too_low h l = at_next h ∙ ap (λ b. pick (b && ltb (get_or is i 0) width) (fault_from (suc i) (suc (get_or is i 0)) width (drop (suc i) is)) (some i)) (lt-leb least (get_or is i 0) l)

  too_high : i < length is → least ≤ get_or is i 0 → width ≤ get_or is i 0 → request_fault width is ≡ some i
  too_high h l m = at_next h ∙ ap₂ (λ b c. pick (b && c) (fault_from (suc i) (suc (get_or is i 0)) width (drop (suc i) is)) (some i)) (le-leb least (get_or is i 0) l) (le-ltb (get_or is i 0) width m)

  -- the next index is not above the one before it, or not below the width
  pub refused : (e : Refusal) → (e.reason ≡ reason.Request) × (e.place ≡ i) → i < length is → (get_or is i 0 < least) ⊎ ((least ≤ get_or is i 0) × (width ≤ get_or is i 0)) → RequestIs width is (Err e) (request_fault width is)
  refused e f h t = subst (RequestIs width is (Err e)) (sym (⊎_elim (λ l. too_low h l) (λ m. too_high h m.0 m.1) t)) f

  pub taken_more : (out : RequiredIndices) → i < length is → least ≤ get_or is i 0 → get_or is i 0 < width → Holds out (bit_or (set_of set) (2 ^ get_or is i 0)) (flag_of set) → Taken width is out (get_or is i 0 + 1) (i + 1)
  taken_more out h l m o = record {
    upto = omega arith;
    fault = at_next h ∙ ap₂ (λ b c. pick (b && c) (fault_from (suc i) (suc (get_or is i 0)) width (drop (suc i) is)) (some i)) (le-leb least (get_or is i 0) l) (lt-ltb (get_or is i 0) width m)
        ∙ ap₂ (λ j x. fault_from j x width (drop j is)) (sym (add-one i)) (sym (add-one (get_or is i 0)));
    asks = subst (λ xs. Asks out (mask_of width xs)) (sym (take-suc is i 0 h) ∙ ap (λ j. take j is) (sym (add-one i))) (list-add width (take i is) (get_or is i 0) t.asks m o);
    flag = o.flag ∙ t.flag;
  }

  pub taken-all : length is ≤ i → RequestIs width is (Ok set) (request_fault width is)
  unfolding fault_from
  taken-all h =
      subst (RequestIs width is (Ok set)) (sym (t.fault ∙ ap (fault_from i least width) (drop_of_length-le is h)))
      (subst (λ xs. Asks set (mask_of width xs)) (take_all i is h) t.asks, t.flag)

-- ── all fields ──────────────────────────────────────────────────────────────────────────────

or_true : (a : Bool) → true ≡ a || true
or_true true = refl
or_true false = refl

in_itself : (is : List ℕ) → All (λ i. true ≡ any_b (eqb i) is) is
unfolding any_b
in_itself [] = a[]
in_itself (x ∷ xs) = sym (ap (◌|| any_b (eqb x) xs) (is_true (eqb x x) (eqb_refl x))) a∷ All_map (λ i e. or_true (eqb i x) ∙ ap (eqb i x ||◌) e) (in_itself xs)

pub all_asked : (width : ℕ) {out : RequiredIndices} {b : Bool} → Holds out (2 ^ width - 1) b → Asks out (mask_of width (iota 0 width))
unfolding ones mask_of
all_asked width {out} h = subst (Asks out) (map_cong_a (in_itself (iota 0 width))) (all-asks (iota 0 width) width (sym (iota-length 0 width)) h)

-- asking for all is no fault
pub all-fine : (width : ℕ) → request_fault width (iota 0 width) ≡ none
unfolding request_fault fault_from iota
all-fine width = from 0 0 width (omega arith)
  where
    from : (p f n : ℕ) → f + n ≡ width → fault_from p f width (iota f n) ≡ none
    from p f zero e = refl
    from p f (suc n) e = ap₂ (λ b c. pick (b && c) (fault_from (suc p) (suc f) width (iota (suc f) n)) (some p)) (le-leb f f (omega arith)) (lt-ltb f width (omega arith)) ∙ from (suc p) (suc f) n (omega arith)
