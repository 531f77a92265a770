-- Union and Join: what is asked of the two sides. Assumes nothing.
use mathlib.Core.Path.{◌≡◌, refl, sym, subst, ◌∙◌}
use mathlib.Core.Logic.{◌⊎◌, inl, inr}
use mathlib.Core.Bool.{Bool, true, false}
use mathlib.Core.List.{List, [], ◌∷◌, ◌++◌, map}
use mathlib.Core.Option.{Option, none, some}
use Prim.Native.Nat.{ℕ, ◌*◌, ◌^◌, ◌<◌, ◌≤◌}
use native.Mathlib.Omega.{arith}
use lib.Bits.{bit_or}
use lib.ListN.{length, length-append}
use Rattle.cpl.specs.Exprs.{cond_exprs}
use Rattle.cpl.specs.Fields.{binary_fields, join_fields}
use Rattle.cpl.specs.Lists.{Fit}
use Rattle.cpl.specs.Plan.{Expr, On, Pair, join, on_left, on_right, union}
use Rattle.cpl.proofs.Lists.{Fit-length}
use Rattle.rules.specs.Mask.{Mask}
use Rattle.rules.specs.Rules.{binary_kept, join_exprs, left_ask, left_part, right_ask, right_part}
use Rattle.rules.proofs.Asked.{ask-fits, part-fits, plus-fit}
use Rattle.required_indices.specs.Request.{Asks, Holds, set_of, words_n}
use Rattle.required_indices.specs.declared.RequiredIndices.{RequiredIndices}
use Rattle.required_indices.specs.declared.Split.{Split}
use Rattle.required_indices.proofs.Methods.{flag-asks, follow_asks, follow_fits}
use Rattle.requests.specs.Asked.{Adds, Parted}
use Rattle.requests.proofs.Adding.{adds_none, adds_then}
use Rattle.tree.specs.Node.{join_is}
use Rattle.tree.specs.Tree.{if?}
use Rattle.tree.specs.declared.JoinType.{JoinType}
use Rattle.tree.specs.declared.JoinType.TheVariants.{Full, Inner, Left, LeftAnti, LeftSemi, Right, RightAnti, RightSemi}
use Rattle.jobs.specs.Job.{Joinable, Joined, PosedTwo, Sided, TwoJob}
use Rattle.jobs.specs.declared.Todo.TheVariants as todos
use Rattle.jobs.specs.declared.Rest.TheVariants as rests
use Rattle.jobs.proofs.Plain.{job}

-- ── Union ───────────────────────────────────────────────────────────────────────────────────

pub union-two : {r q : RequiredIndices} (set : RequiredIndices) (right : ℕ) (fl fr : List Pair) → Holds q (set_of r) true → TwoJob union fl fr r right (job (todos.Two right) rests.Own q q set r)
unfolding left_ask right_ask binary_kept
union-two set right fl fr g = record {
  todo_is = refl;
  is = λ R p.
      let f = ask-fits union fl fr p.as_wide p.fit in
      record { asks = flag-asks p.asks g; flag = g.flag; fit = f.0; second_asks = flag-asks p.asks g; second_flag = g.flag; second_fit = f.1; kept = p.asks };
}

-- ── the sides of a join ─────────────────────────────────────────────────────────────────────

sided : {es : List Expr} {fs : List Pair} {part q out : RequiredIndices} → Adds es fs part q → Holds out (set_of q) true → Sided es fs part out
sided d g = record { flag = g.flag; asks = λ Q f a. flag-asks (d.asks Q f a) g }

-- the left roots, the right roots and the condition, in that order
module _ (os : List On) (has : Bool) (e : Expr) {ls rs : List Expr} {fs : List Pair} {part s t out : RequiredIndices} (el : map on_left os ≡ ls) (er : map on_right os ≡ rs) (d : Adds ls fs part s)
    (f : Adds rs fs s t) where
  sided_all : (c : Option Expr) {q : RequiredIndices} → Adds (cond_exprs c) fs t q → Holds out (set_of q) true → Sided (join_exprs os c) fs part out
  unfolding join_exprs
  sided_all c {q} g h =
      let a : Adds (map on_left os ++ (map on_right os ++ cond_exprs c)) fs part q = rw (el, er) (adds_then ls (rs ++ cond_exprs c) d (adds_then rs (cond_exprs c) f g)) in
      sided a h

  pub sided_some : {q : RequiredIndices} → has ≡ true → Adds (e ∷ []) fs t q → Holds out (set_of q) true → Sided (join_exprs os (if? has e)) fs part out
  unfolding cond_exprs
  sided_some h c g = subst (λ x. Sided (join_exprs os (if? x e)) fs part out) (sym h) (sided_all (some e) c g)

  pub sided_none : has ≡ false → Holds out (set_of t) true → Sided (join_exprs os (if? has e)) fs part out
  unfolding cond_exprs
  sided_none h g = subst (λ x. Sided (join_exprs os (if? x e)) fs part out) (sym h) (sided_all none adds_none g)

-- ── the fields of a join ────────────────────────────────────────────────────────────────────

abbrev pub Both : JoinType → Type 0
Both t = (t ≡ Inner) ⊎ ((t ≡ Left) ⊎ ((t ≡ Right) ⊎ (t ≡ Full)))

module _ {left : ℕ} {p q out : RequiredIndices} {b : Bool} (g : Holds out (bit_or (set_of p) (set_of q * 2 ^ left)) b) where
  joined_inner : Joined Inner left p q out
  unfolding join_fields
  joined_inner = record { asks = λ K L e k l. follow_asks left k l e g }

  joined-left : Joined Left left p q out
  unfolding join_fields
  joined-left = record { asks = λ K L e k l. follow_asks left k l e g }

  joined-right : Joined Right left p q out
  unfolding join_fields
  joined-right = record { asks = λ K L e k l. follow_asks left k l e g }

  joined-full : Joined Full left p q out
  unfolding join_fields
  joined-full = record { asks = λ K L e k l. follow_asks left k l e g }

  -- a join that hands out the fields of both sides
  pub joined_both : {t : JoinType} → Both t → Joined t left p q out
  joined_both (inl e) = rw e joined_inner
  joined_both (inr (inl e)) = rw e joined-left
  joined_both (inr (inr (inl e))) = rw e joined-right
  joined_both (inr (inr (inr e))) = rw e joined-full

module _ (left : ℕ) (p q : RequiredIndices) where
  joined-left_semi : Joined LeftSemi left p q p
  unfolding join_fields
  joined-left_semi = record { asks = λ K L e k l. k }

  joined-left_anti : Joined LeftAnti left p q p
  unfolding join_fields
  joined-left_anti = record { asks = λ K L e k l. k }

  joined-right_semi : Joined RightSemi left p q q
  unfolding join_fields
  joined-right_semi = record { asks = λ K L e k l. l }

  joined-right_anti : Joined RightAnti left p q q
  unfolding join_fields
  joined-right_anti = record { asks = λ K L e k l. l }

  -- a join that hands out the fields of one side
  pub joined_own_left : {t : JoinType} → (t ≡ LeftSemi) ⊎ (t ≡ LeftAnti) → Joined t left p q p
  joined_own_left (inl e) = rw e joined-left_semi
  joined_own_left (inr e) = rw e joined-left_anti

  pub joined_own_right : {t : JoinType} → (t ≡ RightSemi) ⊎ (t ≡ RightAnti) → Joined t left p q q
  joined_own_right (inl e) = rw e joined-right_semi
  joined_own_right (inr e) = rw e joined-right_anti

module _ {left : ℕ} (fl fr : List Pair) {q : RequiredIndices} {Q : Mask} (e : left ≡ length fl) (a : Asks q Q) (l : length Q ≡ length fr) where
  both-few : length (fl ++ fr) ≤ words_n * 64 → set_of q * 2 ^ left < 2 ^ (words_n * 64)
  both-few f = follow_fits left a (omega (arith, f, e, l, length-append fl fr))

  joinable : (t : JoinType) → length (join_fields (join_is t) fl fr) ≤ words_n * 64 → Joinable t left q
  unfolding join_fields
  joinable Inner f = both-few f
  joinable Left f = both-few f
  joinable Right f = both-few f
  joinable Full f = both-few f
  joinable LeftSemi f = tt
  joinable LeftAnti f = tt
  joinable RightSemi f = tt
  joinable RightAnti f = tt

-- ── Join ────────────────────────────────────────────────────────────────────────────────────

module _ (t : JoinType) (os : List On) (c : Option Expr) (fl fr : List Pair) {left : ℕ} {r : RequiredIndices} {s : Split} {q second : RequiredIndices} (e : left ≡ length fl)
    (parts : Parted t left r s) (sl : Sided (join_exprs os c) fl s.below q) (sr : Sided (join_exprs os c) fr s.rest second) where
  module _ {R : Mask} (p : PosedTwo (join (join_is t) os c) fl fr r R) where
    own-fit : Fit R (join_fields (join_is t) fl fr)
    unfolding binary_fields
    own-fit = p.fit

    own-few : length (join_fields (join_is t) fl fr) ≤ words_n * 64
    unfolding binary_fields
    own-few = p.few

    left-fit : Fit (left_ask (join (join_is t) os c) fl fr R) fl
    unfolding left_ask
    left-fit = plus-fit (join_exprs os c) (part-fits (join_is t) fl fr own-fit).0

    right-fit : Fit (right_ask (join (join_is t) os c) fl fr R) fr
    unfolding right_ask
    right-fit = plus-fit (join_exprs os c) (part-fits (join_is t) fl fr own-fit).1

    left-asks : Asks q (left_ask (join (join_is t) os c) fl fr R)
    unfolding left_ask
    left-asks = sl.asks (left_part (join_is t) fl R) (part-fits (join_is t) fl fr own-fit).0 (parts.parts fl fr R e own-fit p.asks).0

    right-asks : Asks second (right_ask (join (join_is t) os c) fl fr R)
    unfolding right_ask
    right-asks = sr.asks (right_part (join_is t) fl fr R) (part-fits (join_is t) fl fr own-fit).1 (parts.parts fl fr R e own-fit p.asks).1

    -- what joining the two sides requires
    pub join_able : Joinable t left second
    join_able = joinable fl fr e right-asks (Fit-length right-fit) t own-few

  pub join-two : {kept : RequiredIndices} (set : RequiredIndices) (right : ℕ) → Joined t left q second kept → TwoJob (join (join_is t) os c) fl fr r right (job (todos.Two right) rests.Own q second set kept)
  unfolding binary_kept
  join-two set right k = record {
    todo_is = refl;
    is = λ R p. record {
      asks = left-asks p;
      flag = sl.flag;
      fit = left-fit p;
      second_asks = right-asks p;
      second_flag = sr.flag;
      second_fit = right-fit p;
      kept = k.asks _ _ (e ∙ sym (Fit-length (left-fit p))) (left-asks p) (right-asks p);
    };
  }
