-- Laws of yes and no: what a test that says yes says of its parts.
use mathlib.Core.Path.{◌≡◌, refl, sym}
use mathlib.Core.Bool.{Bool, true, false, cond, not, ◌&&◌, ◌||◌, true≢false}
use lib.Dec.{T}

pub halves : (a b : Bool) → T (a && b) → T a × T b
halves true true t = (tt, tt)
halves true false t = absurd t
halves false b t = absurd t

pub both-T : (a b : Bool) → T a → T b → T (a && b)
both-T true true s t = tt
both-T true false s t = absurd t
both-T false b s t = absurd s

-- the same of equations
pub and_left : (a b : Bool) → (a && b) ≡ true → a ≡ true
and_left true b e = refl
and_left false b e = e

pub and_right : (a b : Bool) → (a && b) ≡ true → b ≡ true
and_right true b e = e
and_right false b e = absurd (true≢false (sym e))

pub left-T : (a b : Bool) → T a → T (a || b)
left-T true b t = tt
left-T false b t = absurd t

pub right-T : (a b : Bool) → T b → T (a || b)
right-T true b t = tt
right-T false b t = t

-- neither
pub nor : (a b : Bool) → T (not (a || b)) → T (not a) × T (not b)
nor true b t = absurd t
nor false true t = absurd t
nor false false t = (tt, tt)

pub nor_T : (a b : Bool) → T (not a) → T (not b) → T (not (a || b))
nor_T true b s t = absurd s
nor_T false true s t = absurd t
nor_T false false s t = tt

pub is_true : (b : Bool) → T b → b ≡ true
is_true true t = refl
is_true false t = absurd t

pub is_false : (b : Bool) → T (not b) → b ≡ false
is_false true t = absurd t
is_false false t = refl

pub cond-ap : {A B : Type 0} (f : A → B) (b : Bool) (x y : A) → cond b (f x) (f y) ≡ f (cond b x y)
cond-ap f true x y = refl
cond-ap f false x y = refl

pub or_false : (a : Bool) → (a || false) ≡ a
or_false true = refl
or_false false = refl

pub or_assoc : (a b c : Bool) → ((a || b) || c) ≡ (a || (b || c))
or_assoc true b c = refl
or_assoc false b c = refl

-- either says yes where the other does
pub bool_eq : (a b : Bool) → (T a → T b) → (T b → T a) → a ≡ b
bool_eq true true f g = refl
bool_eq true false f g = absurd (f tt)
bool_eq false true f g = absurd (g tt)
bool_eq false false f g = refl
