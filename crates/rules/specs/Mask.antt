-- Masks: a request, and a set of kept fields, is a list of yes and no as long as the fields that it speaks of.
use Rattle.std.specs.Prelude.{List, [], ◌∷◌, map, Bool, true, false, ◌||◌, ℕ, suc, T}
use Rattle.cpl.specs.Lists.{All2}

abbrev pub Mask : Type 0
Mask = List Bool

-- the elements where the mask says yes
unfoldable pub select : {A : Type 0} → Mask → List A → List A
select [] xs = []
select (b ∷ bs) [] = []
select (true ∷ bs) (x ∷ xs) = x ∷ select bs xs
select (false ∷ bs) (x ∷ xs) = select bs xs

-- what either mask has
unfoldable pub or_m : Mask → Mask → Mask
or_m [] bs = []
or_m (a ∷ rs) [] = []
or_m (a ∷ rs) (b ∷ bs) = (a || b) ∷ or_m rs bs

-- all of the fields, and none
unfoldable pub ones : {A : Type 0} → List A → Mask
ones xs = map (λ x. true) xs

unfoldable pub zeros : {A : Type 0} → List A → Mask
zeros xs = map (λ x. false) xs

-- how many
unfoldable pub count_m : Mask → ℕ
count_m [] = 0
count_m (true ∷ ks) = suc (count_m ks)
count_m (false ∷ ks) = count_m ks

-- b implies k
abbrev pub LeB : Bool → Bool → Type 0
LeB true k = T k
LeB false k = Unit {0}

-- the first is contained in the second, and they are equally long
abbrev pub LeM : Mask → Mask → Type 0
LeM rs ks = All2 LeB rs ks
