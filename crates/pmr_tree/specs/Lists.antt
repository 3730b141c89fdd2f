-- Ascending lists of numbers, and what puts numbers into them.
use Rattle.std.specs.Prelude.{ℕ, zero, suc, ◌<◌, Bool, false, cond, ◌&&◌, nat_le, nat_lt, nat_eq, List, [], ◌∷◌, filter}
use Rattle.sand_model.specs.Tree.{add, without}

-- a fact holds of each element
abbrev pub Each : {A : Type 0} → (A → Type 0) → List A → Type 0
Each P [] = Unit {0}
Each P (x ∷ xs) = P x × Each P xs

-- each number is above this one
abbrev pub Above : ℕ → List ℕ → Type 0
Above x = Each (λ y. x < y)

-- the numbers rise strictly, so none stands twice
abbrev pub RiseStrictly : List ℕ → Type 0
RiseStrictly [] = Unit {0}
RiseStrictly (x ∷ xs) = Above x xs × RiseStrictly xs

-- the number is from `low` on and below `high`
abbrev pub is_from_to : ℕ → ℕ → ℕ → Bool
is_from_to low high k = nat_le low k && nat_lt k high

-- the numbers of a list from `low` on and below `high`
abbrev pub part : ℕ → ℕ → List ℕ → List ℕ
part low high ks = filter (is_from_to low high) ks

-- the list with all of these numbers
abbrev pub put_all : List ℕ → List ℕ → List ℕ
put_all [] ks = ks
put_all (x ∷ xs) ks = put_all xs (add x ks)

-- the list without any of these numbers
abbrev pub take_all : List ℕ → List ℕ → List ℕ
take_all [] ks = ks
take_all (x ∷ xs) ks = take_all xs (without x ks)

-- how many numbers at the head of a list are below this one
abbrev pub place_in : ℕ → List ℕ → ℕ
place_in x [] = 0
place_in x (y ∷ ys) = cond (nat_lt y x) (suc (place_in x ys)) 0

-- the number stands at the place of a list
abbrev pub is_at : List ℕ → ℕ → ℕ → Bool
is_at [] at x = false
is_at (y ∷ ys) zero x = nat_eq y x
is_at (y ∷ ys) (suc at) x = is_at ys at x
