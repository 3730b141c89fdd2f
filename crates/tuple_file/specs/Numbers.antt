-- A list of numbers that copies share, and how it changes.
use Rattle.std.specs.Prelude.{◌≡◌, ℕ, ◌⊎◌, List, [], ◌∷◌, ◌++◌, set, Option, None, Some, Vec}
use Rattle.std_alloc.specs.declared.rc.counts.Rc.{Rc}

-- the numbers of the list, none where there is no list
abbrev pub numbers_in : {A B : Type 0} → Option (Rc (Vec ℕ A) B) → List ℕ
numbers_in None = []
numbers_in (Some shared) = shared.value.items

-- the number was put behind the others, or nothing was
abbrev pub Extends : List ℕ → ℕ → List ℕ → Type 0
Extends old number new = (new ≡ old ++ number ∷ []) ⊎ (new ≡ old)

-- the number in this place is 0, or there are no numbers any more
abbrev pub Clears : List ℕ → ℕ → List ℕ → Type 0
Clears old at new = (new ≡ set old at 0) ⊎ (new ≡ [])
