-- A finite map from numbers to numbers, as its pairs in ascending order of their keys.
use Rattle.std.specs.Prelude.{ℕ, ◌<◌, ◌==◌, nat_lt, List, [], ◌∷◌, ◌++◌, cond, Option, None, Some}
use Rattle.code_btree.specs.Node.{Pair}

-- a fact holds of each element
abbrev pub Each : {A : Type 0} → (A → Type 0) → List A → Type 0
Each P [] = Unit {0}
Each P (x ∷ xs) = P x × Each P xs

-- each key is above this one
abbrev pub Above : ℕ → List Pair → Type 0
Above key = Each (λ e. key < e.0)

-- each key is below this one
abbrev pub Below : ℕ → List Pair → Type 0
Below key = Each (λ e. e.0 < key)

-- the keys rise strictly, so no key stands twice
abbrev pub Ascending : List Pair → Type 0
Ascending [] = Unit {0}
Ascending (e ∷ es) = Above e.0 es × Ascending es

-- the value of a key
abbrev pub find_item : ℕ → List Pair → Option ℕ
find_item key [] = None
find_item key (e ∷ es) = cond (e.0 == key) (Some e.1) (find_item key es)

-- the pairs below a key
abbrev pub items_below : ℕ → List Pair → List Pair
items_below key [] = []
items_below key (e ∷ es) = cond (nat_lt e.0 key) (e ∷ items_below key es) (items_below key es)

-- the pairs from a key on
abbrev pub items_from : ℕ → List Pair → List Pair
items_from key [] = []
items_from key (e ∷ es) = cond (nat_lt e.0 key) (items_from key es) (e ∷ items_from key es)

-- the pairs above a key
abbrev pub items_above : ℕ → List Pair → List Pair
items_above key [] = []
items_above key (e ∷ es) = cond (nat_lt key e.0) (e ∷ items_above key es) (items_above key es)

-- the map with this pair
abbrev pub put_item : ℕ → ℕ → List Pair → List Pair
put_item key value es = items_below key es ++ ((key, value) ∷ items_above key es)

-- the map without this key
abbrev pub drop_item : ℕ → List Pair → List Pair
drop_item key es = items_below key es ++ items_above key es

-- the last pair of a list
abbrev pub last_item : List Pair → Option Pair
last_item [] = None
last_item (e ∷ []) = Some e
last_item (e ∷ (f ∷ es)) = last_item (f ∷ es)

-- the first pair of a list
abbrev pub first_item : List Pair → Option Pair
first_item [] = None
first_item (e ∷ es) = Some e

-- the pairs up to a key
abbrev pub items_upto : ℕ → List Pair → List Pair
items_upto key [] = []
items_upto key (e ∷ es) = cond (nat_lt key e.0) (items_upto key es) (e ∷ items_upto key es)

-- the pair of the greatest key not above this one
abbrev pub floor_item : ℕ → List Pair → Option Pair
floor_item key es = last_item (items_upto key es)

-- the pair of the least key not below this one
abbrev pub ceiling_item : ℕ → List Pair → Option Pair
ceiling_item key es = first_item (items_from key es)
