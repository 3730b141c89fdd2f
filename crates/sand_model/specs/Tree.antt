-- The PMR quadtree as a value: a leaf splits once where an insertion fills it beyond a threshold. After R. C. Nelson
-- and H. Samet (1986) and H. Samet (2006). That four leaves merge where a deletion leaves fewer ids than the threshold is our own rule.
use Rattle.std.specs.Prelude.{◌≡◌, ◌⊎◌, ℕ, ◌+◌, Bool, true, false, cond, nat_eq, nat_lt, ◌&&◌, not, max, List, [], ◌∷◌, ◌++◌, length, filter, Contains}
use Rattle.sand_base.specs.declared.TheConstants.{COORDINATE_BITS}
use Rattle.z_code.specs.Block.{child}
use Rattle.z_code.specs.declared.block.Block.{Block}

-- a leaf with its ids in ascending order, or an inner place with its four children in the order of their codes
pub data Tree : Type 0 where
  Leaf : List ℕ → Tree
  Inner : Tree → Tree → Tree → Tree → Tree

-- the block of the whole plane, the root of every tree
abbrev pub root_block : Block
root_block = record { z = 0; level = 0 }

-- the tree without ids
abbrev pub empty_tree : Tree
empty_tree = Leaf []

-- an ascending list with one number more; one that is there stays once
abbrev pub add : ℕ → List ℕ → List ℕ
add x [] = x ∷ []
add x (y ∷ ys) = cond (nat_lt x y) (x ∷ y ∷ ys) (cond (nat_lt y x) (y ∷ add x ys) (y ∷ ys))

-- the numbers of both lists, ascending, each once
abbrev pub union : List ℕ → List ℕ → List ℕ
union [] ys = ys
union (x ∷ xs) ys = add x (union xs ys)

-- the numbers of four lists
abbrev pub union_of_four : List ℕ → List ℕ → List ℕ → List ℕ → List ℕ
union_of_four p q r s = union p (union q (union r s))

-- the list without the number
abbrev pub without : ℕ → List ℕ → List ℕ
without id ids = filter (λ other. not (nat_eq other id)) ids

-- four leaves in place of one, each with the ids whose shapes meet its square
abbrev pub split : (Block → ℕ → Bool) → Block → List ℕ → Tree
split meets b ids =
    Inner (Leaf (filter (meets (child b 0)) ids)) (Leaf (filter (meets (child b 1)) ids))
    (Leaf (filter (meets (child b 2)) ids)) (Leaf (filter (meets (child b 3)) ids))

-- a leaf that took an id: it splits once where it holds more ids than the threshold and isn't of the finest level
abbrev pub settled : (Block → ℕ → Bool) → ℕ → Block → List ℕ → Tree
settled meets threshold b ids =
    cond (nat_lt threshold (length ids) && nat_lt b.level COORDINATE_BITS) (split meets b ids) (Leaf ids)

-- the tree of a block with one id more, which each leaf takes whose square the shape of the id meets
abbrev pub grown : (Block → ℕ → Bool) → ℕ → ℕ → Block → Tree → Tree
grown meets threshold id b (Leaf ids) = cond (meets b id) (settled meets threshold b (add id ids)) (Leaf ids)
grown meets threshold id b (Inner p q r s) =
    Inner (grown meets threshold id (child b 0) p) (grown meets threshold id (child b 1) q)
    (grown meets threshold id (child b 2) r) (grown meets threshold id (child b 3) s)

-- an inner place: one leaf in its place where its children are four leaves with fewer ids together than the threshold
abbrev pub merged : ℕ → Tree → Tree → Tree → Tree → Tree
merged threshold (Leaf p) (Leaf q) (Leaf r) (Leaf s) =
    cond (nat_lt (length (union_of_four p q r s)) threshold) (Leaf (union_of_four p q r s)) (Inner (Leaf p) (Leaf q) (Leaf r) (Leaf s))
merged threshold p q r s = Inner p q r s

-- the tree without an id, which leaves every leaf; places merge from the bottom up
abbrev pub shrunk : ℕ → ℕ → Tree → Tree
shrunk threshold id (Leaf ids) = Leaf (without id ids)
shrunk threshold id (Inner p q r s) =
    merged threshold (shrunk threshold id p) (shrunk threshold id q) (shrunk threshold id r) (shrunk threshold id s)

-- the sum over the leaves of the number of their ids, an empty leaf counting 1
abbrev pub listings : Tree → ℕ
listings (Leaf ids) = max 1 (length ids)
listings (Inner p q r s) = listings p + (listings q + (listings r + listings s))

-- the places of the tree of a block, each with its block, a place before its children
abbrev pub places : Block → Tree → List (Block × Tree)
places b (Leaf ids) = (b, Leaf ids) ∷ []
places b (Inner p q r s) =
    (b, Inner p q r s) ∷ places (child b 0) p ++ (places (child b 1) q ++ (places (child b 2) r ++ places (child b 3) s))

-- the leaves of the tree of a block, each with its block, in the order of their codes
abbrev pub leaves : Block → Tree → List (Block × List ℕ)
leaves b (Leaf ids) = (b, ids) ∷ []
leaves b (Inner p q r s) =
    leaves (child b 0) p ++ (leaves (child b 1) q ++ (leaves (child b 2) r ++ leaves (child b 3) s))

-- the block is a place of the tree, with this tree under it
abbrev pub IsPlace : Tree → Block → Tree → Type 0
IsPlace tree b place = Contains (places root_block tree) (b, place)

-- some leaf lists the id
abbrev pub Lists : Tree → ℕ → Type 0
Lists (Leaf ids) id = Contains ids id
Lists (Inner p q r s) id = Lists p id ⊎ (Lists q id ⊎ (Lists r id ⊎ Lists s id))

-- the tree of a block fits the ids: each leaf lists exactly those whose shapes meet its square
abbrev pub Fits : (Block → ℕ → Bool) → List ℕ → Block → Tree → Type 0
Fits meets ids b (Leaf listed) = listed ≡ filter (meets b) ids
Fits meets ids b (Inner p q r s) =
    Fits meets ids (child b 0) p × (Fits meets ids (child b 1) q × (Fits meets ids (child b 2) r × Fits meets ids (child b 3) s))

-- no level is below the finest one
abbrev pub IsShallow : Block → Tree → Type 0
IsShallow b (Leaf ids) = Unit {0}
IsShallow b (Inner p q r s) =
    (nat_lt b.level COORDINATE_BITS ≡ true)
    × (IsShallow (child b 0) p × (IsShallow (child b 1) q × (IsShallow (child b 2) r × IsShallow (child b 3) s)))

-- four leaves side by side hold at least as many ids together as the threshold
abbrev pub HasEnough : ℕ → Tree → Tree → Tree → Tree → Type 0
HasEnough threshold (Leaf p) (Leaf q) (Leaf r) (Leaf s) = nat_lt (length (union_of_four p q r s)) threshold ≡ false
HasEnough threshold p q r s = Unit {0}

-- no inner place of the tree is one that a deletion would have merged
abbrev pub IsFull : ℕ → Tree → Type 0
IsFull threshold (Leaf ids) = Unit {0}
IsFull threshold (Inner p q r s) =
    HasEnough threshold p q r s × (IsFull threshold p × (IsFull threshold q × (IsFull threshold r × IsFull threshold s)))
