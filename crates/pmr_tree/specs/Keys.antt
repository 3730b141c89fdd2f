-- A quadtree as an ascending list of keys, one for each id of each leaf: a linear quadtree after I. Gargantini (1982).
use Rattle.std.specs.Prelude.{◌≡◌, ℕ, ◌+◌, ◌*◌, ◌^◌, ◌%◌, ◌<◌, ◌≤◌, Bool, not, nat_eq, List, [], ◌∷◌, ◌++◌, map, filter}
use Rattle.sand_base.specs.declared.TheConstants.{COORDINATE_BITS}
use Rattle.z_code.specs.Block.{child, code_count}
use Rattle.z_code.specs.declared.block.Block.{Block}
use Rattle.sand_model.specs.Tree.{Tree, Leaf, Inner}
use Rattle.pmr_tree.specs.Lists.{Each, RiseStrictly, is_from_to, part}

-- the key of an id in the leaf of a block; ids are below 2 ^ 32, and no row has the id 0
abbrev pub key_of : Block → ℕ → ℕ
key_of b id = b.z * 2 ^ 40 + b.level * 2 ^ 32 + id

-- the key of an empty leaf
abbrev pub mark_of : Block → ℕ
mark_of b = key_of b 0

-- the first number after the keys of all blocks inside a block
abbrev pub end_of : Block → ℕ
end_of b = (b.z + code_count b.level) * 2 ^ 40

-- the id in a key, or 0
abbrev pub id_in : ℕ → ℕ
id_in key = key % 2 ^ 32

-- the keys of a leaf: one for each id, and one of its own where it has none
abbrev pub leaf_keys : Block → List ℕ → List ℕ
leaf_keys b [] = mark_of b ∷ []
leaf_keys b (id ∷ ids) = map (key_of b) (id ∷ ids)

-- the keys of the tree of a block, in ascending order
abbrev pub keys : Block → Tree → List ℕ
keys b (Leaf ids) = leaf_keys b ids
keys b (Inner p q r s) =
    keys (child b 0) p ++ (keys (child b 1) q ++ (keys (child b 2) r ++ keys (child b 3) s))

-- the key is one of a block inside the block
abbrev pub is_inside : Block → ℕ → Bool
is_inside b = is_from_to (b.z * 2 ^ 40) (end_of b)

-- the keys of the blocks inside a block
abbrev pub keys_within : Block → List ℕ → List ℕ
keys_within b ks = filter (is_inside b) ks

-- all other keys
abbrev pub outside : Block → List ℕ → List ℕ
outside b ks = filter (λ k. not (is_inside b k)) ks

-- the keys of the block itself: none where it is no leaf
abbrev pub own : Block → List ℕ → List ℕ
own b ks = part (mark_of b) (mark_of b + 2 ^ 32) ks

-- ids that a row may have
pub record IsId (id : ℕ) : Type 0 where
  pub above_mark : 1 ≤ id
  pub small : id < 2 ^ 32

-- no level is below the finest one, and each leaf has ids of rows in ascending order
abbrev pub IsShaped : Block → Tree → Type 0
IsShaped b (Leaf ids) = (b.level ≤ COORDINATE_BITS) × (RiseStrictly ids × Each IsId ids)
IsShaped b (Inner p q r s) =
    (b.level < COORDINATE_BITS)
    × (IsShaped (child b 0) p × (IsShaped (child b 1) q × (IsShaped (child b 2) r × IsShaped (child b 3) s)))

-- the keys inside a block are those of the tree
pub record ReadsKeys (b : Block) (ks : List ℕ) (tree : Tree) : Type 0 where
  pub is : keys_within b ks ≡ keys b tree
  pub shaped : IsShaped b tree

-- the ids among a leaf's keys
abbrev pub ids_in : List ℕ → List ℕ
ids_in ks = filter (λ id. not (nat_eq id 0)) (map id_in ks)
