-- Pairs of places, worked: into what they are divided, what they list, and how many stand below them.
use Rattle.std.proofs.Common.{◌≡◌, [], ◌∷◌, length, Some, refl}
use Rattle.z_code.specs.Block.{child}
use Rattle.z_code.specs.declared.block.Block.{Block}
use Rattle.sand_model.specs.Tree.{Tree, Leaf, Inner, root_block}
use Rattle.dist_join.specs.Joining.{ids_of_both, divided, pairs_under}

-- a leaf with two ids, a leaf with one, and a place with four leaves
abbrev two : Tree
two = Leaf (1 ∷ 2 ∷ [])

abbrev one : Tree
one = Leaf (3 ∷ [])

abbrev four : Tree
four = Inner one one one one

-- two inner places are divided into 16 pairs
both_inner : length (divided root_block four root_block four) ≡ 16
both_inner = refl

-- where one is a leaf only the other is divided, on either side
right_inner : (b c : Block) → divided b two c four ≡ (b, child c 0) ∷ (b, child c 1) ∷ (b, child c 2) ∷ (b, child c 3) ∷ []
right_inner b c = refl

left_inner : (b c : Block) → divided b four c two ≡ (child b 0, c) ∷ (child b 1, c) ∷ (child b 2, c) ∷ (child b 3, c) ∷ []
left_inner b c = refl

-- two leaves list each id of the one with each of the other, and are not divided
both_leaves : ids_of_both two one ≡ (1, 3) ∷ (2, 3) ∷ []
both_leaves = refl

not_divided : (b c : Block) → divided b two c one ≡ []
not_divided b c = refl

-- an inner place lists nothing
no_ids : ids_of_both four one ≡ []
no_ids = refl

-- below two places with four leaves each there are 16 pairs and the one of both; below a leaf and a place with four leaves five
all_below : length (pairs_under (root_block, root_block) (Some four) (Some four)) ≡ 17
all_below = refl

leaf_below : length (pairs_under (root_block, root_block) (Some two) (Some four)) ≡ 5
leaf_below = refl

-- a place in a deeper tree stands beside the leaf until it is divided no more: below a leaf and a tree with one deeper place there are nine pairs
deeper_below : length (pairs_under (root_block, root_block) (Some two) (Some (Inner four one one one))) ≡ 9
deeper_below = refl
