-- The tree of a block from all ids that meet its square: what it becomes where they are entered one after another, told by
-- blocks from the root down. After R. C. Nelson and H. Samet (1986); bulk loading of PMR quadtrees after G. R. Hjaltason and H. Samet (2002).
use Rattle.std.specs.Prelude.{ℕ, zero, suc, Bool, cond, nat_lt, max, List, [], ◌∷◌, length, filter, take}
use Rattle.z_code.specs.Block.{child}
use Rattle.z_code.specs.declared.block.Block.{Block}
use Rattle.sand_model.specs.Tree.{Tree, Leaf, Inner, grown}

-- the tree of a block when these ids were entered, one after another
abbrev pub grown_by : (Block → ℕ → Bool) → ℕ → Block → List ℕ → Tree → Tree
grown_by meets threshold b [] tree = tree
grown_by meets threshold b (id ∷ ids) tree = grown_by meets threshold b ids (grown meets threshold id b tree)

-- so many ids a block keeps as a leaf that came to be with those of these that meet its square: the threshold, or more where it began with more
abbrev pub leaf_room : (Block → ℕ → Bool) → ℕ → Block → List ℕ → ℕ
leaf_room meets threshold b there = max threshold (length (filter (meets b) there))

-- The tree of a block, so many levels above the finest, of the ids that meet its square. It is a leaf of at most so many ids; else
-- it was divided when one more came, and each child began with those that met it then.
abbrev pub bulk : (Block → ℕ → Bool) → ℕ → ℕ → Block → ℕ → List ℕ → Tree
bulk meets threshold zero b most ids = Leaf ids
bulk meets threshold (suc levels) b most ids =
    let there = take (suc most) ids in
    cond (nat_lt most (length ids))
    (Inner (bulk meets threshold levels (child b 0) (leaf_room meets threshold (child b 0) there) (filter (meets (child b 0)) ids))
    (bulk meets threshold levels (child b 1) (leaf_room meets threshold (child b 1) there) (filter (meets (child b 1)) ids))
    (bulk meets threshold levels (child b 2) (leaf_room meets threshold (child b 2) there) (filter (meets (child b 2)) ids))
    (bulk meets threshold levels (child b 3) (leaf_room meets threshold (child b 3) there) (filter (meets (child b 3)) ids))) (Leaf ids)
