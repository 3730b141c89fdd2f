-- What the code reads at a pair of places, and of a pair of rows, for how many gets.
use Rattle.std.specs.Prelude.{◌+◌, ◌≤◌}
use Rattle.z_code.specs.declared.block.Block.{Block}
use Rattle.sand_model.specs.Price.{pair_price}
use Rattle.sand_model.specs.Tree.{Tree, IsPlace}
use Rattle.code_btree.specs.declared.near.Near.{Near}
use Rattle.page_pool.specs.Disk.{PageMap}
use Rattle.page_pool.specs.Pool.{PoolState}
use Rattle.pmr_tree.specs.Calls.{FindsPlace, HasRoughs}
use Rattle.pmr_tree.specs.Entries.{id_count}
use Rattle.pmr_tree.specs.Quadtree.{tree_at, IsPmr, HasPlace, IsNearIn}
use Rattle.pmr_tree.specs.declared.listed.Node.{Node}
use Rattle.pmr_tree.specs.declared.quadtree.Pmr.{Pmr}

-- the value is a quadtree over the pages, and the block one of its places
abbrev pub CanLook : PageMap → Pmr → Block → Type 0
CanLook pages t b = IsPmr pages t × HasPlace (tree_at pages t) b

-- what was found is the place of the block, with the rough shapes of its ids
abbrev pub Sees : PageMap → Pmr → Block → Node → Type 0
Sees pages t b found = FindsPlace (tree_at pages t) b found × HasRoughs pages t found

-- over the pages a look at each of the two quadtrees may begin there
abbrev pub AreNear : PageMap → Pmr → Pmr → Near × Near → Type 0
AreNear pages t u near = IsNearIn pages t near.0 × IsNearIn pages u near.1

-- no more gets were made than a visit of the pair of blocks may cost
abbrev pub IsWithinPairPrice : PageMap → Pmr → Block → Pmr → Block → PoolState → PoolState → Type 0
IsWithinPairPrice pages t b u c old new = (place other : Tree) → IsPlace (tree_at pages t) b place → IsPlace (tree_at pages u) c other
    → new.gets ≤ old.gets + pair_price t.map.height (id_count place) u.map.height (id_count other)
