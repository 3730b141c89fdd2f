-- What a build of a quadtree does.
use Rattle.std.specs.Prelude.{◌≡◌, ℕ, ◌+◌, ◌<◌, Bool, List, [], ◌∷◌, ◌++◌, map, ⊤}
use Rattle.sand_base.specs.declared.TheConstants.{COORDINATE_BITS}
use Rattle.sand_base.specs.declared.shape.Shape.{Shape}
use Rattle.z_code.specs.declared.block.Block.{Block}
use Rattle.page_pool.specs.Disk.{PageMap}
use Rattle.code_btree.specs.Calls.{Keeps}
use Rattle.code_btree.specs.Tree.{Store, IsTree, tree_items, tree_pages}
use Rattle.code_btree.specs.declared.map.Tree.{Tree}
use Rattle.sand_model.specs.Measure.{Measure, IsMeasure}
use Rattle.sand_model.specs.Database.{tree_of}
use Rattle.sand_model.specs.Tree.{listings}
use Rattle.pmr_tree.specs.Entries.{figure_of, value_of}
use Rattle.pmr_tree.specs.Keys.{key_of, mark_of, keys}
use Rattle.pmr_tree.specs.Leaves.{firsts, Passes}
use Rattle.pmr_tree.specs.Listing.{Pair}
use Rattle.pmr_tree.specs.Quadtree.{store_of, pages_at, tree_at, FitsRows}
use Rattle.pmr_tree.specs.declared.fault.PmrFault.{PmrFault}
use Rattle.pmr_tree.specs.declared.fault.PmrFault.TheVariants.{Memory, Device, Damaged, IndexFull}
use Rattle.pmr_tree.specs.declared.quadtree.Pmr.{Pmr}
use Rattle.pmr_build.specs.Bulk.{bulk}
use Rattle.pmr_build.specs.Members.{Member, member_ids, MembersPass}
use Rattle.pmr_build.specs.declared.enter.Rule.{Rule}

-- the refusal is no page's: memory, or a full index
abbrev pub IsOwnRefusal : PmrFault → Type 0
IsOwnRefusal Memory = ⊤
IsOwnRefusal Device = ⊥
IsOwnRefusal (Damaged page kept read) = ⊥
IsOwnRefusal IndexFull = ⊤

-- the entry of a member in the leaf of a block
abbrev pub member_entry : Block → Member → Pair
member_entry b i = (key_of b i.0, value_of (figure_of i.1))

-- the entries of a leaf: one for each member, and one that marks it where it has none
abbrev pub leaf_entries : Block → List Member → List Pair
leaf_entries b [] = (mark_of b, 0) ∷ []
leaf_entries b (i ∷ list) = map (member_entry b) (i ∷ list)

-- Behind the entries there are now those of the tree of a block, with the values of its members.
pub record EntersBlock (meets : Block → ℕ → Bool) (threshold : ℕ) (b : Block) (most : ℕ) (list : List Member) (old new : List Pair) : Type 0 where
  pub keys : (levels : ℕ) → levels + b.level ≡ COORDINATE_BITS
      → firsts new ≡ firsts old ++ Rattle.pmr_tree.specs.Keys.keys b (bulk meets threshold levels b most (member_ids list))
  pub values : (test : ℕ → ℕ → Bool) → MembersPass test list → Passes test old → Passes test new

-- with the tree of a block there would be more listings than the limit
abbrev pub IsTooMany : (Block → ℕ → Bool) → Rule → Block → ℕ → List Member → ℕ → Type 0
IsTooMany meets rule b most list count =
    (levels : ℕ) → levels + b.level ≡ COORDINATE_BITS → rule.limit < count + listings (bulk meets rule.threshold levels b most (member_ids list))

-- A new B+-tree of these entries, on pages that weren't live.
pub record BuildsTree (m w : Store) (t : Tree) (es : List Pair) : Type 0 where
  pub tree : IsTree w t
  pub items : tree_items w t ≡ es
  pub keeps : Keeps m w [] (tree_pages w t)

-- A new quadtree: the one that the rows make where they are entered one after another. It fits them, on pages that weren't live.
pub record BuildsQuadtree (m w : PageMap) (t : Pmr) (threshold : ℕ) (rows : List (ℕ × Shape)) : Type 0 where
  pub fits : FitsRows w t rows
  pub tree : (gap : Measure) → IsMeasure gap → tree_at w t ≡ tree_of gap rows threshold
  pub keeps : Keeps (store_of m) (store_of w) [] (pages_at w t)
