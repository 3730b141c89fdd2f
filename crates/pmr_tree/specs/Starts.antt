-- Where a change by one shape may begin: at a leaf that alone has the shape in its square.
use Rattle.std.specs.Prelude.{◌≡◌, ◌⊎◌, ◌&&◌, ℕ, nat_lt, Bool, true, false, List}
use Rattle.sand_base.specs.declared.point.Point.{Point}
use Rattle.sand_base.specs.declared.shape.Shape.{Shape}
use Rattle.sand_base.specs.declared.shape.Shape.TheVariants as shape
use Rattle.z_code.specs.Block.{IsBlock, HasCode, child, square_of}
use Rattle.z_code.specs.declared.block.Block.{Block}
use Rattle.sand_model.specs.Tree.{Tree, Leaf, Inner, root_block}
use Rattle.pmr_tree.specs.Lists.{RiseStrictly}
use Rattle.pmr_tree.specs.Keys.{ReadsKeys}

-- whether the point lies in the square of the block, on none of its sides
abbrev pub has_inside : Block → Point → Bool
has_inside b p =
    ((nat_lt (square_of b).low.x p.x && nat_lt p.x (square_of b).high.x) && nat_lt (square_of b).low.y p.y) && nat_lt p.y (square_of b).high.y

-- the block is that of a leaf in the tree of another one
abbrev pub IsLeafIn : Block → Tree → Block → Type 0
IsLeafIn b (Leaf ids) leaf = leaf ≡ b
IsLeafIn b (Inner p q r s) leaf =
    IsLeafIn (child b 0) p leaf ⊎ (IsLeafIn (child b 1) q leaf ⊎ (IsLeafIn (child b 2) r leaf ⊎ IsLeafIn (child b 3) s leaf))

-- the shape is a point inside the square of the block
abbrev pub IsPointInside : Shape → Block → Type 0
IsPointInside (shape.Point p) b = has_inside b p ≡ true
IsPointInside _ b = ⊥

-- a change by the shape may begin at the block: it is the root, or a leaf with the shape inside its square
abbrev pub MayBeginAt : Shape → Tree → Block → Type 0
MayBeginAt s tree b = (b ≡ root_block) ⊎ (IsPointInside s b × IsLeafIn root_block tree b)

-- two blocks have no code in common
abbrev pub AreApart : Block → Block → Type 0
AreApart c l = (z : ℕ) → HasCode c z → HasCode l z → ⊥

-- the shape of the id meets each block that has the codes of this one, and none that has no code of it
pub record MeetsAlone (m : Block → ℕ → Bool) (id : ℕ) (l : Block) : Type 0 where
  pub met : (c : Block) → IsBlock c → ((z : ℕ) → HasCode l z → HasCode c z) → m c id ≡ true
  pub alone : (c : Block) → IsBlock c → AreApart c l → m c id ≡ false

-- the keys ascend, and those inside a block are the keys of a tree with this leaf
pub record HasLeaf (leaf b : Block) (ks : List ℕ) : Type 0 where
  pub rises : RiseStrictly ks
  pub tree : Tree
  pub reads : ReadsKeys b ks tree
  pub at : IsLeafIn b tree leaf
