-- The members of a block, divided among its four children.
use Rattle.std.specs.Prelude.{◌≡◌, ◌↔◌, IsTrue, ℕ, suc, Bool, true, false, ⊤, cond, max, List, [], ◌∷◌, ◌++◌, filter, take, length}
use Rattle.sand_base.specs.Plane.{IsRectInClosedPlane}
use Rattle.sand_base.specs.declared.goal.Goal.TheVariants as figure
use Rattle.sand_base.specs.declared.rect.Rect.{Rect}
use Rattle.sand_base.specs.declared.shape.Shape.{Shape}
use Rattle.z_code.specs.Block.{child, square_of}
use Rattle.z_code.specs.declared.block.Block.{Block}
use Rattle.ring_geom.specs.Bounding.{Overlap}
use Rattle.sand_model.specs.FigureGap.{IsMeeting}
use Rattle.pmr_build.specs.Members.{Member}
use Rattle.pmr_build.specs.declared.divide.Division.{Division}
use Rattle.pmr_build.specs.declared.divide.Mosts.{Mosts}
use Rattle.pmr_build.specs.declared.divide.Parts.{Parts}
use Rattle.pmr_build.specs.declared.met.QuartersMet.{QuartersMet}
use Rattle.pmr_build.specs.declared.met.Squares.{Squares}

-- the rectangle is the closed square of the block, in the closed plane
abbrev pub IsSquareOf : Block → Rect → Type 0
IsSquareOf b r = (r ≡ square_of b) × IsRectInClosedPlane r

-- the four rectangles are the squares of the block's children
pub record AreSquares (b : Block) (squares : Squares) : Type 0 where
  pub first : IsSquareOf (child b 0) squares.first
  pub second : IsSquareOf (child b 1) squares.second
  pub third : IsSquareOf (child b 2) squares.third
  pub fourth : IsSquareOf (child b 3) squares.fourth

-- the answer tells whether the shape meets the square of the block
abbrev pub TellsMeeting : Shape → Block → Bool → Type 0
TellsMeeting s b met = IsTrue met ↔ IsMeeting (figure.Shape s) (figure.Rect (square_of b))

-- the four answers tell which children's squares the shape meets
pub record MeetsSquares (s : Shape) (b : Block) (met : QuartersMet) : Type 0 where
  pub first : TellsMeeting s (child b 0) met.first
  pub second : TellsMeeting s (child b 1) met.second
  pub third : TellsMeeting s (child b 2) met.third
  pub fourth : TellsMeeting s (child b 3) met.fourth

-- each square that the rectangle overlaps has the answer yes
pub record TellOverlaps (bound : Rect) (squares : Squares) (near : QuartersMet) : Type 0 where
  pub first : Overlap bound squares.first → IsTrue near.first
  pub second : Overlap bound squares.second → IsTrue near.second
  pub third : Overlap bound squares.third → IsTrue near.third
  pub fourth : Overlap bound squares.fourth → IsTrue near.fourth

-- just one of four answers is yes
abbrev pub IsJustOne : Bool → Bool → Bool → Bool → Type 0
IsJustOne true false false false = ⊤
IsJustOne false true false false = ⊤
IsJustOne false false true false = ⊤
IsJustOne false false false true = ⊤
IsJustOne _ _ _ _ = ⊥

-- the four answers are those of a test of the id at the four children
pub record AreQuartersMet (meets : Block → ℕ → Bool) (b : Block) (id : ℕ) (met : QuartersMet) : Type 0 where
  pub first : met.first ≡ meets (child b 0) id
  pub second : met.second ≡ meets (child b 1) id
  pub third : met.third ≡ meets (child b 2) id
  pub fourth : met.fourth ≡ meets (child b 3) id

-- the member is the last of those parts that it belongs to
pub record TakesIn (met : QuartersMet) (i : Member) (old new : Parts) : Type 0 where
  pub first : new.first.items ≡ old.first.items ++ cond met.first (i ∷ []) []
  pub second : new.second.items ≡ old.second.items ++ cond met.second (i ∷ []) []
  pub third : new.third.items ≡ old.third.items ++ cond met.third (i ∷ []) []
  pub fourth : new.fourth.items ≡ old.fourth.items ++ cond met.fourth (i ∷ []) []

-- those members whose shapes meet the square of the block, in their order
abbrev pub members_met : (Block → ℕ → Bool) → Block → List Member → List Member
members_met meets b list = filter (λ i. meets b i.0) list

-- behind each part there are now those of the members whose shapes meet the child's square
pub record PartsTake (meets : Block → ℕ → Bool) (b : Block) (list : List Member) (old new : Parts) : Type 0 where
  pub first : new.first.items ≡ old.first.items ++ members_met meets (child b 0) list
  pub second : new.second.items ≡ old.second.items ++ members_met meets (child b 1) list
  pub third : new.third.items ≡ old.third.items ++ members_met meets (child b 2) list
  pub fourth : new.fourth.items ≡ old.fourth.items ++ members_met meets (child b 3) list

-- leaves of these members keep so many: the threshold, or as many as they have
pub record HaveMost (threshold : ℕ) (parts : Parts) (mosts : Mosts) : Type 0 where
  pub first : mosts.first ≡ max threshold (length parts.first.items)
  pub second : mosts.second ≡ max threshold (length parts.second.items)
  pub third : mosts.third ≡ max threshold (length parts.third.items)
  pub fourth : mosts.fourth ≡ max threshold (length parts.fourth.items)

-- So many members a child keeps as a leaf, and these it has, where its block kept at most `most` of a list.
pub record IsChildOf (meets : Block → ℕ → Bool) (threshold : ℕ) (c : Block) (most : ℕ) (list : List Member) (child_most : ℕ) (part : List Member) : Type 0 where
  pub keeps : child_most ≡ max threshold (length (members_met meets c (take (suc most) list)))
  pub part_is : part ≡ members_met meets c list

-- the four children of a block that kept at most `most` of these members
pub record AreDivided (meets : Block → ℕ → Bool) (threshold : ℕ) (b : Block) (most : ℕ) (list : List Member) (d : Division) : Type 0 where
  pub first : IsChildOf meets threshold (child b 0) most list d.mosts.first d.parts.first.items
  pub second : IsChildOf meets threshold (child b 1) most list d.mosts.second d.parts.second.items
  pub third : IsChildOf meets threshold (child b 2) most list d.mosts.third d.parts.third.items
  pub fourth : IsChildOf meets threshold (child b 3) most list d.mosts.fourth d.parts.fourth.items
