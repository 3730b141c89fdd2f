-- The laws for whoever tells trees and answers by a measure: over blocks, rough shapes and the leaves of quadtrees.
use Rattle.std.specs.Prelude.{◌≡◌, ◌↔◌, ℕ, ◌<◌, ◌||◌, true, IsTrue, List}
use Rattle.sand_base.specs.Plane.{IsGoalInClosedPlane, IsRectInClosedPlane, IsRing, IsShapeInClosedPlane}
use Rattle.sand_base.specs.declared.TheConstants.{COORDINATE_BITS}
use Rattle.sand_base.specs.declared.goal.Goal.{Goal}
use Rattle.sand_base.specs.declared.goal.Goal.TheVariants as goal
use Rattle.sand_base.specs.declared.point.Point.{Point}
use Rattle.sand_base.specs.declared.rect.Rect.{Rect}
use Rattle.sand_base.specs.declared.shape.Shape.{Shape}
use Rattle.sand_base.specs.declared.shape.Shape.TheVariants as shape
use Rattle.z_code.specs.Block.{IsBlock, child, square_of}
use Rattle.z_code.specs.declared.block.Block.{Block}
use Rattle.sand_model.specs.FigureGap.{IsMeeting}
use Rattle.sand_model.specs.Measure.{Measure, IsMeasure, meets}
use Rattle.sand_model.specs.Nodes.{rough_figure, square_figure}
use Rattle.sand_model.specs.Rings.{SomeOf}
use Rattle.sand_model.specs.Tree.{Tree, IsShallow, leaves, root_block}
use Rattle.exact_frac.specs.Lesser.{IsAtMost}
use Rattle.ring_geom.specs.Bounding.{IsPartOf, IsBounding, whole_square}

-- the test of a measure says whether the shape and the rectangle meet
abbrev pub TestIsMeeting : Type 0
TestIsMeeting =
    (gap : Measure) → IsMeasure gap → (s : Shape) (r : Rect) → IsShapeInClosedPlane s → IsRectInClosedPlane r
    → IsTrue (meets gap s r) ↔ IsMeeting (goal.Shape s) (goal.Rect r)

-- a shape meets the square of a block exactly where it meets that of a child
abbrev pub ChildrenMeet : Type 0
ChildrenMeet =
    (gap : Measure) → IsMeasure gap → (s : Shape) (b : Block) → IsShapeInClosedPlane s → IsBlock b → b.level < COORDINATE_BITS
    → meets gap s (square_of b)
    ≡ (meets gap s (square_of (child b 0))
    || (meets gap s (square_of (child b 1)) || (meets gap s (square_of (child b 2)) || meets gap s (square_of (child b 3)))))

-- a shape meets the square of the root
abbrev pub RootMeetsAll : Type 0
RootMeetsAll = (gap : Measure) → IsMeasure gap → (s : Shape) → IsShapeInClosedPlane s → meets gap s (square_of root_block) ≡ true

-- the square of the root is the closed square round the plane
abbrev pub RootIsWhole : Type 0
RootIsWhole = square_of root_block ≡ whole_square

-- the square of a child is a part of the square of its block
abbrev pub ChildIsPart : Type 0
ChildIsPart = (b : Block) (number : ℕ) → IsBlock b → b.level < COORDINATE_BITS → number < 4 → IsPartOf (square_of (child b number)) (square_of b)

-- the square of a block is no farther from a goal than that of a child
abbrev pub BlockIsNoFarther : Type 0
BlockIsNoFarther =
    (gap : Measure) → IsMeasure gap → (g : Goal) (b : Block) (number : ℕ) → IsGoalInClosedPlane g → IsBlock b → b.level < COORDINATE_BITS
    → number < 4 → IsAtMost (gap g (square_figure b)) (gap g (square_figure (child b number)))

-- the rough shape of a polygon is the bounding rectangle of its ring
abbrev pub RoughIsBounding : Type 0
RoughIsBounding = (ring : List Point) (r : Rect) → IsRing ring → IsBounding ring r → rough_figure (shape.Polygon ring) ≡ goal.Rect r

-- a rough shape lies in the closed square where its shape does
abbrev pub RoughIsInClosedPlane : Type 0
RoughIsInClosedPlane = (s : Shape) → IsShapeInClosedPlane s → IsGoalInClosedPlane (rough_figure s)

-- a rough shape is no farther from a goal than its shape
abbrev pub RoughIsNoFarther : Type 0
RoughIsNoFarther =
    (gap : Measure) → IsMeasure gap → (g : Goal) (s : Shape) → IsGoalInClosedPlane g → IsShapeInClosedPlane s
    → IsAtMost (gap g (rough_figure s)) (gap g (goal.Shape s))

-- and two of them are no farther apart than their shapes
abbrev pub RoughsAreNoFarther : Type 0
RoughsAreNoFarther =
    (gap : Measure) → IsMeasure gap → (a b : Shape) → IsShapeInClosedPlane a → IsShapeInClosedPlane b
    → IsAtMost (gap (rough_figure a) (rough_figure b)) (gap (goal.Shape a) (goal.Shape b))

-- of the leaves of a quadtree, the square of one meets a shape and is no farther from a goal than it
abbrev pub LeavesCover : Type 0
LeavesCover =
    (gap : Measure) → IsMeasure gap → (g : Goal) (s : Shape) (tree : Tree) → IsGoalInClosedPlane g → IsShapeInClosedPlane s → IsShallow root_block tree
    → SomeOf (λ leaf. (meets gap s (square_of leaf.0) ≡ true) × IsAtMost (gap g (square_figure leaf.0)) (gap g (goal.Shape s)))
    (leaves root_block tree)

-- and of the pairs of leaves of two, some pair of squares meets two shapes and is no farther apart than they
abbrev pub LeafPairsCover : Type 0
LeafPairsCover =
    (gap : Measure) → IsMeasure gap → (a b : Shape) (tree other : Tree) → IsShapeInClosedPlane a → IsShapeInClosedPlane b
    → IsShallow root_block tree → IsShallow root_block other
    → SomeOf (λ p. SomeOf (λ o. (meets gap a (square_of p.0) ≡ true) × (meets gap b (square_of o.0) ≡ true)
    × IsAtMost (gap (square_figure p.0) (square_figure o.0)) (gap (goal.Shape a) (goal.Shape b))) (leaves root_block other))
    (leaves root_block tree)
