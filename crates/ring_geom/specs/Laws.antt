-- The laws of insides and gaps that searches rest on: nothing nearer is lost on the way from a rectangle to what lies in it.
use Rattle.std.specs.Prelude.{◌≡◌, ◌↔◌, List, [], ◌∷◌, ◌++◌}
use Rattle.std.specs.declared.cmp.Ordering.TheVariants.{Equal}
use Rattle.exact_frac.specs.Frac.{value_cmp}
use Rattle.exact_frac.specs.declared.frac.Frac.{Frac}
use Rattle.sand_base.specs.Plane.{IsGoalInClosedPlane, IsShapeInClosedPlane}
use Rattle.sand_base.specs.declared.goal.Goal.{Goal}
use Rattle.sand_base.specs.declared.goal.Goal.TheVariants as goal
use Rattle.sand_base.specs.declared.point.Point.{Point}
use Rattle.sand_base.specs.declared.rect.Rect.{Rect}
use Rattle.sand_base.specs.declared.shape.Shape.{Shape}
use Rattle.sand_base.specs.declared.shape.Shape.TheVariants as shape
use Rattle.sand_model.specs.FigureGap.{IsFigureGap, IsMeeting}
use Rattle.sand_model.specs.Measure.{Measure, IsMeasure}
use Rattle.sand_model.specs.Figures.{corners_of}
use Rattle.sand_model.specs.Rings.{SomeOf, edges, IsInside}
use Rattle.exact_frac.specs.Lesser.{IsAtMost}
use Rattle.plane_geom.specs.Rectangles.{IsCovered}
use Rattle.ring_geom.specs.Bounding.{AreCovered, IsPartOf, whole_square}
use Rattle.ring_geom.specs.Quarters.{low_low, high_low, low_high, high_high, MeetsAQuarter, Tiles}

-- the grid points of a rectangle that no edge of a ring meets are all inside the ring, or none is
abbrev pub RegionIsOneSide : Type 0
RegionIsOneSide =
    (ring : List Point) (r : Rect) → ¬ SomeOf (λ e. IsMeeting (goal.Shape (shape.Segment e)) (goal.Rect r)) (edges ring)
    → (v w : Point) → IsCovered v r → IsCovered w r → IsInside ring v → IsInside ring w

-- all fractions that are the gap of two figures have one value
abbrev pub GapIsOne : Type 0
GapIsOne = (a b : Goal) (f h : Frac) → IsFigureGap a b f → IsFigureGap a b h → value_cmp f h ≡ Equal

-- each two figures of the closed square have a gap that is a fraction, so a measure exists
abbrev pub GapExists : Type 0
GapExists = (gap : Measure) × IsMeasure gap

-- the gap is the same the other way round
abbrev pub GapIsSymmetric : Type 0
GapIsSymmetric = (a b : Goal) (f : Frac) → IsFigureGap a b f → IsFigureGap b a f

-- two figures meet where the numerator of their gap is 0
abbrev pub ZeroIsMeeting : Type 0
ZeroIsMeeting = (a b : Goal) (f : Frac) → IsFigureGap a b f → (f.num ≡ 0) ↔ IsMeeting a b

-- the two figures are no farther apart than the fraction says
abbrev pub IsNoFarther : Goal → Goal → Frac → Type 0
IsNoFarther a b f = (h : Frac) → IsFigureGap a b h → IsAtMost h f

-- a rectangle that holds all vertices of a shape is no farther from a goal than the shape
abbrev pub BoundIsNoFarther : Type 0
BoundIsNoFarther =
    (g : Goal) (s : Shape) (r : Rect) (f : Frac) → IsGoalInClosedPlane g → AreCovered (corners_of s) r → IsFigureGap g (goal.Shape s) f
    → IsNoFarther g (goal.Rect r) f

-- and two of them are no farther apart than their shapes
abbrev pub BoundsAreNoFarther : Type 0
BoundsAreNoFarther =
    (a b : Shape) (r t : Rect) (f : Frac) → AreCovered (corners_of a) r → AreCovered (corners_of b) t
    → IsFigureGap (goal.Shape a) (goal.Shape b) f → IsNoFarther (goal.Rect r) (goal.Rect t) f

-- a rectangle is no farther from a goal than its parts
abbrev pub WholeIsNoFarther : Type 0
WholeIsNoFarther =
    (g : Goal) (q r : Rect) (f : Frac) → IsGoalInClosedPlane g → IsPartOf q r → IsFigureGap g (goal.Rect q) f → IsNoFarther g (goal.Rect r) f

-- and two of them are no farther apart than their parts
abbrev pub WholesAreNoFarther : Type 0
WholesAreNoFarther =
    (q r p t : Rect) (f : Frac) → IsPartOf q r → IsPartOf p t → IsFigureGap (goal.Rect q) (goal.Rect p) f
    → IsNoFarther (goal.Rect r) (goal.Rect t) f

-- a figure meets a rectangle exactly where it meets one of its closed quarters at a grid point
abbrev pub QuartersMeet : Type 0
QuartersMeet = (a : Goal) (r : Rect) (c : Point) → IsCovered c r → IsMeeting a (goal.Rect r) ↔ MeetsAQuarter a r c

-- a rectangle that holds the vertices of a shape meets it
abbrev pub HoldersMeet : Type 0
HoldersMeet = (s : Shape) (r : Rect) → IsShapeInClosedPlane s → AreCovered (corners_of s) r → IsMeeting (goal.Shape s) (goal.Rect r)

-- the whole square holds the vertices of each shape
abbrev pub SquareHoldsAll : Type 0
SquareHoldsAll = (s : Shape) → IsShapeInClosedPlane s → AreCovered (corners_of s) whole_square

-- a rectangle tiles itself
abbrev pub WholeTiles : Type 0
WholeTiles = (r : Rect) → Tiles r (r ∷ [])

-- tiles of the four quarters are tiles of the rectangle
abbrev pub QuartersTile : Type 0
QuartersTile =
    (r : Rect) (c : Point) (ls ms ns os : List Rect) → IsCovered c r → Tiles (low_low r c) ls → Tiles (high_low r c) ms
    → Tiles (low_high r c) ns → Tiles (high_high r c) os → Tiles r (ls ++ (ms ++ (ns ++ os)))

-- of the tiles of a rectangle that holds the vertices of a shape, one meets the shape and is no farther from a goal than it
abbrev pub TilesCover : Type 0
TilesCover =
    (g : Goal) (s : Shape) (root : Rect) (parts : List Rect) (f : Frac) → IsGoalInClosedPlane g → AreCovered (corners_of s) root
    → Tiles root parts → IsFigureGap g (goal.Shape s) f
    → SomeOf (λ part. IsMeeting (goal.Shape s) (goal.Rect part) × IsNoFarther g (goal.Rect part) f) parts

-- and of the tiles of two such rectangles, some pair meets the two shapes and is no farther apart than they
abbrev pub TilesCoverPairs : Type 0
TilesCoverPairs =
    (a b : Shape) (root other : Rect) (parts others : List Rect) (f : Frac) → AreCovered (corners_of a) root
    → AreCovered (corners_of b) other → Tiles root parts → Tiles other others → IsFigureGap (goal.Shape a) (goal.Shape b) f
    → SomeOf (λ p. SomeOf (λ o. IsMeeting (goal.Shape a) (goal.Rect p) × IsMeeting (goal.Shape b) (goal.Rect o) × IsNoFarther (goal.Rect p) (goal.Rect o) f)
    others) parts
