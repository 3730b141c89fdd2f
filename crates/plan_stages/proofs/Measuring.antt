-- The gap that is computed is that of plans.
use Rattle.std.proofs.Common.{◌≡◌, ℕ, List, Option, Some, option_map, ap}
use Rattle.exact_frac.specs.declared.frac.Frac.{Frac}
use Rattle.sand_base.specs.Plane.{IsShapeInPlane, IsShapeInClosedPlane}
use Rattle.sand_base.specs.declared.goal.Goal.TheVariants as figure
use Rattle.sand_base.specs.declared.shape.Shape.{Shape}
use Rattle.sand_base.specs.declared.shape.Shape.TheVariants as shape
use Rattle.sand_base.specs.declared.value.Value.TheVariants as value
use Rattle.sand_model.specs.Database.{Database}
use Rattle.sand_model.specs.FigureGap.{IsFigureGap}
use Rattle.sand_model.specs.Operators.{PlanRow, value_at, with_gap}
use Rattle.statements.specs.declared.column.Place.{Place}
use Rattle.ring_geom.proofs.EdgeLemmas.{corner_of_plane}
use Rattle.ring_geom.proofs.Farther.{gap_unique}
use Rattle.ring_geom.proofs.Measured.{measured}
use Rattle.plan_iterator.specs.Lowest.{lowest_of}
use Rattle.plan_iterator.specs.Rows.{plan_measure}
use Rattle.plan_iterator.proofs.LowestFractions.{lowest_of_value}

-- a shape of the plane lies in the closed square
pub closed_shape : (s : Shape) → IsShapeInPlane s → IsShapeInClosedPlane s
closed_shape (shape.Point p) h = corner_of_plane p h
closed_shape (shape.Segment s) h = record { a = corner_of_plane s.a h.a; b = corner_of_plane s.b h.b }
closed_shape (shape.Polygon ring) h = h

-- a gap of two shapes of the plane is that of plans
pub measure_is : (a b : Shape) (f : Frac) → IsShapeInPlane a → IsShapeInPlane b → IsFigureGap (figure.Shape a) (figure.Shape b) f
    → lowest_of f ≡ plan_measure (figure.Shape a) (figure.Shape b)
measure_is a b f ha hb h =
    let g : Frac = measured.0 (figure.Shape a) (figure.Shape b) in
    lowest_of_value f g
    (gap_unique (figure.Shape a) (figure.Shape b) f.num f.den g.num g.den h (measured.1 (figure.Shape a) (figure.Shape b) (closed_shape a ha) (closed_shape b hb)))

-- a row with the gap of the shape at its place
pub gap_given : (d : Database) (names : List (List ℕ)) (place : Place) (goal : Shape) (row : PlanRow) (s : Shape) (key : Option Frac) → value_at d names row place ≡ Some (value.Shape s)
    → option_map lowest_of key ≡ Some (plan_measure (figure.Shape goal) (figure.Shape s)) → record row { gap = option_map lowest_of key } ≡ with_gap plan_measure d names place goal row
gap_given d names place goal row s key e same =
    rw e (ap (λ (gap : Option Frac). record { gap = gap; ids = row.ids; values = row.values }) same)
