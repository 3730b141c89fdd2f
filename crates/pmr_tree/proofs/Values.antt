-- The values of rough shapes.
use Rattle.std.proofs.Common.{◌≡◌, refl, sym, ◌∙◌, ap}
use Rattle.sand_base.specs.Plane.{IsShapeInPlane}
use Rattle.sand_base.specs.declared.goal.Goal.TheVariants as figure
use Rattle.sand_base.specs.declared.rect.Rect.{Rect}
use Rattle.sand_base.specs.declared.point.Point.{Point}
use Rattle.sand_base.specs.declared.segment.Segment.{Segment}
use Rattle.sand_base.specs.declared.shape.Shape.{Shape}
use Rattle.sand_base.specs.declared.shape.Shape.TheVariants as shape
use Rattle.sand_model.specs.Figures.{corners_of}
use Rattle.sand_model.specs.Nodes.{rough_figure}
use Rattle.ring_geom.specs.Bounding.{IsBounding}
use Rattle.ring_geom.specs.MeasureLaws.{RoughIsBounding}
use Rattle.pmr_tree.specs.Entries.{packed, value_of, IsPolygon}

-- the rough shape of a polygon is its bounding rectangle
bound_is : RoughIsBounding → (s : Shape) (r : Rect) → IsPolygon s → IsShapeInPlane s → IsBounding (corners_of s) r → rough_figure s ≡ figure.Rect r
bound_is law (shape.Point p) r poly h b = absurd poly
bound_is law (shape.Segment s) r poly h b = absurd poly
bound_is law (shape.Polygon ring) r poly h b = law ring r h b

rect_value : (r : Rect) → value_of (figure.Rect r) ≡ packed 3 r.low.x r.low.y r.high.x r.high.y
unfolding value_of
rect_value r = refl

pub polygon_value : RoughIsBounding → (s : Shape) (r : Rect) → IsPolygon s → IsShapeInPlane s → IsBounding (corners_of s) r → packed 3 r.low.x r.low.y r.high.x r.high.y ≡ value_of (rough_figure s)
polygon_value law s r poly h b = sym (ap value_of (bound_is law s r poly h b) ∙ rect_value r)

pub point_value : (p : Point) → packed 1 p.x p.y 0 0 ≡ value_of (rough_figure (shape.Point p))
unfolding value_of
point_value p = refl

pub segment_value : (s : Segment) → packed 2 s.a.x s.a.y s.b.x s.b.y ≡ value_of (rough_figure (shape.Segment s))
unfolding value_of
segment_value s = refl
