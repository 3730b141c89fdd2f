-- Shapes, values and the kinds of columns that hold them.
use Rattle.std.specs.Prelude.{Bool, true, false}
use Rattle.sand_base.specs.declared.kind.Kind.{Kind}
use Rattle.sand_base.specs.declared.kind.Kind.TheVariants as kind
use Rattle.sand_base.specs.declared.shape.Shape.{Shape}
use Rattle.sand_base.specs.declared.shape.Shape.TheVariants as shape
use Rattle.sand_base.specs.declared.value.Value.{Value}
use Rattle.sand_base.specs.declared.value.Value.TheVariants as value

-- the kind of a shape
abbrev pub kind_of : Shape → Kind
kind_of (shape.Point p) = kind.Point
kind_of (shape.Segment s) = kind.Segment
kind_of (shape.Polygon corners) = kind.Polygon

-- the kind of a value
abbrev pub value_kind : Value → Kind
value_kind (value.Int n) = kind.Int
value_kind (value.Text text) = kind.Text
value_kind (value.Shape s) = kind_of s

-- two kinds are one
abbrev pub same_kind : Kind → Kind → Bool
same_kind kind.Int kind.Int = true
same_kind kind.Text kind.Text = true
same_kind kind.Point kind.Point = true
same_kind kind.Segment kind.Segment = true
same_kind kind.Polygon kind.Polygon = true
same_kind _ _ = false

-- columns of the kind hold shapes
abbrev pub is_spatial : Kind → Bool
is_spatial kind.Int = false
is_spatial kind.Text = false
is_spatial _ = true
