-- What an entry keeps of an id: a value of the rough shape. And what a visit of a place shows.
use Rattle.std.specs.Prelude.{◌≡◌, ℕ, ◌+◌, ◌*◌, ◌^◌, List, [], map, length, ⊤}
use Rattle.sand_base.specs.Plane.{IsInPlane, IsSegmentInPlane, IsRectInPlane}
use Rattle.sand_base.specs.declared.goal.Goal.{Goal}
use Rattle.sand_base.specs.declared.goal.Goal.TheVariants as figure
use Rattle.sand_base.specs.declared.rough.Rough.{Rough}
use Rattle.sand_base.specs.declared.rough.Rough.TheVariants as rough
use Rattle.sand_base.specs.declared.shape.Shape.{Shape}
use Rattle.sand_base.specs.declared.shape.Shape.TheVariants as shape
use Rattle.sand_model.specs.Nodes.{rough_figure}
use Rattle.sand_model.specs.Tree.{Tree, Leaf, Inner}
use Rattle.pmr_tree.specs.Lists.{Each}
use Rattle.pmr_tree.specs.Keys.{id_in}
use Rattle.pmr_tree.specs.declared.listed.Listed.{Listed}
use Rattle.pmr_tree.specs.declared.listed.Node.{Node}
use Rattle.pmr_tree.specs.declared.listed.Node.TheVariants as node

-- a tag and four numbers of 31 bits
abbrev pub packed : ℕ → ℕ → ℕ → ℕ → ℕ → ℕ
packed tag a b c d = tag * 2 ^ 124 + (a * 2 ^ 93 + (b * 2 ^ 62 + (c * 2 ^ 31 + d)))

-- the value of a rough shape: tag 1 for a point, 2 for a segment, 3 for the bounding rectangle of a polygon
unfoldable pub value_of : Goal → ℕ
value_of (figure.Shape (shape.Point p)) = packed 1 p.x p.y 0 0
value_of (figure.Shape (shape.Segment s)) = packed 2 s.a.x s.a.y s.b.x s.b.y
value_of (figure.Shape (shape.Polygon corners)) = 0
value_of (figure.Rect r) = packed 3 r.low.x r.low.y r.high.x r.high.y

-- each entry of the id has the value of the shape's rough shape
abbrev pub KeepsIn : List (ℕ × ℕ) → ℕ → Shape → Type 0
KeepsIn es id s = Each (λ e. id_in e.0 ≡ id → e.1 ≡ value_of (rough_figure s)) es

-- a rough shape as a figure
abbrev pub figure_of : Rough → Goal
figure_of (rough.Point p) = figure.Shape (shape.Point p)
figure_of (rough.Segment s) = figure.Shape (shape.Segment s)
figure_of (rough.Bound r) = figure.Rect r

-- a rough shape in the plane
abbrev pub IsRoughInPlane : Rough → Type 0
IsRoughInPlane (rough.Point p) = IsInPlane p
IsRoughInPlane (rough.Segment s) = IsSegmentInPlane s
IsRoughInPlane (rough.Bound r) = IsRectInPlane r

-- the ids that a place lists, none at an inner place
abbrev pub listed_of : Node → List Listed
listed_of node.Inner = []
listed_of (node.Leaf list) = list

-- the place is the one of the tree: an inner one, or a leaf with these ids in their order
abbrev pub IsNodeOf : Tree → Node → Type 0
IsNodeOf (Leaf ids) (node.Leaf list) = map (λ l. l.id) list ≡ ids
IsNodeOf (Inner p q r s) node.Inner = ⊤
IsNodeOf _ _ = ⊥

-- the number of ids of a place, none at an inner place
abbrev pub id_count : Tree → ℕ
id_count (Leaf ids) = length ids
id_count (Inner p q r s) = 0

-- the shape is a polygon
abbrev pub IsPolygon : Shape → Type 0
IsPolygon (shape.Polygon corners) = ⊤
IsPolygon _ = ⊥
