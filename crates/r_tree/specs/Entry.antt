-- What a node's entries keep (A. Guttman, 1984): rough shapes with their ids, rectangles with the pages under them, and the least rectangle round them.
use Rattle.std.specs.Prelude.{ℕ, Bool, ◌&&◌, nat_le, min, max, List, [], ◌∷◌, map, Option, None, Some}
use Rattle.sand_base.specs.declared.point.Point.{Point}
use Rattle.sand_base.specs.declared.rect.Rect.{Rect}
use Rattle.sand_base.specs.declared.rough.Rough.{Rough}
use Rattle.sand_base.specs.declared.rough.Rough.TheVariants as rough
use Rattle.r_tree.specs.declared.entry.NodeEntry.{NodeEntry}

-- an id with its rough shape, which is what a tree lists
abbrev pub Member : Type 0
Member = ℕ × Rough

-- the least closed rectangle that has both points
abbrev pub rect_of_ends : Point → Point → Rect
rect_of_ends p q = record {
  low = record { x = min p.x q.x; y = min p.y q.y };
  high = record { x = max p.x q.x; y = max p.y q.y };
}

-- the least closed rectangle round a rough shape
abbrev pub box_of : Rough → Rect
box_of (rough.Point p) = record { low = p; high = p }
box_of (rough.Segment s) = rect_of_ends s.a s.b
box_of (rough.Bound r) = r

-- the least closed rectangle that holds both rectangles
abbrev pub rect_union : Rect → Rect → Rect
rect_union a b = record {
  low = record { x = min a.low.x b.low.x; y = min a.low.y b.low.y };
  high = record { x = max a.high.x b.high.x; y = max a.high.y b.high.y };
}

-- the same, where either may be missing
abbrev pub union_of : Option Rect → Option Rect → Option Rect
union_of None b = b
union_of (Some a) None = Some a
union_of (Some a) (Some b) = Some (rect_union a b)

-- the least rectangle round rough shapes, if there is any
abbrev pub hull : List Rough → Option Rect
hull [] = None
hull (r ∷ rs) = union_of (Some (box_of r)) (hull rs)

-- the first rectangle holds the second
abbrev pub covers : Rect → Rect → Bool
covers r b = (nat_le r.low.x b.low.x && nat_le r.low.y b.low.y) && (nat_le b.high.x r.high.x && nat_le b.high.y r.high.y)

-- an entry of an inner node: a rectangle, and the page of the child under it
abbrev pub branch : Rect → ℕ → NodeEntry
branch r child = record { rough = rough.Bound r; id = 0; child = child }

-- what an entry of a leaf lists
abbrev pub member_of : NodeEntry → Member
member_of e = (e.id, e.rough)

-- what the entries of a leaf list
abbrev pub members_of : List NodeEntry → List Member
members_of es = map member_of es

-- the least rectangle round the entries of a node
abbrev pub bound_of : List NodeEntry → Option Rect
bound_of es = hull (map (λ e. e.rough) es)

-- the least rectangle round the shapes that are listed
abbrev pub bound_of_members : List Member → Option Rect
bound_of_members is = hull (map (λ i. i.1) is)

-- the ids that are listed
abbrev pub member_ids : List Member → List ℕ
member_ids is = map (λ i. i.0) is
