-- Worked cases of the definitions, computed: what a browse through a filter visits, and how a quadtree splits and merges.
use Rattle.std.proofs.Common.{◌≡◌, ℕ, ◌+◌, ◌-◌, ◌*◌, true, false, min, List, [], ◌∷◌, Some, None, pos, refl, lit≤, arith, codes}
use Rattle.exact_frac.specs.declared.TheConstants.{MAX_NUM}
use Rattle.exact_frac.specs.declared.frac.Frac.{Frac}
use Rattle.sand_base.specs.declared.goal.Goal.TheVariants as figure
use Rattle.sand_base.specs.declared.kind.Kind.TheVariants as kind
use Rattle.sand_base.specs.declared.point.Point.{Point}
use Rattle.sand_base.specs.declared.rect.Rect.{Rect}
use Rattle.sand_base.specs.declared.shape.Shape.TheVariants as shape
use Rattle.sand_base.specs.declared.value.Value.{Value}
use Rattle.sand_base.specs.declared.value.Value.TheVariants as value
use Rattle.z_code.specs.Code.{even_bits}
use Rattle.sand_model.specs.Answer.{answer}
use Rattle.sand_model.specs.Database.{Relation, Quadtree, new_relation, with_row, with_index, without_row}
use Rattle.sand_model.specs.Measure.{Measure}
use Rattle.sand_model.specs.Operators.{PlanRow}
use Rattle.statements.specs.declared.test.Op.TheVariants as op
use Rattle.statements.specs.Plan as plan
use Rattle.statements.specs.Plan.{Plan}
use Rattle.sand_model.specs.Reach.{counts}
use Rattle.sand_model.specs.Tree.{Leaf, Inner}

-- a whole number as a fraction
abbrev whole : ℕ → Frac
whole n = record { num = min n MAX_NUM; den = 1; small = omega arith; positive = lit≤ tt; fits = lit≤ tt }

-- how far a number lies outside a range
abbrev outside : ℕ → ℕ → ℕ → ℕ
outside low high v = (low - v) + (v - high)

-- the squared distance of a point from a rectangle
abbrev square_from : Rect → Point → ℕ
square_from r p =
    outside r.low.x r.high.x p.x * outside r.low.x r.high.x p.x + outside r.low.y r.high.y p.y * outside r.low.y r.high.y p.y

-- a point as a rectangle
abbrev point_rect : Point → Rect
point_rect p = record { low = p; high = p }

-- the gap of two points, or of a point and a rectangle; nothing else occurs here
abbrev measure : Measure
measure (figure.Shape (shape.Point p)) (figure.Shape (shape.Point q)) = whole (square_from (point_rect q) p)
measure (figure.Shape (shape.Point p)) (figure.Rect r) = whole (square_from r p)
measure _ _ = whole 0

-- a place with a number of people
abbrev place : ℕ → ℕ → ℕ → List Value
place x y people = value.Shape (shape.Point (record { x = x; y = y })) ∷ value.Int (pos people) ∷ []

-- a row of one id with its gap
abbrev row : ℕ → ℕ → PlanRow
row gap id = record { gap = Some (whole gap); ids = id ∷ []; values = [] }

-- three places under a quadtree that splits beyond one id
abbrev places : Relation
places =
    with_row measure (place 100 0 9) (with_row measure (place 60000 60000 1) (with_row measure (place 0 0 1)
    (with_index measure 0 (Some 1) (new_relation (codes "p") ((codes "at", kind.Point) ∷ (codes "pop", kind.Int) ∷ [])))))

-- the place with nine people, nearest first
abbrev browse : Plan
browse =
    plan.Filter (plan.Rank (record { relation = codes "p"; column = codes "at" }) (shape.Point (record { x = 0; y = 0 })) None)
    (record { place = record { k = 1; column = codes "pop" }; op = op.Equal; value = value.Int (pos 9) } ∷ [])

-- after its one row the browse has visited three blocks
three_blocks : counts measure (places ∷ []) browse 1 false ≡ record { blocks = 3; pairs = 0; geometries = 0 }
unfolding even_bits
three_blocks = refl

-- after its end it has visited all nine
nine_blocks : counts measure (places ∷ []) browse 1 true ≡ record { blocks = 9; pairs = 0; geometries = 0 }
unfolding even_bits
nine_blocks = refl

-- the three places are the rows of the whole plane by their distance, the one in the far corner last
nearest_first : answer measure (places ∷ []) (plan.SortNear (plan.Scan (codes "p")) (record { k = 1; column = codes "at" }) (shape.Point (record { x = 0; y = 0 })))
    ≡ row 0 1 ∷ row 10000 3 ∷ row 7200000000 2 ∷ []
nearest_first = refl

-- a quadtree of threshold 1 with three points in its lowest corner
abbrev corner : Relation
corner =
    with_row measure (place 3 3 1) (with_row measure (place 2 2 1) (with_row measure (place 1 1 1)
    (with_index measure 0 (Some 1) (new_relation (codes "p") ((codes "at", kind.Point) ∷ (codes "pop", kind.Int) ∷ [])))))

-- an insertion splits a leaf once: the third point finds one leaf of two, which splits, and its quarter holds all three
split_once : (corner).indexes ≡ (
  0,
  Quadtree 1 (Inner
      (Inner (Leaf (1 ∷ 2 ∷ 3 ∷ [])) (Leaf []) (Leaf []) (Leaf [])) (Leaf []) (Leaf []) (Leaf [])),
) ∷ []
unfolding even_bits
split_once = refl

-- a deletion merges nothing while four leaves side by side hold as many ids as the threshold
kept_apart : (without_row 2 (without_row 1 corner)).indexes ≡ (
  0,
  Quadtree 1 (Inner
      (Inner (Leaf (3 ∷ [])) (Leaf []) (Leaf []) (Leaf [])) (Leaf []) (Leaf []) (Leaf [])),
) ∷ []
unfolding even_bits
kept_apart = refl

-- without ids all leaves merge, from the bottom up
merged_whole : (without_row 3 (without_row 2 (without_row 1 corner))).indexes ≡ (0, Quadtree 1 (Leaf [])) ∷ []
unfolding even_bits
merged_whole = refl

-- a column of points
abbrev points : List ℕ → List (List Value) → Relation
points name rows =
    entered rows (with_index measure 0 (Some 8) (new_relation name ((codes "at", kind.Point) ∷ []))) where
      entered : List (List Value) → Relation → Relation
      entered [] relation = relation
      entered (r ∷ rs) relation = entered rs (with_row measure r relation)

-- a pair of ids with its gap
abbrev pair : ℕ → ℕ → ℕ → PlanRow
pair gap left right = record { gap = Some (whole gap); ids = left ∷ right ∷ []; values = [] }

-- a relation joined with itself: equal gaps by left id and then by right id
joined_with_itself : answer measure (points (codes "p") (place 0 0 0 ∷ place 3 4 0 ∷ []) ∷ [])
    (plan.Join (record { relation = codes "p"; column = codes "at" }) (record { relation = codes "p"; column = codes "at" }) None)
    ≡ pair 0 1 1 ∷ pair 0 2 2 ∷ pair 25 1 2 ∷ pair 25 2 1 ∷ []
joined_with_itself = refl

-- the semi-join keeps the first partner of each left row: of two at one distance the one with the lesser id
first_partner : answer measure (points (codes "a") (place 10 10 0 ∷ []) ∷ points (codes "b") (place 10 12 0 ∷ place 10 8 0 ∷ []) ∷ [])
    (plan.Semi (record { relation = codes "a"; column = codes "at" }) (record { relation = codes "b"; column = codes "at" }) None)
    ≡ pair 4 1 1 ∷ []
first_partner = refl
