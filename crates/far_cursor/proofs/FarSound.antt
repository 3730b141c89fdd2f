-- The keys of a quadtree searched farthest first meet what a hierarchy asks.
use Rattle.sand_model.specs.Sources.{spot_figure}
use Rattle.std.proofs.Common.{◌≡◌, inl, inr, ⊎_elim, ℕ, ◌*◌, ◌^◌, ◌<◌, ◌≤◌, min, max, true, List, [], ◌∷◌, map, sym, subst, arith}
use Rattle.exact_frac.specs.declared.frac.Frac.{Frac}
use Rattle.std.proofs.lemmas.Bool.{cases_lt}
use Rattle.sand_base.specs.Plane.{IsInClosedPlane, IsShapeInClosedPlane}
use Rattle.sand_base.specs.declared.TheConstants.{COORDINATE_BITS}
use Rattle.sand_base.specs.declared.goal.Goal.TheVariants as figure
use Rattle.sand_base.specs.declared.point.Point.{Point}
use Rattle.sand_base.specs.declared.rect.Rect.{Rect}
use Rattle.sand_base.specs.declared.shape.Shape.{Shape}
use Rattle.sand_base.specs.declared.shape.Shape.TheVariants as shape
use Rattle.z_code.specs.Block.{IsBlock, child, square_of}
use Rattle.z_code.specs.declared.block.Block.{Block}
use Rattle.z_code.proofs.Blocks.{square_in_closed_plane}
use Rattle.z_code.proofs.Children.{child_block}
use Rattle.sand_model.specs.FigureGap.{IsMeeting}
use Rattle.sand_model.specs.Measure.{Measure, IsMeasure, meets}
use Rattle.sand_model.specs.Nodes.{rough_figure, square_figure, bound_from}
use Rattle.sand_model.specs.Rings.{SomeOf}
use Rattle.sand_model.specs.Tree.{Tree, leaves, root_block, IsShallow}
use Rattle.ring_geom.specs.Bounding.{AreCovered, IsPartOf, whole_square}
use Rattle.ring_geom.proofs.BlockLemmas.{child_part, root_is_block, leaf_blocks, some_with_each, meets_is_meeting}
use Rattle.ring_geom.proofs.BoundingLemmas.{self_covered}
use Rattle.ring_geom.proofs.Covers.{holder_meets, square_holds}
use Rattle.ring_geom.proofs.Measured.{measured}
use Rattle.ring_geom.proofs.Region.{in_order}
use Rattle.ring_geom.proofs.TreeLaws.{leaves_cover}
use Rattle.best_first.specs.Reach.{IsAtMost}
use Rattle.best_first.proofs.Gaps.{at_most_itself}
use Rattle.rank_cursor.specs.Cursor.{the_measure}
use Rattle.far_cursor.specs.Farthest.{spot_gap, greatest_of, diagonal, farthest, key_of_gap, key_of_rect}
use Rattle.far_cursor.specs.FarAnswer.{HasFarCorner}
use Rattle.far_cursor.specs.FarRanking.{key_from}
use Rattle.far_cursor.proofs.Axes.{by_axes, farthest_is, axis_short, part_nearer}
use Rattle.far_cursor.proofs.Reaching.{met_near}
use Rattle.far_cursor.proofs.KeyOrder.{IsShort, lacks_less, lacks_back}

-- ---- rectangles

-- a rectangle's key is at most that of a part of it
pub part_key : (p : Point) (q r : Rect) → q.low.x ≤ q.high.x → q.low.y ≤ q.high.y → IsPartOf q r → IsAtMost (key_of_rect p r) (key_of_rect p q)
part_key p q r ox oy h = lacks_less diagonal (farthest p r) 1 (farthest p q) 1 (single (farthest p q) (farthest p r) (farthest_is p q) (farthest_is p r) (part_nearer p q r ox oy h))
  where
    single : (a b : ℕ) → a ≡ by_axes p q → b ≡ by_axes p r → by_axes p q ≤ by_axes p r → a * 1 ≤ b * 1
    single a b e f h = omega arith

-- a block's key is at most its child's
pub child_key : (p : Point) (b : Block) (i : ℕ) → IsBlock b → b.level < COORDINATE_BITS → i < 4 → IsAtMost (key_of_rect p (square_of b)) (key_of_rect p (square_of (child b i)))
child_key p b i h above small =
    let square = square_in_closed_plane (child b i) (child_block b h above i small) in
    part_key p (square_of (child b i)) (square_of b) square.x square.y (child_part b h above i small)

-- ---- shapes

-- the key of a rectangle that a shape meets is at most the shape's
pub met_key : (p : Point) (s : Shape) (r : Rect) → IsInClosedPlane p → IsShapeInClosedPlane s → IsMeeting (figure.Shape s) (figure.Rect r) → IsAtMost (key_of_rect p r) (key_from p (figure.Shape s))
met_key p s r hp hs met =
    let f = the_measure (spot_figure p) (figure.Shape s) in
    lacks_less diagonal (farthest p r) 1 f.num f.den
    (single f.num f.den (farthest p r) (by_axes p r) (farthest_is p r) (met_near p s r f.num f.den met (measured.1 (spot_figure p) (figure.Shape s) hp hs)))
  where
    single : (n d a b : ℕ) → a ≡ b → n ≤ b * d → n * 1 ≤ a * d
    single n d a b e h = subst (λ x. n * 1 ≤ x * d) (sym e) (once n (b * d) h)
      where
        once : (n m : ℕ) → n ≤ m → n * 1 ≤ m
        once n m h = omega arith

-- a gap from a point is no greater than the diagonal, by any measure
pub gap_short : (gap : Measure) → IsMeasure gap → (p : Point) (s : Shape) → IsInClosedPlane p → IsShapeInClosedPlane s → IsShort (gap (spot_figure p) (figure.Shape s))
gap_short gap is p s hp hs =
    let f = gap (spot_figure p) (figure.Shape s) in
    let near = met_near p s whole_square f.num f.den (holder_meets s whole_square hs (square_holds s hs)) (is (spot_figure p) (figure.Shape s) hp hs) in
    let x = axis_short p.x 0 (2 ^ COORDINATE_BITS) hp.x (omega arith) (same (2 ^ COORDINATE_BITS)) in
    let y = axis_short p.y 0 (2 ^ COORDINATE_BITS) hp.y (omega arith) (same (2 ^ COORDINATE_BITS)) in
    through f.num (by_axes p whole_square) diagonal f.den near (omega arith)
  where
    same : (n : ℕ) → n ≤ n
    same n = omega arith

    through : (n a b d : ℕ) → n ≤ a * d → a ≤ b → n ≤ b * d
    through n a b d h k = let more : d * a ≤ d * b = Rattle.std.proofs.Math.Nat.mul-le-mul_left d k in omega arith

-- a wider rectangle holds what one holds
wider : (ps : List Point) (q r : Rect) → r.low.x ≤ q.low.x → q.high.x ≤ r.high.x → r.low.y ≤ q.low.y → q.high.y ≤ r.high.y → AreCovered ps q → AreCovered ps r
wider [] q r lx hx ly hy h = tt
wider (p ∷ ps) q r lx hx ly hy h = (
  record {
    left = through r.low.x q.low.x p.x lx h.0.left;
    right = through p.x q.high.x r.high.x h.0.right hx;
    bottom = through r.low.y q.low.y p.y ly h.0.bottom;
    top = through p.y q.high.y r.high.y h.0.top hy;
  },
  wider ps q r lx hx ly hy h.1,
)
  where
    through : (a b c : ℕ) → a ≤ b → b ≤ c → a ≤ c
    through a b c h k = omega arith

-- the least rectangle of points holds them
bound_holds : (first : Point) (more : List Point) → AreCovered (first ∷ more) (bound_from first more)
bound_holds first [] = (self_covered first, tt)
bound_holds first (next ∷ more) =
    let rest = bound_from next more in (
      record { left = least first.x rest.low.x; right = most first.x rest.high.x; bottom = least first.y rest.low.y; top = most first.y rest.high.y },
      wider (next ∷ more) rest (bound_from first (next ∷ more)) (least_too first.x rest.low.x) (most_too first.x rest.high.x) (least_too first.y rest.low.y)
          (most_too first.y rest.high.y) (bound_holds next more),
    )
  where
    least : (a b : ℕ) → min a b ≤ a
    least a b = omega arith

    least_too : (a b : ℕ) → min a b ≤ b
    least_too a b = omega arith

    most : (a b : ℕ) → a ≤ max a b
    most a b = omega arith

    most_too : (a b : ℕ) → b ≤ max a b
    most_too a b = omega arith

-- the key of a rough shape is at most the shape's
pub rough_key : (p : Point) (s : Shape) → IsInClosedPlane p → IsShapeInClosedPlane s → IsAtMost (key_from p (rough_figure s)) (key_from p (figure.Shape s))
rough_key p (shape.Point q) hp hs = at_most_itself (key_from p (figure.Shape (shape.Point q)))
rough_key p (shape.Segment s) hp hs = at_most_itself (key_from p (figure.Shape (shape.Segment s)))
rough_key p (shape.Polygon []) hp hs = at_most_itself (key_from p (figure.Shape (shape.Polygon [])))
rough_key p (shape.Polygon (first ∷ more)) hp hs =
    met_key p (shape.Polygon (first ∷ more)) (bound_from first more) hp hs (holder_meets (shape.Polygon (first ∷ more)) (bound_from first more) hs (bound_holds first more))

-- some leaf that a shape meets has a key at most the shape's
pub leaf_key : (p : Point) (s : Shape) (tree : Tree) → IsInClosedPlane p → IsShapeInClosedPlane s → IsShallow root_block tree
    → SomeOf (λ leaf. (meets the_measure s (square_of leaf.0) ≡ true) × IsAtMost (key_of_rect p (square_of leaf.0)) (key_from p (figure.Shape s))) (leaves root_block tree)
leaf_key p s tree hp hs shallow =
    some_with_each {P = λ leaf. IsBlock leaf.0}
    {Q = λ leaf. (meets the_measure s (square_of leaf.0) ≡ true) × IsAtMost (the_measure (spot_figure p) (square_figure leaf.0)) (the_measure (spot_figure p) (figure.Shape s))}
    (λ leaf h k. (k.0, met_key p s (square_of leaf.0) hp hs ((meets_is_meeting the_measure measured.1 s (square_of leaf.0) hs (square_in_closed_plane leaf.0 h)).0 k.0)))
    (leaves root_block tree) (leaf_blocks root_block tree root_is_block shallow) (leaves_cover the_measure measured.1 (spot_figure p) s tree hp hs shallow)

-- ---- corners

-- one of some numbers is the greatest
some_greatest : (f : Point → ℕ) (x : Point) (xs : List Point) (n d : ℕ) → n ≤ greatest_of (map f (x ∷ xs)) * d → SomeOf (λ y. n ≤ f y * d) (x ∷ xs)
some_greatest f x [] n d h = inl (subst (λ k. n ≤ k * d) (alone (f x)) h)
  where
    alone : (a : ℕ) → max a 0 ≡ a
    alone a = omega arith
some_greatest f x (y ∷ ys) n d h =
    ⊎_elim (λ below. inl (subst (λ k. n ≤ k * d) (first (f x) (greatest_of (map f (y ∷ ys))) below) h))
    (λ above. inr (some_greatest f y ys n d (subst (λ k. n ≤ k * d) (second (f x) (greatest_of (map f (y ∷ ys))) above) h)))
    (in_order (greatest_of (map f (y ∷ ys))) (f x))
  where
    first : (a b : ℕ) → b ≤ a → max a b ≡ a
    first a b h = omega arith

    second : (a b : ℕ) → a ≤ b → max a b ≡ b
    second a b h = omega arith

-- a rectangle whose key is at most that of a distance has a corner at least as far
pub far_corner : (p : Point) (r : Rect) (gap : Frac) → IsShort gap → IsAtMost (key_of_rect p r) (key_of_gap gap) → HasFarCorner p gap r
far_corner p r gap short h =
    some_greatest (spot_gap p) r.low (record { x = r.high.x; y = r.low.y } ∷ record { x = r.low.x; y = r.high.y } ∷ r.high ∷ []) gap.num gap.den
    (⊎_elim (λ over. beyond gap.num (farthest p r) diagonal gap.den over short)
    (λ inside. once gap.num (farthest p r * gap.den) (lacks_back diagonal (farthest p r) 1 gap.num gap.den (single (farthest p r) diagonal inside) short h))
    (cases_lt diagonal (farthest p r)))
  where
    single : (a b : ℕ) → a ≤ b → a ≤ b * 1
    single a b h = omega arith

    once : (n m : ℕ) → n * 1 ≤ m → n ≤ m
    once n m h = omega arith

    beyond : (n a k d : ℕ) → k < a → n ≤ k * d → n ≤ a * d
    beyond n a k d h g = let more : d * k ≤ d * a = Rattle.std.proofs.Math.Nat.mul-le-mul_left d (weak k a h) in omega arith
      where
        weak : (k a : ℕ) → k < a → k ≤ a
        weak k a h = omega arith
