-- Distances of grid points in the closed square are fractions that fit.
use Rattle.std.proofs.Common.{ℕ, ◌*◌, ◌^◌, ◌≤◌, pos, ◌-ℤ◌, ◌*ℤ◌, lit≤, arith}
use Rattle.std.proofs.Math.Nat.{mul-le-mul}
use Rattle.std.proofs.lemmas.Int.{ints}
use Rattle.std.specs.Int.RustNames.{unsigned_abs}
use Rattle.exact_frac.specs.declared.TheConstants.{MAX_NUM, MAX_DEN}
use Rattle.exact_frac.specs.declared.frac.Frac.{Frac}
use Rattle.sand_base.specs.Grid.{IsInClosedPlane}
use Rattle.sand_base.specs.declared.TheConstants.{COORDINATE_BITS}
use Rattle.sand_base.specs.declared.point.Point.{Point}
use Rattle.plane_geom.specs.Vectors.{dot_of, cross_of}
use Rattle.plane_geom.proofs.SignedWords.{product_short, sum_short, difference_short}

-- the width of the closed square
abbrev width : ℕ
width = 2 ^ COORDINATE_BITS

-- a step inside it is at most as long as it is wide
step_short : (a b m : ℕ) → a ≤ m → b ≤ m → unsigned_abs (pos b -ℤ pos a) ≤ m
step_short a b m ha hb = omega (arith, ints)

-- twice the square of the width is no more than a denominator may be
room : 2 * (width * width) ≤ MAX_DEN
room = lit≤ tt

-- dot products fit a denominator
pub dot_short : (o a b : Point) → IsInClosedPlane o → IsInClosedPlane a → IsInClosedPlane b → unsigned_abs (dot_of o a b) ≤ MAX_DEN
dot_short o a b ho ha hb =
    through _ _ _
    (sum_short ((pos a.x -ℤ pos o.x) *ℤ (pos b.x -ℤ pos o.x)) ((pos a.y -ℤ pos o.y) *ℤ (pos b.y -ℤ pos o.y)) (width * width)
    (product_short (pos a.x -ℤ pos o.x) (pos b.x -ℤ pos o.x) width (step_short o.x a.x width ho.x ha.x) (step_short o.x b.x width ho.x hb.x))
    (product_short (pos a.y -ℤ pos o.y) (pos b.y -ℤ pos o.y) width (step_short o.y a.y width ho.y ha.y) (step_short o.y b.y width ho.y hb.y)))
    room
  where
    through : (p q r : ℕ) → p ≤ q → q ≤ r → p ≤ r
    through p q r h k = omega arith

-- and so do cross products
pub cross_short : (o a b : Point) → IsInClosedPlane o → IsInClosedPlane a → IsInClosedPlane b → unsigned_abs (cross_of o a b) ≤ MAX_DEN
cross_short o a b ho ha hb =
    through _ _ _
    (difference_short ((pos a.x -ℤ pos o.x) *ℤ (pos b.y -ℤ pos o.y)) ((pos a.y -ℤ pos o.y) *ℤ (pos b.x -ℤ pos o.x)) (width * width)
    (product_short (pos a.x -ℤ pos o.x) (pos b.y -ℤ pos o.y) width (step_short o.x a.x width ho.x ha.x) (step_short o.y b.y width ho.y hb.y))
    (product_short (pos a.y -ℤ pos o.y) (pos b.x -ℤ pos o.x) width (step_short o.y a.y width ho.y ha.y) (step_short o.x b.x width ho.x hb.x)))
    room
  where
    through : (p q r : ℕ) → p ≤ q → q ≤ r → p ≤ r
    through p q r h k = omega arith

-- what fits a denominator fits a numerator
pub den_fits : (n : ℕ) → n ≤ MAX_DEN → n ≤ MAX_NUM
den_fits n h = through _ _ _ h (lit≤ tt)
  where
    through : (p q r : ℕ) → p ≤ q → q ≤ r → p ≤ r
    through p q r h k = omega arith

-- and so does its square
pub square_fits : (n : ℕ) → n ≤ MAX_DEN → n * n ≤ MAX_NUM
square_fits n h = through (n * n) (MAX_DEN * MAX_DEN) MAX_NUM (mul-le-mul h h) (lit≤ tt)
  where
    through : (p q r : ℕ) → p ≤ q → q ≤ r → p ≤ r
    through p q r h k = omega arith

-- a whole number as a fraction
abbrev pub whole : (n : ℕ) → n ≤ MAX_DEN → Frac
whole n h = record { num = n; den = 1; small = den_fits n h; positive = lit≤ tt; fits = lit≤ tt }
