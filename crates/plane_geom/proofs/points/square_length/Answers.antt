-- The squares of two steps fit a denominator, and so a numerator.
use Rattle.std.proofs.Common.{◌*◌, ◌^◌, ◌≤◌, ◌∙◌, lit≤, arith}
use Rattle.std.proofs.Math.Nat.{mul-le-mul}
use Rattle.exact_frac.specs.declared.TheConstants.{MAX_DEN}
use Rattle.sand_base.specs.declared.TheConstants.{COORDINATE_BITS}
use Rattle.plane_geom.proofs.points.square_length.Goals as goal
use Rattle.plane_geom.proofs.GapOfPoints.{apart_short}

-- each step is at most as long as the plane is wide
pub returns-clause-small : goal.returns-clause-small
returns-clause-small c =
    let width = 2 ^ COORDINATE_BITS in
    let x : c.from-across.result ≤ width = apart_short _ _ _ _ (c.from-across.ensures ∙ c.abs_diff.ensures) (omega arith) (omega arith) in
    let y : c.from-up.result ≤ width = apart_short _ _ _ _ (c.from-up.ensures ∙ c.abs_diff-2.ensures) (omega arith) (omega arith) in
    let across : c.from-across.result * c.from-across.result ≤ width * width = mul-le-mul x x in
    let up : c.from-up.result * c.from-up.result ≤ width * width = mul-le-mul y y in
    let fits : 2 * (width * width) ≤ MAX_DEN = lit≤ tt in
    omega arith
