-- The point of a code, against its definition.
use Rattle.std.proofs.Common.{◌≡◌, ap₂, subst, sym}
use Rattle.z_code.specs.Code.{point_of, Interleaves}
use Rattle.z_code.proofs.CodesOfPoints.{point, Interleaves-point_of}
use Rattle.z_code.proofs.code.point_of.Goals as goal
use Rattle.z_code.proofs.code.point_of.Goals.{After-even_bits-2}

-- the two calls give the two coordinates
value : (c : After-even_bits-2) → point c.even_bits.result c.even_bits-2.result ≡ point_of c.args.z
value c = ap₂ point c.even_bits.ensures.value c.even_bits-2.ensures.value

-- so it is the point
pub returns-clause-value : goal.returns-clause-value
returns-clause-value c = value c

-- and the code interleaves its bits
pub returns-clause-bits : goal.returns-clause-bits
returns-clause-bits c = subst (λ p. Interleaves c.args.z p) (sym (value c)) (Interleaves-point_of c.args.z)
