-- The code of a point, against its definition.
use Rattle.std.proofs.Common.{◌≡◌, ◌+◌, ◌*◌, ap₂, subst, sym}
use Rattle.z_code.specs.Code.{code_of, Interleaves}
use Rattle.z_code.proofs.CodesOfPoints.{Interleaves-code_of}
use Rattle.z_code.proofs.code.code_of.Goals as goal
use Rattle.z_code.proofs.code.code_of.Goals.{After-spread_bits-2}

-- the two calls give the two parts of the code
value : (c : After-spread_bits-2) → c.spread_bits.result + 2 * c.spread_bits-2.result ≡ code_of c.args.p
value c = ap₂ (λ x y. x + 2 * y) c.spread_bits.ensures.value c.spread_bits-2.ensures.value

-- so it is the code
pub returns-clause-value : goal.returns-clause-value
returns-clause-value c = value c

-- which interleaves the bits of its point
pub returns-clause-bits : goal.returns-clause-bits
returns-clause-bits c = subst (λ z. Interleaves z c.args.p) (sym (value c)) (Interleaves-code_of c.args.p c.requires)
