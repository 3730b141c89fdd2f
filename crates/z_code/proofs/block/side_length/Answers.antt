-- No block is wider than the plane.
use Rattle.std.proofs.Common.{◌-◌, ◌^◌, arith}
use Rattle.sand_base.specs.declared.TheConstants.{COORDINATE_BITS}
use Rattle.z_code.proofs.Powers.{shifted_small}
use Rattle.z_code.proofs.block.side_length.Goals as goal

-- the exponent is at most that of the plane
pub returns-clause-small : goal.returns-clause-small
returns-clause-small c = shifted_small (COORDINATE_BITS - c.from.result) COORDINATE_BITS (2 ^ 32) (omega arith)
