-- No block has more codes than the plane.
use Rattle.std.proofs.Common.{◌-◌, ◌*◌, ◌^◌, arith}
use Rattle.sand_base.specs.declared.TheConstants.{COORDINATE_BITS}
use Rattle.z_code.proofs.Powers.{shifted_small}
use Rattle.z_code.proofs.block.code_count.Goals as goal

-- the exponent is at most that of the plane
pub returns-clause-small : goal.returns-clause-small
returns-clause-small c =
    shifted_small (2 * (COORDINATE_BITS - c.from.result)) (2 * COORDINATE_BITS) (2 ^ 64) (omega arith)
