-- a child is one level lower
use Rattle.std.proofs.Common.{◌-◌}
use Rattle.sand_base.specs.declared.TheConstants.{COORDINATE_BITS}
use Rattle.pmr_build.proofs.enter.+enter.Given as goal

abbrev pub decreases-enter : goal.decreases-enter
decreases-enter g l = COORDINATE_BITS - l.block.level
