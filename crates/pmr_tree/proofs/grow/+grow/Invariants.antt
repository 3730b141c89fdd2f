-- one level lower each time
use Rattle.std.proofs.Common.{◌-◌}
use Rattle.sand_base.specs.declared.TheConstants.{COORDINATE_BITS}
use Rattle.pmr_tree.proofs.grow.+grow.Given as goal

abbrev pub decreases-grow : goal.decreases-grow
decreases-grow g l = COORDINATE_BITS - l.block.level
