-- one level lower each time
use Rattle.std.proofs.Common.{◌-◌}
use Rattle.sand_base.specs.declared.TheConstants.{COORDINATE_BITS}
use Rattle.pmr_tree.proofs.shrink.+shrink_at.Given as goal

abbrev pub decreases-shrink_at : goal.decreases-shrink_at
decreases-shrink_at g l = COORDINATE_BITS - l.block.level
