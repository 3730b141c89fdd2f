-- one level lower each time
use Rattle.std.proofs.Common.{◌-◌}
use Rattle.sand_base.specs.declared.TheConstants.{COORDINATE_BITS}
use Rattle.pmr_tree.proofs.shrink.+shrink.Given as goal

abbrev pub decreases-shrink : goal.decreases-shrink
decreases-shrink g l = COORDINATE_BITS - l.block.level
