-- each part has fewer entries
use Rattle.std.proofs.Common.{length}
use Rattle.r_tree.proofs.build.+tile.Given as goal

abbrev pub decreases-tile : goal.decreases-tile
decreases-tile g l = length l.entries.now
