-- one level lower each time
use Rattle.code_btree.proofs.look.+floor_under.Given as goal

abbrev pub decreases-floor_under : goal.decreases-floor_under
decreases-floor_under g l = l.level
