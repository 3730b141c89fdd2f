-- one level lower each time
use Rattle.code_btree.proofs.remove.+remove_under.Given as goal

abbrev pub decreases-remove_under : goal.decreases-remove_under
decreases-remove_under g l = l.level
