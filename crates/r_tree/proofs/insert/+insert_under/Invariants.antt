-- one level lower each time
use Rattle.r_tree.proofs.insert.+insert_under.Given as goal

abbrev pub decreases-insert_under : goal.decreases-insert_under
decreases-insert_under g l = l.level
