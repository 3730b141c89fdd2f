-- one level lower each time
use Rattle.code_btree.proofs.chain.+seek.Given as goal

abbrev pub decreases-seek : goal.decreases-seek
decreases-seek g l = l.level
