use Rattle.std.specs.FinMap as map
use Rattle.page_pool.proofs.staged.Staged.clear.Given as goal

-- fewer changes are left each time
abbrev pub decreases-staged : goal.decreases-staged
decreases-staged l = map.len l.self.changes
