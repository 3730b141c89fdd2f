-- Each plan inside another begins with fewer tokens left.
use Rattle.std.proofs.Common.{◌+◌, ◌*◌, length}
use Rattle.script_text.proofs.cursor.Cursor.«+plan».Given as goal

abbrev pub decreases-plan : goal.decreases-plan
decreases-plan l = 3 * length l.self.now.left + 1

abbrev pub decreases-boxed : goal.decreases-boxed
decreases-boxed l = 3 * length l.self.now.left + 2

abbrev pub decreases-inner : goal.decreases-inner
decreases-inner l = 3 * length l.self.now.left

abbrev pub decreases-filter : goal.decreases-filter
decreases-filter l = 3 * length l.self.now.left + 1

abbrev pub decreases-matched : goal.decreases-matched
decreases-matched l = 3 * length l.self.now.left + 1

abbrev pub decreases-fetch : goal.decreases-fetch
decreases-fetch l = 3 * length l.self.now.left + 1

abbrev pub decreases-first : goal.decreases-first
decreases-first l = 3 * length l.self.now.left + 1

abbrev pub decreases-sort : goal.decreases-sort
decreases-sort l = 3 * length l.self.now.left
