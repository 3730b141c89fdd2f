-- Each call has a place less.
use Rattle.std.proofs.Common.{length}
use Rattle.plan_stages.proofs.values.+add_values.Given as goal

abbrev pub decreases-add_values : goal.decreases-add_values
decreases-add_values g l = length l.spots.now
