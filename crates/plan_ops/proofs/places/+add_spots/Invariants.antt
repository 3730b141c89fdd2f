-- fewer are left each time
use Rattle.std.proofs.Common.{length}
use Rattle.plan_ops.proofs.places.+add_spots.Given as goal

abbrev pub decreases-add_spots : goal.decreases-add_spots
decreases-add_spots l = length l.places.now
