-- the vertices copied so far
use Rattle.std.proofs.Common.{◌≡◌, take}
use Rattle.sand_base.proofs.ring.Ring.copy.Given as goal

abbrev pub invariant-corners : goal.invariant-corners
invariant-corners l = l.corners.items ≡ take l.at-index l.at-items
