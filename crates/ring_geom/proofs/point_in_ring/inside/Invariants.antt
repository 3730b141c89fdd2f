-- What is left of the edges decides, with the parity so far.
use Rattle.std.proofs.Common.{drop}
use Rattle.std.specs.Prelude.{◌↔◌}
use Rattle.sand_model.specs.Rings.{edges, IsInside}
use Rattle.ring_geom.proofs.InsideLoop.{IsInsideFrom}
use Rattle.ring_geom.proofs.point_in_ring.inside.Given as goal

-- the point is inside the ring where what is left says so
abbrev pub invariant-edges : goal.invariant-edges
invariant-edges l = IsInside l.corners l.v ↔ IsInsideFrom l.v l.odd (drop l.i (edges l.corners))
