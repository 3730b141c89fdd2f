-- The bounding rectangle of the vertices so far.
use Rattle.std.proofs.Common.{take}
use Rattle.sand_base.specs.Plane.{IsRectInClosedPlane}
use Rattle.ring_geom.specs.Bounding.{IsBounding}
use Rattle.ring_geom.proofs.bounds.around.Given as goal

-- it is the least that holds the vertices so far, and lies in the closed square
abbrev pub invariant-corners : goal.invariant-corners
invariant-corners l = record { bound : IsBounding (take l.i l.corners) l.bound; reach : IsRectInClosedPlane l.bound }
