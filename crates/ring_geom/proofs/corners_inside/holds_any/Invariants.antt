-- No vertex so far is inside: what is left decides.
use Rattle.std.proofs.Common.{drop}
use Rattle.std.specs.Prelude.{◌↔◌}
use Rattle.sand_model.specs.Rings.{SomeOf, IsInside}
use Rattle.ring_geom.proofs.corners_inside.holds_any.Given as goal

-- some vertex is inside where one is that is left
abbrev pub invariant-corners : goal.invariant-corners
invariant-corners l = SomeOf (IsInside l.ring) l.corners ↔ SomeOf (IsInside l.ring) (drop l.i l.corners)
