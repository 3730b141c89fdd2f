-- The least distance of the edges so far.
use Rattle.std.proofs.Common.{take}
use Rattle.sand_model.specs.Points.{IsInRect}
use Rattle.sand_model.specs.Gap.{IsLeast}
use Rattle.sand_model.specs.Rings.{edges}
use Rattle.ring_geom.proofs.Unions.{IsOnAny}
use Rattle.ring_geom.proofs.ring_gaps.ring_to_rect.Given as goal

-- the best is the least distance of the edges so far
abbrev pub invariant-edges : goal.invariant-edges
invariant-edges l = IsLeast (IsOnAny (take l.i (edges l.corners))) (IsInRect l.r) l.best.num l.best.den
