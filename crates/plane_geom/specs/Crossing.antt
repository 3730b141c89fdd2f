-- When two segments cross properly: no end of either lies on the other.
use Rattle.std.specs.Prelude.{◌⊎◌, ℤ, pos, ◌<ℤ◌}
use Rattle.sand_base.specs.declared.segment.Segment.{Segment}
use Rattle.plane_geom.specs.Vectors.{cross_of}

-- one of the two integers is below 0 and the other above
abbrev pub AreOpposed : ℤ → ℤ → Type 0
AreOpposed x y = ((x <ℤ pos 0) × (pos 0 <ℤ y)) ⊎ ((pos 0 <ℤ x) × (y <ℤ pos 0))

-- the ends of t lie on the two sides of the line of s, and neither on the line
abbrev pub SplitsSides : Segment → Segment → Type 0
SplitsSides s t = AreOpposed (cross_of s.a s.b t.a) (cross_of s.a s.b t.b)

-- the segments cross properly: each splits the other
pub record Cross (s t : Segment) : Type 0 where
  pub first : SplitsSides s t
  pub second : SplitsSides t s
