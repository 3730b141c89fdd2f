-- The squared gaps of the ranges along both axes add up.
use Rattle.std.proofs.Common.{ℕ, ◌*◌, ◌+◌, pos, ◌∙◌, ap, ap₂}
use Rattle.plane_geom.proofs.rects.gap_rects.Goals as goal
use Rattle.plane_geom.proofs.GapOfRectangles.{rects_least}

-- each factor is the gap of two ranges
pub returns : goal.returns
returns c =
    rects_least c.args.a c.args.b c.new.result.num c.new.result.den c.requires.a.x c.requires.a.y c.requires.b.x c.requires.b.y
    (ap pos
    (c.new.ensures.num
    ∙ ap₂ (λ (s : ℕ) (t : ℕ). s * s + t * t) (c.from-across.ensures ∙ c.between_ranges.ensures.value)
    (c.from-up.ensures ∙ c.between_ranges-2.ensures.value)))
    c.new.ensures.den
