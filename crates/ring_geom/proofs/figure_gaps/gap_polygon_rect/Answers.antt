-- With the low corner outside the ring, the edges decide.
use Rattle.std.proofs.Common.{sym, ◌∙◌, subst, List}
use Rattle.std.proofs.lemmas.Bool.{false≢true}
use Rattle.sand_base.specs.declared.point.Point.{Point}
use Rattle.sand_model.specs.Points.{IsInRect}
use Rattle.sand_model.specs.Gap.{IsLeast}
use Rattle.sand_model.specs.Rings.{IsOnRing}
use Rattle.ring_geom.proofs.FigureGaps.{polygon_rect_gap}
use Rattle.ring_geom.proofs.figure_gaps.gap_polygon_rect.Goals as goal

-- the corner isn't inside, so no other one is, or an edge meets the rectangle
pub returns-else-inside : goal.returns-else-inside
returns-else-inside c =
    polygon_rect_gap c.args.ring.now c.args.r c.ring_to_rect.result.num c.ring_to_rect.result.den c.requires.x c.requires.y
    (λ h. false≢true (sym c.if-inside.false ∙ c.inside.ensures.1 h))
    (subst (λ (ps : List Point). IsLeast (IsOnRing ps) (IsInRect c.args.r) c.ring_to_rect.result.num c.ring_to_rect.result.den)
    c.corners.ensures.all c.ring_to_rect.ensures)
