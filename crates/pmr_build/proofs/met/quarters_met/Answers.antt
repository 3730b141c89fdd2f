-- A point or a segment is its own rough shape; the shape of a polygon is that of its row.
use Rattle.sand_base.specs.declared.shape.Shape.TheVariants as shape
use Rattle.pmr_build.proofs.Meetings.{point_is, segment_is, quarters_told, near_told}
use Rattle.pmr_build.proofs.met.quarters_met.Goals as goal

pub returns-else-not-is_in_plane-clause-met : goal.returns-else-not-is_in_plane-clause-met
returns-else-not-is_in_plane-clause-met g c = λ told m tells is met.
    quarters_told (g.S.ShapeOf.rows c.args.shapes.now (g.P.Pages.shown c.args.pages.now).pages) m c.args.block c.args.member (shape.Point c.in-Point.at) c.squares_met.result
    c.requires.block c.requires.above_points tells is (point_is c.in-Point.at c.args.member.1 is.shape c.in-Point.is is.rough) c.squares_met.ensures

pub returns-else-not-is_in_plane-3-clause-met : goal.returns-else-not-is_in_plane-3-clause-met
returns-else-not-is_in_plane-3-clause-met g c = λ told m tells is met.
    quarters_told (g.S.ShapeOf.rows c.args.shapes.now (g.P.Pages.shown c.args.pages.now).pages) m c.args.block c.args.member (shape.Segment c.in-Segment.way) c.squares_met-in-Segment.result
    c.requires.block c.requires.above_points tells is (segment_is c.in-Segment.way c.args.member.1 is.shape c.in-Segment.is is.rough) c.squares_met-in-Segment.ensures

pub returns-in_ok-shape-in-Bound-clause-met : goal.returns-in_ok-shape-in-Bound-clause-met
returns-in_ok-shape-in-Bound-clause-met g c = λ told m tells is met.
    quarters_told (g.S.ShapeOf.rows c.args.shapes.now (g.P.Pages.shown c.args.pages.now).pages) m c.args.block c.args.member c.in_ok-shape-in-Bound.shape c.squares_met-in-Bound.result
    c.requires.block c.requires.above_points tells is (c.in_ok-shape-in-Bound.ensures.value told is.shape is.at) c.squares_met-in-Bound.ensures

pub returns-then-is_one-clause-met : goal.returns-then-is_one-clause-met
returns-then-is_one-clause-met g c = λ told m tells is met.
    near_told (g.S.ShapeOf.rows c.args.shapes.now (g.P.Pages.shown c.args.pages.now).pages) m c.args.block c.args.member c.in-Bound.bound c.args.squares c.squares_near-near.result
    c.requires.block c.requires.above_points tells is met c.in-Bound.is c.requires.squares c.squares_near-near.ensures (c.is_one.ensures c.if-is_one.true)
