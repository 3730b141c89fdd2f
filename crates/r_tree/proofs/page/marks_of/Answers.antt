-- the tag tells the shape, and each point is in a word
use Rattle.std.proofs.Common.{refl, sym, ◌∙◌, ap, arith}
use Rattle.sand_base.specs.declared.point.Point.{Point}
use Rattle.sand_base.specs.declared.rough.Rough.{Rough}
use Rattle.r_tree.proofs.Cells.{entry_back, entry_with}
use Rattle.r_tree.proofs.page.marks_of.Goals as goal

pub returns-in-Point : goal.returns-in-Point
returns-in-Point c = λ child.
    let zero : Point = record { x = 0; y = 0 } in
    entry_back 1 c.in-Point.p zero c.args.id child c.pair.result 0 c.pair-in-Point.result c.pair.ensures.value c.pair.ensures.fits refl
    (omega arith) c.pair-in-Point.ensures.value c.pair-in-Point.ensures.fits
    ∙ ap (λ (r : Rough). entry_with r c.args.id child) (sym c.in-Point.is)

pub returns-in-Segment : goal.returns-in-Segment
returns-in-Segment c = λ child.
    entry_back 2 c.in-Segment.s.a c.in-Segment.s.b c.args.id child c.pair-in-Segment.result c.pair-in-Segment-2.result c.pair-in-Segment-3.result c.pair-in-Segment.ensures.value c.pair-in-Segment.ensures.fits c.pair-in-Segment-2.ensures.value c.pair-in-Segment-2.ensures.fits c.pair-in-Segment-3.ensures.value c.pair-in-Segment-3.ensures.fits
    ∙ ap (λ (r : Rough). entry_with r c.args.id child) (sym c.in-Segment.is)

pub returns-in-Bound : goal.returns-in-Bound
returns-in-Bound c = λ child.
    entry_back 3 c.in-Bound.r.low c.in-Bound.r.high c.args.id child c.pair-in-Bound.result c.pair-in-Bound-2.result c.pair-in-Bound-3.result c.pair-in-Bound.ensures.value c.pair-in-Bound.ensures.fits c.pair-in-Bound-2.ensures.value c.pair-in-Bound-2.ensures.fits c.pair-in-Bound-3.ensures.value c.pair-in-Bound-3.ensures.fits
    ∙ ap (λ (r : Rough). entry_with r c.args.id child) (sym c.in-Bound.is)
