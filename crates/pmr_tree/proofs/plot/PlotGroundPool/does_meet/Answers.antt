-- A shape is read, and nothing changes.
use Rattle.std.proofs.Common.{refl, sym}
use Rattle.std.specs.Prelude.{None}
use Rattle.pmr_tree.proofs.PartSteps.{first_shape, other_shape, meeting_told}
use Rattle.pmr_tree.proofs.OwnPages.{leads_read}
use Rattle.pmr_tree.proofs.plot.PlotGroundPool.does_meet.Goals as goal

pub returns-then-id-self-clause-value : goal.returns-then-id-self-clause-value
returns-then-id-self-clause-value g c = λ told m has tells one.
    let t = tells c.args.id one in
    let same = first_shape c.args.self.now.id c.args.id c.args.self.now.shape.now t.0 _ c.if-id-self.true t.1.0 in
    meeting_told c.args.self.now.shape.now t.0 c.args.block c.rect.result c.meets_rect.result (m c.args.block c.args.id) same c.rect.ensures.square c.meets_rect.ensures
    (t.1.1 c.args.block c.requires.block)

pub returns-clause-leads : goal.returns-clause-leads
returns-clause-leads g c = (
  refl,
  (
    refl,
    (
      refl,
      leads_read (g.G.ShapeOf.rows c.args.self.now.shapes.now) c.args.self.now.shape.now (g.G.ShapeOf.Stands c.args.self.now.shapes.now)
          (g.G.ShapeOf.Owns c.args.self.now.shapes.now) c.args.self.now.tree c.args.pages.now c.shape_of.new.pages None
          c.in_ok-shape.ensures.read (record { counted = c.in_ok-shape.ensures.cause.counted; damaged = tt }) tt,
    ),
  ),
)

pub returns-clause-value : goal.returns-clause-value
returns-clause-value g c = λ told m has tells one.
    let t = tells c.args.id one in
    let same = c.in_ok-shape.ensures.value told t.0 (other_shape c.args.self.now.id c.args.id c.args.self.now.shape.now t.0 _ c.if-id-self.false t.1.0) in
    meeting_told c.in_ok-shape.shape t.0 c.args.block c.rect-2.result c.meets_rect-2.result (m c.args.block c.args.id)
    (sym same) c.rect-2.ensures.square c.meets_rect-2.ensures (t.1.1 c.args.block c.requires.block)
