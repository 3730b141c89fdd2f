-- A shape is read, and nothing changes; it is that of the id in hand, or of its row.
use Rattle.std.proofs.Common.{refl, sym, subst, Bool}
use Rattle.std.specs.Prelude.{None, ◌↔◌, IsTrue}
use Rattle.sand_base.specs.declared.goal.Goal.TheVariants as figure
use Rattle.z_code.specs.Block.{IsBlock, square_of}
use Rattle.z_code.specs.declared.block.Block.{Block}
use Rattle.sand_model.specs.FigureGap.{IsMeeting}
use Rattle.pmr_tree.proofs.OwnPages.{leads_read}
use Rattle.pmr_tree.proofs.PartSteps.{quarters_told, first_shape, other_shape}
use Rattle.pmr_tree.proofs.plot.PlotGroundPool.quarters_met.Goals as goal

pub returns-then-id-self-clause-value : goal.returns-then-id-self-clause-value
returns-then-id-self-clause-value g c = λ told m has tells one.
    let f : Block → Bool = λ b. m b c.args.id in
    let t = tells c.args.id one in
    let same = first_shape c.args.self.now.id c.args.id c.args.self.now.shape.now t.0 _ c.if-id-self.true t.1.0 in
    quarters_told c.args.self.now.shape.now c.args.block f _ c.requires.block c.requires.above_points
    (subst (λ s. (b : Block) → IsBlock b → IsTrue (f b) ↔ IsMeeting (figure.Shape s) (figure.Rect (square_of b))) same t.1.1) c.quarters_met.ensures

pub returns-clause-leads : goal.returns-clause-leads
returns-clause-leads g c = (
  refl,
  (
    refl,
    (
      refl,
      leads_read (g.G.ShapeOf.rows c.args.self.now.shapes.now) c.args.self.now.shape.now (g.G.ShapeOf.Stands c.args.self.now.shapes.now)
          (g.G.ShapeOf.Owns c.args.self.now.shapes.now) c.args.self.now.tree c.args.pages.now c.shape_of.new.pages None
          c.in_ok-shape.ensures.read (record { counted = c.in_ok-shape.ensures.cause.counted; damaged = tt }) tt,
    ),
  ),
)

pub returns-clause-value : goal.returns-clause-value
returns-clause-value g c = λ told m has tells one.
    let f : Block → Bool = λ b. m b c.args.id in
    let t = tells c.args.id one in
    let same = c.in_ok-shape.ensures.value told t.0 (other_shape c.args.self.now.id c.args.id c.args.self.now.shape.now t.0 _ c.if-id-self.false t.1.0) in
    quarters_told c.in_ok-shape.shape c.args.block f _ c.requires.block c.requires.above_points
    (subst (λ s. (b : Block) → IsBlock b → IsTrue (f b) ↔ IsMeeting (figure.Shape s) (figure.Rect (square_of b))) (sym same) t.1.1) c.quarters_met-2.ensures
