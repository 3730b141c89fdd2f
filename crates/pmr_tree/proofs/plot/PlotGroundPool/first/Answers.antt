-- An entry is read, and nothing changes.
use Rattle.std.proofs.Common.{refl}
use Rattle.std.specs.Prelude.{None}
use Rattle.pmr_tree.proofs.OwnPages.{leads_read}
use Rattle.pmr_tree.proofs.plot.PlotGroundPool.first.Goals as goal

pub returns-clause-leads : goal.returns-clause-leads
returns-clause-leads g c = (
  refl,
  (
    refl,
    (
      refl,
      leads_read (g.G.ShapeOf.rows c.args.self.now.shapes.now) c.args.self.now.shape.now (g.G.ShapeOf.Stands c.args.self.now.shapes.now)
          (g.G.ShapeOf.Owns c.args.self.now.shapes.now) c.args.self.now.tree c.args.pages.now c.entry_between.new.pages None
          c.in_ok-found.ensures.read (record { counted = c.in_ok-found.ensures.cause.counted; damaged = tt }) tt,
    ),
  ),
)
