-- A rough object that is listed is a row: its gap is that of the shape that was read, for no more gets than its price.
use Rattle.std.proofs.Common.{ap, refl, ◌∙◌}
use Rattle.page_pool.specs.Desk.{DeskState}
use Rattle.far_cursor.proofs.FarSearching.{exact_row, fetch_tried}
use Rattle.far_cursor.proofs.as_hierarchy.FarTreeHierarchy.resolve.Goals as goal

pub returns-in-Ok-shape_of-clause-value : goal.returns-in-Ok-shape_of-clause-value
returns-in-Ok-shape_of-clause-value g c =
    exact_row (g.G.ShapeOf.rows c.args.self.now.shapes) (g.G.ShapeOf.Stands c.args.self.now.shapes) (g.G.ShapeOf.price c.args.self.now.shapes) c.args.self.now.pmr c.args.self.now.goal
    (g.met.G.ShapeOf.in_plane c.args.self.now.shapes) c.args.self.now.plane c.args.desk.now c.args.left c.args._right c.requires
    c.pages.result.now (c.pages.ensures.pool ∙ ap (λ (d : DeskState). d.pool) c.in-Ok.ensures.noted) c.in-Ok-shape_of.shape c.in-Ok-shape_of.ensures.value c.shape_key.result c.shape_key.ensures

pub returns-in-Err-shape_of-clause-visits : goal.returns-in-Err-shape_of-clause-visits
returns-in-Err-shape_of-clause-visits g c =
    fetch_tried (g.G.ShapeOf.rows c.args.self.now.shapes) (g.G.ShapeOf.Stands c.args.self.now.shapes) (g.G.ShapeOf.price c.args.self.now.shapes) c.args.self.now.pmr c.args.self.now.goal
    (g.met.G.ShapeOf.in_plane c.args.self.now.shapes) c.args.self.now.plane c.args.desk.now c.note.new.self
    (record { pool = c.shape_of.new.pages; visits = c.note.new.self.visits }) c.args.left c.args._right
    c.in-Ok.ensures.noted refl c.pages.result.now c.pages.ensures.pool c.shape_of.ensures.up c.shape_of.ensures.price
