-- A rough pair that is listed is a pair of rows: its gap is that of the shapes that were read, for no more gets than its price.
use Rattle.std.proofs.Common.{ap, refl, ◌∙◌}
use Rattle.page_pool.specs.Desk.{DeskState}
use Rattle.dist_join.specs.OverPages.{paged}
use Rattle.dist_join.proofs.Expanding.{fetched_row, fetch_tried}
use Rattle.dist_join.proofs.as_hierarchy.PairTreeHierarchy.resolve.Goals as goal

pub returns-in-Ok-fetch_both-clause-value : goal.returns-in-Ok-fetch_both-clause-value
returns-in-Ok-fetch_both-clause-value g c =
    fetched_row (paged (g.G.ShapeOf.rows c.args.self.now.left_shapes) (g.G.ShapeOf.Stands c.args.self.now.left_shapes) (g.G.ShapeOf.price c.args.self.now.left_shapes) c.args.self.now.left)
    (paged (g.G.ShapeOf.rows c.args.self.now.right_shapes) (g.G.ShapeOf.Stands c.args.self.now.right_shapes) (g.G.ShapeOf.price c.args.self.now.right_shapes) c.args.self.now.right)
    c.args.self.now.ceiling (g.met.G.ShapeOf.in_plane c.args.self.now.left_shapes) (g.met.G.ShapeOf.in_plane c.args.self.now.right_shapes)
    c.args.desk.now c.args.left c.args.right c.requires c.pages.result.now
    (c.pages.ensures.pool ∙ ap (λ (d : DeskState). d.pool) c.in-Ok.ensures.noted) c.in-Ok-fetch_both.shape c.in-Ok-fetch_both.second c.in-Ok-fetch_both.ensures.value
    c.figures_gap.result c.figures_gap.ensures

pub returns-in-Err-fetch_both-clause-visits : goal.returns-in-Err-fetch_both-clause-visits
returns-in-Err-fetch_both-clause-visits g c =
    fetch_tried (paged (g.G.ShapeOf.rows c.args.self.now.left_shapes) (g.G.ShapeOf.Stands c.args.self.now.left_shapes) (g.G.ShapeOf.price c.args.self.now.left_shapes) c.args.self.now.left)
    (paged (g.G.ShapeOf.rows c.args.self.now.right_shapes) (g.G.ShapeOf.Stands c.args.self.now.right_shapes) (g.G.ShapeOf.price c.args.self.now.right_shapes) c.args.self.now.right)
    c.args.self.now.ceiling (g.met.G.ShapeOf.in_plane c.args.self.now.left_shapes) (g.met.G.ShapeOf.in_plane c.args.self.now.right_shapes)
    c.args.desk.now c.note.new.self (record { pool = c.fetch_both.new.pages; visits = c.note.new.self.visits }) c.args.left c.args.right c.in-Ok.ensures.noted refl
    c.pages.result.now c.pages.ensures.pool c.fetch_both.ensures.up c.fetch_both.ensures.price
