-- A ranking over pages that the quadtree fits is sound, and so lawful.
use Rattle.rank_cursor.specs.Cursor.{ranking_over}
use Rattle.rank_cursor.proofs.Lawful.{is_lawful}
use Rattle.rank_cursor.proofs.SearchPages.{sound}
use Rattle.rank_cursor.proofs.rank_tree.RankTree.laws.Goals as goal

pub returns : goal.returns
returns g c =
    λ pages fits stands.
    is_lawful (ranking_over (g.G.ShapeOf.rows c.args.self.now.shapes) (g.G.ShapeOf.Stands c.args.self.now.shapes)
    (g.G.ShapeOf.price c.args.self.now.shapes) c.args.self.now.pmr c.args.self.now.goal c.args.self.now.ceiling pages)
    (sound (g.G.ShapeOf.rows c.args.self.now.shapes) (g.G.ShapeOf.Stands c.args.self.now.shapes)
    (g.G.ShapeOf.price c.args.self.now.shapes) c.args.self.now.pmr c.args.self.now.goal c.args.self.now.ceiling
    (g.met.G.ShapeOf.in_plane c.args.self.now.shapes) c.args.self.now.plane pages fits stands)
