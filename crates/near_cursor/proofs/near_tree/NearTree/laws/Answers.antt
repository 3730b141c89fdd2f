-- A ranking over pages where the R-tree lists the rows is lawful.
use Rattle.near_cursor.proofs.NearLawful.{near_lawful}
use Rattle.near_cursor.proofs.near_tree.NearTree.laws.Goals as goal

pub returns : goal.returns
returns g c =
    near_lawful (g.G.ShapeOf.rows c.args.self.now.shapes) (g.G.ShapeOf.Stands c.args.self.now.shapes)
    (g.G.ShapeOf.price c.args.self.now.shapes) c.args.self.now.tree c.args.self.now.goal c.args.self.now.ceiling
    (g.met.G.ShapeOf.in_plane c.args.self.now.shapes) c.args.self.now.plane
