-- Over pages that the quadtree fits the keys meet what is asked, and so do the laws.
use Rattle.far_cursor.proofs.FarLaws.{keyed_over}
use Rattle.far_cursor.proofs.FarRows.{gives_far, all_short}
use Rattle.far_cursor.proofs.KeyedLaws.{keyed_laws}
use Rattle.far_cursor.specs.FarRanking.{far_ranking}
use Rattle.far_cursor.proofs.far_tree.FarTree.laws.Goals as goal

pub returns : goal.returns
returns g c =
    λ pages fits stands.
    let shapes = c.args.self.now.shapes in
    let t = c.args.self.now.pmr in
    let p = c.args.self.now.goal in
    let rows = g.G.ShapeOf.rows shapes in
    let stand = g.G.ShapeOf.Stands shapes in
    let price = g.G.ShapeOf.price shapes in
    let keys = keyed_over rows stand price t p (g.met.G.ShapeOf.in_plane shapes) c.args.self.now.plane pages fits stands in
    record {
      hierarchy = keyed_laws (far_ranking rows stand price t p pages) keys;
      answer = λ gap is. gives_far rows stand price t p c.args.self.now.plane pages keys gap is;
      short = λ gap is. all_short rows stand price t p c.args.self.now.plane pages keys gap is;
    }
