-- A join over pages that both quadtrees fit is sound, and so lawful.
use Rattle.dist_join.specs.OverPages.{paged, joining_over}
use Rattle.dist_join.proofs.Expanding.{sound}
use Rattle.dist_join.proofs.Lawful.{is_lawful}
use Rattle.dist_join.proofs.pair_tree.PairTree.laws.Goals as goal

pub returns : goal.returns
returns g c =
    let s = c.args.self.now in
    let left = paged (g.G.ShapeOf.rows s.left_shapes) (g.G.ShapeOf.Stands s.left_shapes) (g.G.ShapeOf.price s.left_shapes) s.left in
    let right = paged (g.G.ShapeOf.rows s.right_shapes) (g.G.ShapeOf.Stands s.right_shapes) (g.G.ShapeOf.price s.right_shapes) s.right in
    λ pages fitted other.
    is_lawful (joining_over left right s.ceiling pages)
    (sound left right s.ceiling (g.met.G.ShapeOf.in_plane s.left_shapes) (g.met.G.ShapeOf.in_plane s.right_shapes) pages fitted other)
