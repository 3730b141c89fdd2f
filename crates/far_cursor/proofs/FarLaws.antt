-- A quadtree that fits its rows, searched farthest first, meets the laws of a hierarchy.
use Rattle.sand_model.specs.Sources.{spot_figure}
use Rattle.std.proofs.Common.{ℕ, List, None}
use Rattle.sand_base.specs.Plane.{IsInClosedPlane}
use Rattle.sand_base.specs.declared.point.Point.{Point}
use Rattle.sand_base.specs.declared.shape.Shape.{Shape}
use Rattle.page_pool.specs.Disk.{PageMap}
use Rattle.pmr_tree.specs.Laws.{AreInPlane}
use Rattle.pmr_tree.specs.Quadtree.{FitsRows}
use Rattle.pmr_tree.specs.declared.quadtree.Pmr.{Pmr}
use Rattle.rank_cursor.proofs.SearchPages.{sound}
use Rattle.far_cursor.specs.FarRanking.{far_ranking}
use Rattle.far_cursor.proofs.FarSound.{child_key, rough_key, leaf_key}
use Rattle.far_cursor.proofs.KeyedLaws.{IsKeyed}

module _ (rows : PageMap → List (ℕ × Shape)) (Stands : PageMap → Type 0) (price : ℕ) (t : Pmr) (goal : Point) (in_plane : (p : PageMap) → Stands p → AreInPlane (rows p))
    (plane : IsInClosedPlane goal) where
  -- its keys meet what a hierarchy asks
  pub keyed_over : (p : PageMap) → FitsRows p t (rows p) → Stands p → IsKeyed (far_ranking rows Stands price t goal p)
  keyed_over p fits stands =
      let near = sound rows Stands price t (spot_figure goal) None in_plane plane p fits stands in
      record {
        readable = (fits, stands);
        plane = near.plane;
        apart = near.apart;
        fits = near.fits;
        shallow = near.shallow;
        down = λ b i block above small. child_key goal b i block above small;
        rough = λ s inside. rough_key goal s plane inside;
        covered = λ s inside. leaf_key goal s (far_ranking rows Stands price t goal p).tree plane inside near.shallow;
      }
