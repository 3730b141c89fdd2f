-- Over pages where the R-tree lists the rows a ranking is lawful, and gives the ranked rows.
use Rattle.std.proofs.Common.{ℕ, false, List, refl}
use Rattle.std.specs.Prelude.{Option}
use Rattle.sand_base.specs.Plane.{IsGoalInClosedPlane}
use Rattle.sand_base.specs.declared.goal.Goal.{Goal}
use Rattle.sand_base.specs.declared.shape.Shape.{Shape}
use Rattle.sand_model.specs.Measure.{Measure, IsMeasure}
use Rattle.sand_model.specs.Reach.{Nothing}
use Rattle.sand_model.specs.Sources.{ranked}
use Rattle.page_pool.specs.Disk.{PageMap}
use Rattle.r_tree.specs.declared.tree.RTree.{RTree}
use Rattle.pmr_tree.specs.Laws.{AreInPlane}
use Rattle.rank_cursor.specs.Answers.{GivesList}
use Rattle.rank_cursor.specs.Ranking.{rank_meaning}
use Rattle.rank_cursor.proofs.RankedRows.{gives_ranked}
use Rattle.near_cursor.specs.NearLaws.{IsLawfulNearOver}
use Rattle.r_tree.specs.Listing.{ListsRows}
use Rattle.near_cursor.specs.NearRanking.{near_meaning}
use Rattle.near_cursor.proofs.NearBounds.{bound_gaps}
use Rattle.near_cursor.proofs.NearCounted.{polygon_found, polygons_counted, nothing_within}
use Rattle.near_cursor.proofs.NearHierarchy.{near_laws, pages_once}
use Rattle.near_cursor.proofs.RowLemmas.{rows_apart, flat_ranking, flat_sound}

module _ (rows : PageMap → List (ℕ × Shape)) (Stands : PageMap → Type 0) (price : ℕ) (t : RTree) (goal : Goal) (ceiling : Option ℕ)
    (in_plane : (p : PageMap) → Stands p → AreInPlane (rows p)) (reach : IsGoalInClosedPlane goal) where
  -- the rows and the ceiling are those of a quadtree of one leaf, and the answer rests on nothing else
  gives : (pages : PageMap) → ListsRows pages t (rows pages) → Stands pages → (gap : Measure) → IsMeasure gap
      → GivesList (near_meaning rows Stands price t goal ceiling pages) (ranked gap goal ceiling (rows pages))
  gives pages fits stands gap is =
      let list : GivesList (rank_meaning (flat_ranking goal ceiling (rows pages))) (ranked gap goal ceiling (rows pages)) =
      gives_ranked (flat_ranking goal ceiling (rows pages)) (flat_sound goal ceiling (rows pages) reach (in_plane pages stands) (rows_apart pages t (rows pages) fits)) gap is in
      record {
        next = λ n last hit given h. list.next n last hit given (record { row = h.row; same = h.same; answer = h.answer; later = h.later; first = h.first });
        over = λ n last given h. list.over n last given h;
      }

  -- the ranking is lawful
  pub near_lawful : IsLawfulNearOver rows Stands price t goal ceiling
  near_lawful = λ pages fits stands. record {
    hierarchy = near_laws rows Stands price t goal ceiling reach pages fits stands (in_plane pages stands);
    bounds = bound_gaps rows Stands price t goal ceiling reach pages fits stands (in_plane pages stands);
    once = pages_once rows Stands price t goal ceiling reach pages fits stands (in_plane pages stands);
    rows = gives pages fits stands;
    polygons = λ gap is. polygon_found rows Stands price t goal ceiling reach pages fits stands (in_plane pages stands) gap is Nothing (λ g. false) (λ g h e. refl);
    geometries = λ gap is cmp o to test tells done reached. polygons_counted rows Stands price t goal ceiling reach pages fits stands (in_plane pages stands) gap is to test tells o done reached;
    nothing = λ gap. nothing_within gap goal (rows pages);
  }
