-- The laws of a quadtree searched farthest first, for whoever searches by them.
use Rattle.std.specs.Prelude.{ℕ, ◌*◌, ◌≤◌, List, map, Contains}
use Rattle.sand_base.specs.declared.point.Point.{Point}
use Rattle.sand_base.specs.declared.shape.Shape.{Shape}
use Rattle.sand_model.specs.Measure.{Measure, IsMeasure}
use Rattle.sand_model.specs.Sources.{Found, far_rows}
use Rattle.page_pool.specs.Disk.{PageMap}
use Rattle.pmr_tree.specs.Quadtree.{FitsRows}
use Rattle.pmr_tree.specs.declared.quadtree.Pmr.{Pmr}
use Rattle.best_first.specs.Hierarchy.{MeetsLaws}
use Rattle.rank_cursor.specs.Answers.{GivesList}
use Rattle.rank_cursor.specs.Ranking.{rank_meaning}
use Rattle.far_cursor.specs.FarAnswer.{keyed}
use Rattle.far_cursor.specs.FarRanking.{far_ranking}
use Rattle.far_cursor.specs.Farthest.{diagonal}

-- It meets the laws of a hierarchy, and gives all rows under their keys, farthest first, told by any measure; none is farther than the diagonal.
pub record IsLawfulFar (rows : PageMap → List (ℕ × Shape)) (Stands : PageMap → Type 0) (price : ℕ) (t : Pmr) (p : Point) (pages : PageMap) : Type 0 where
  pub hierarchy : MeetsLaws (rank_meaning (far_ranking rows Stands price t p pages))
  pub answer : (gap : Measure) → IsMeasure gap → GivesList (rank_meaning (far_ranking rows Stands price t p pages)) (map keyed (far_rows gap p (rows pages)))
  pub short : (gap : Measure) → IsMeasure gap → (found : Found) → Contains (far_rows gap p (rows pages)) found → found.gap.num ≤ diagonal * found.gap.den

-- over pages where the quadtree fits the rows, and the rows can be read, it is lawful
abbrev pub IsLawfulFarOver : (PageMap → List (ℕ × Shape)) → (PageMap → Type 0) → ℕ → Pmr → Point → Type 0
IsLawfulFarOver rows Stands price t p = (pages : PageMap) → FitsRows pages t (rows pages) → Stands pages → IsLawfulFar rows Stands price t p pages
