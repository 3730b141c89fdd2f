-- What the model tells of a plan that ranks a column: its rows, its counts and its visits, by the ranking.
use Rattle.std.proofs.Common.{◌≡◌, ℕ, false, List, map, length, filter, Option, refl, subst}
use Rattle.sand_base.specs.declared.goal.Goal.{Goal}
use Rattle.sand_base.specs.declared.goal.Goal.TheVariants as figure
use Rattle.sand_base.specs.declared.shape.Shape.{Shape}
use Rattle.sand_base.specs.declared.visit.Visit.{Visit}
use Rattle.sand_base.specs.declared.visit.Visit.TheVariants as visit
use Rattle.page_pool.specs.Disk.{PageMap}
use Rattle.sand_model.specs.Answer.{source, single_row}
use Rattle.sand_model.specs.Database.{Database}
use Rattle.sand_model.specs.Nodes.{rank_gaps, rank_items}
use Rattle.statements.specs.Plan as plan
use Rattle.statements.specs.Plan.{Plan}
use Rattle.statements.specs.declared.column.Column.{Column}
use Rattle.sand_model.specs.Reach.{Reach, reaches, roughs_within, counts_at, innermost, ceiling_of, is_saturated, quadtree_of}
use Rattle.sand_model.specs.Sources.{column_shapes, ranked}
use Rattle.sand_model.specs.Tree.{Tree}
use Rattle.rank_cursor.specs.Ranking.{Ranking}
use Rattle.plan_iterator.specs.Rows.{plan_measure}
use Rattle.plan_iterator.specs.Visited.{LiesWithin, IsRankVisit}
use Rattle.plan_sources.specs.Rankings.{Ranks, RanksColumn}
use Rattle.plan_sources.proofs.RankVisits.{IsWithin}

-- The source has the ranked rows; its counts and its visits are those of the tree.
pub record IsTold (d : Database) (p : Plan) (goal : Goal) (ceiling : Option ℕ) (shapes : List (ℕ × Shape)) (tree : Tree) : Type 0 where
  pub rows : source plan_measure d p ≡ map single_row (ranked plan_measure goal ceiling shapes)
  pub open_ : is_saturated d (innermost p) (source plan_measure d p) ≡ false
  pub ceiling_is : ceiling_of (innermost p) ≡ ceiling
  pub counts : (to : Reach)
      → counts_at plan_measure d (innermost p) to
      ≡ record {
        blocks = length (filter (reaches to) (rank_gaps plan_measure goal tree));
        pairs = 0;
        geometries = length (roughs_within to (rank_items plan_measure goal shapes tree));
      }
  pub visits : (pages : PageMap) (to : Reach) (v : Visit) → IsWithin plan_measure goal shapes tree to v → LiesWithin plan_measure pages d p to v

-- a visit within a reach, as the model tells it of a column
lies : (d : Database) (column : Column) (goal : Goal) (to : Reach) (v : Visit) → IsWithin plan_measure goal (column_shapes d column) (quadtree_of d column) to v
    → IsRankVisit plan_measure d column goal to v
lies d column goal to (visit.Block number z level) h = h
lies d column goal to (visit.Geometry id) h = h
lies d column goal to (visit.Pair b c) h = absurd h
lies d column goal to (visit.GeometryPair l r) h = absurd h
lies d column goal to (visit.Tree number page) h = absurd h

-- what is told of a ranking, and of a plan that ranks

rank_told : (d : Database) (column : Column) (s : Shape) (within : Option ℕ) → IsTold d (plan.Rank column s within) (figure.Shape s) within (column_shapes d column) (quadtree_of d column)
rank_told d column s within = record { rows = refl; open_ = refl; ceiling_is = refl; counts = λ to. refl; visits = λ pages. lies d column (figure.Shape s) }

told : (d : Database) (p : Plan) (column : Column) (goal : Goal) (ceiling : Option ℕ) → Ranks p column goal ceiling → IsTold d p goal ceiling (column_shapes d column) (quadtree_of d column)
told d (plan.Rank c s within) column goal ceiling h =
    subst (λ (k : Column). IsTold d (plan.Rank c s within) goal ceiling (column_shapes d k) (quadtree_of d k)) h.0
    (subst (λ g. IsTold d (plan.Rank c s within) g ceiling (column_shapes d c) (quadtree_of d c)) h.1
    (subst (λ w. IsTold d (plan.Rank c s within) (figure.Shape s) w (column_shapes d c) (quadtree_of d c)) h.2 (rank_told d c s within)))
told d (plan.Window c window) column goal ceiling h =
    subst (λ (k : Column). IsTold d (plan.Window c window) goal ceiling (column_shapes d k) (quadtree_of d k)) h.0
    (subst (λ g. IsTold d (plan.Window c window) g ceiling (column_shapes d c) (quadtree_of d c)) h.1
    (subst (λ w. IsTold d (plan.Window c window) (figure.Rect window) w (column_shapes d c) (quadtree_of d c)) h.2
    (record { rows = refl; open_ = refl; ceiling_is = refl; counts = λ to. refl; visits = λ pages. lies d c (figure.Rect window) })))
told d (plan.Near c s within) column goal ceiling h = absurd h
told d (plan.Scan name) column goal ceiling h = absurd h
told d (plan.PickEqual c v) column goal ceiling h = absurd h
told d (plan.PickBetween c low high) column goal ceiling h = absurd h
told d (plan.Join c e within) column goal ceiling h = absurd h
told d (plan.Semi c e within) column goal ceiling h = absurd h
told d (plan.Knn n c e within) column goal ceiling h = absurd h
told d (plan.Filter q tests) column goal ceiling h = absurd h
told d (plan.Match q place c) column goal ceiling h = absurd h
told d (plan.Fetch q places) column goal ceiling h = absurd h
told d (plan.First count q) column goal ceiling h = absurd h
told d (plan.SortBy q place) column goal ceiling h = absurd h
told d (plan.SortNear q place s) column goal ceiling h = absurd h

-- and by the ranking over pages
pub told_by : (r : Ranking) (d : Database) (p : Plan) → RanksColumn r d p → IsTold d p r.goal r.ceiling r.shapes r.tree
told_by r d p h =
    subst (λ shapes. IsTold d p r.goal r.ceiling shapes r.tree) h.shapes
    (subst (λ tree. IsTold d p r.goal r.ceiling (column_shapes d h.column) tree) h.tree (told d p h.column r.goal r.ceiling h.ranks))
