-- What the model tells of a plan that joins two columns: its rows, its counts and its visits, by the join.
use Rattle.std.proofs.Common.{◌≡◌, ℕ, List, map, refl, subst}
use Rattle.sand_base.specs.declared.shape.Shape.{Shape}
use Rattle.sand_base.specs.declared.visit.Visit.{Visit}
use Rattle.sand_base.specs.declared.visit.Visit.TheVariants as visit
use Rattle.page_pool.specs.Disk.{PageMap}
use Rattle.sand_model.specs.Answer.{source, pair_row}
use Rattle.sand_model.specs.Database.{Database}
use Rattle.statements.specs.Plan as plan
use Rattle.statements.specs.Plan.{Plan}
use Rattle.statements.specs.declared.column.Column.{Column}
use Rattle.sand_model.specs.Reach.{Reach, Counts, counts_at, innermost, ceiling_of, quadtree_of}
use Rattle.sand_model.specs.Sources.{Found, column_shapes, first_of_each, nearest_of}
use Rattle.sand_model.specs.Tree.{Tree}
use Rattle.dist_join.specs.Joining.{Joining}
use Rattle.plan_iterator.specs.Rows.{plan_measure}
use Rattle.plan_iterator.specs.Visited.{LiesWithin, IsJoinVisit}
use Rattle.plan_sources.specs.Joins.{IsSideOf, pairs_in}
use Rattle.plan_sources.proofs.PairCounts.{pair_count, geometry_count}
use Rattle.plan_sources.proofs.PairVisits.{IsWithin}

-- what the model counts of a join at a reach
abbrev pub counts_of_join : Joining → Reach → Counts
counts_of_join j to = record { blocks = 0; pairs = pair_count plan_measure j to; geometries = geometry_count plan_measure j to }

-- The source has these rows; its counts and its visits are those of the join.
pub record IsTold (d : Database) (p : Plan) (rows : List Found) (j : Joining) : Type 0 where
  pub rows_are : source plan_measure d p ≡ map pair_row rows
  pub ceiling_is : ceiling_of (innermost p) ≡ j.ceiling
  pub counts : (to : Reach) → counts_at plan_measure d (innermost p) to ≡ counts_of_join j to
  pub visits : (pages : PageMap) (to : Reach) (v : Visit) → IsWithin plan_measure j to v → LiesWithin plan_measure pages d p to v

-- the join with other sides
abbrev with_sides : Joining → List (ℕ × Shape) → Tree → List (ℕ × Shape) → Tree → Joining
with_sides j lefts t rights u = record j {
  left = record { shapes = lefts; tree = t; height = j.left.height };
  right = record { shapes = rights; tree = u; height = j.right.height };
}

-- a visit within a reach, as the model tells it of two columns
lies : (d : Database) (left right : Column) (j : Joining) (to : Reach) (v : Visit)
    → IsWithin plan_measure (with_sides j (column_shapes d left) (quadtree_of d left) (column_shapes d right) (quadtree_of d right)) to v
    → IsJoinVisit plan_measure d left right to v
lies d left right j to (visit.Block number z level) h = absurd h
lies d left right j to (visit.Geometry id) h = absurd h
lies d left right j to (visit.Pair b c) h = h
lies d left right j to (visit.GeometryPair l r) h = h
lies d left right j to (visit.Tree number page) h = absurd h

-- what holds of the sides with the shapes and trees of the columns holds of those of the join
moved : (j : Joining) (d : Database) (left right : Column) (P : Joining → Type 0) → IsSideOf j.left d left → IsSideOf j.right d right
    → P (with_sides j (column_shapes d left) (quadtree_of d left) (column_shapes d right) (quadtree_of d right)) → P j
moved j d left right P h k at =
    subst (λ (x : List (ℕ × Shape)). P (with_sides j x j.left.tree j.right.shapes j.right.tree)) h.shapes
    (subst (λ (x : Tree). P (with_sides j (column_shapes d left) x j.right.shapes j.right.tree)) h.tree
    (subst (λ (x : List (ℕ × Shape)). P (with_sides j (column_shapes d left) (quadtree_of d left) x j.right.tree)) k.shapes
    (subst (λ (x : Tree). P (with_sides j (column_shapes d left) (quadtree_of d left) (column_shapes d right) x)) k.tree at)))

pub join_told : (j : Joining) (d : Database) (left right : Column) → IsSideOf j.left d left → IsSideOf j.right d right
    → IsTold d (plan.Join left right j.ceiling) (pairs_in j) j
join_told j d left right h k =
    moved j d left right (λ x. IsTold d (plan.Join left right x.ceiling) (pairs_in x) x) h k
    (record { rows_are = refl; ceiling_is = refl; counts = λ to. refl; visits = λ pages. lies d left right j })

pub semi_told : (j : Joining) (d : Database) (left right : Column) → IsSideOf j.left d left → IsSideOf j.right d right
    → IsTold d (plan.Semi left right j.ceiling) (first_of_each (pairs_in j)) j
semi_told j d left right h k =
    moved j d left right (λ x. IsTold d (plan.Semi left right x.ceiling) (first_of_each (pairs_in x)) x) h k
    (record { rows_are = refl; ceiling_is = refl; counts = λ to. refl; visits = λ pages. lies d left right j })

pub knn_told : (k : ℕ) (j : Joining) (d : Database) (left right : Column) → IsSideOf j.left d left → IsSideOf j.right d right
    → IsTold d (plan.Knn k left right j.ceiling) (nearest_of k (pairs_in j)) j
knn_told n j d left right h k =
    moved j d left right (λ x. IsTold d (plan.Knn n left right x.ceiling) (nearest_of n (pairs_in x)) x) h k
    (record { rows_are = refl; ceiling_is = refl; counts = λ to. refl; visits = λ pages. lies d left right j })
