-- The source of a plan that ranks a column by its R-tree: where it stands when so much of it was taken.
use Rattle.std.specs.Prelude.{◌≡◌, ℕ, ◌+◌, ◌≤◌, true, List, length, Option}
use Rattle.std.specs.Ordering.{nat_cmp, ordering_then}
use Rattle.std.specs.declared.cmp.Ordering.{Ordering}
use Rattle.sand_base.specs.Faults.{last_count}
use Rattle.sand_base.specs.declared.goal.Goal.TheVariants as figure
use Rattle.sand_base.specs.declared.limits.Limits.{Limits}
use Rattle.sand_base.specs.declared.shape.Shape.{Shape}
use Rattle.statements.specs.Plan as plan
use Rattle.statements.specs.Plan.{Plan}
use Rattle.statements.specs.declared.column.Column.{Column}
use Rattle.sand_model.specs.Database.{Database, shapes_of}
use Rattle.sand_model.specs.Sources.{Found, column_shapes, ranked}
use Rattle.sand_model.specs.Taken.{Taken}
use Rattle.page_pool.specs.Disk.{PageMap}
use Rattle.r_tree.specs.declared.tree.RTree.{RTree}
use Rattle.r_tree.specs.Listing.{ListsRows}
use Rattle.sand_store.specs.declared.column.FileShapes.{FileShapes}
use Rattle.sand_store.specs.Catalog.{RelationView, IsDescribed, IsLimits}
use Rattle.sand_store.specs.Contents.{rows_at, rows_in}
use Rattle.sand_store.specs.Standing.{TableStands, RelationStands}
use Rattle.best_first.specs.Frontier.{Stands}
use Rattle.best_first.specs.Hierarchy.{Meaning}
use Rattle.best_first.specs.Visits.{IsCounted}
use Rattle.best_first.specs.declared.counts.Counts.{Counts}
use Rattle.best_first.specs.declared.hit.Hit.{Hit}
use Rattle.best_first.specs.declared.item.Item.{Item}
use Rattle.rank_cursor.specs.Answers.{AreGiven}
use Rattle.near_cursor.specs.declared.near_tree.NearTree.{NearTree}
use Rattle.near_cursor.specs.NearLaws.{IsLawfulNear}
use Rattle.near_cursor.specs.NearRanking.{near_meaning}
use Rattle.near_cursor.specs.TreeNodes.{PageNode}
use Rattle.plan_iterator.specs.Prices.{Heights}
use Rattle.plan_iterator.specs.Rows.{plan_measure}
use Rattle.plan_iterator.specs.SourceSteps.{nothing_taken}
use Rattle.plan_iterator.specs.declared.stats.SourceCounts.{SourceCounts}
use Rattle.plan_sources.specs.Rankings.{IsColumnOf}

-- ---- what is ranked

-- the rows of a ranking: the shapes of its column
abbrev pub rows_under : NearTree FileShapes → PageMap → List (ℕ × Shape)
rows_under tree pages = shapes_of tree.shapes.column (rows_at pages tree.shapes.schema tree.shapes.file)

-- the rows can be read: the file holds rows of the schema
abbrev pub TableOf : NearTree FileShapes → PageMap → Type 0
TableOf tree pages = TableStands pages tree.shapes.schema tree.shapes.file

-- what fetching a row costs
abbrev pub fetch_of : NearTree FileShapes → ℕ
fetch_of tree = tree.shapes.file.tree.height + 1

-- the ranking that its hierarchy is over pages
abbrev pub nearing : NearTree FileShapes → PageMap → Meaning PageNode
nearing tree pages = near_meaning (rows_under tree) (TableOf tree) (fetch_of tree) tree.tree tree.goal tree.ceiling pages

-- the rows by their distance from the goal, those above the ceiling left out
abbrev pub nearest_rows : NearTree FileShapes → PageMap → List Found
nearest_rows tree pages = ranked plan_measure tree.goal tree.ceiling (rows_under tree pages)

-- the heights of the B-trees that it reads: of the file of the rows
abbrev pub near_heights : NearTree FileShapes → Heights
near_heights tree = record { index = 0; rows = tree.shapes.file.tree.height; right_index = 0; right_rows = 0 }

-- ---- the search

-- the order of its nodes, by page and then by height
abbrev pub by_page : PageNode → PageNode → Ordering
by_page a b = ordering_then (nat_cmp a.0 b.0) (nat_cmp a.1 b.1)

-- what it has visited, as plans count it: the geometries alone
abbrev pub geometries_seen : Counts → SourceCounts
geometries_seen counts = record { blocks = 0; pairs = 0; geometries = counts.fetched }

-- ---- where it stands

-- So much was taken of the plan's source: it ranks a column by an R-tree, the search stands under the laws of such rankings where it has
-- taken all that its counts count, its rows are the first of the ranked ones, and at its end all.
pub record HasTakenNear (tree : NearTree FileShapes) (pages : PageMap) (held : List (Item PageNode)) (last : Option Hit) (counts : Counts) (d : Database) (p : Plan) (t : Taken) : Type 0 where
  pub column : Column
  pub goal : Shape
  pub is : p ≡ plan.Near column goal tree.ceiling
  pub from_goal : tree.goal ≡ figure.Shape goal
  pub shapes : column_shapes d column ≡ rows_under tree pages
  pub few : length (rows_under tree pages) ≤ last_count
  pub lawful : IsLawfulNear (rows_under tree) (TableOf tree) (fetch_of tree) tree.tree tree.goal tree.ceiling pages
  pub done : List (Item PageNode)
  pub stands : Stands by_page (nearing tree pages) held last done
  pub counted : IsCounted done counts
  pub rows : AreGiven (nearest_rows tree pages) t.rows last
  pub ended : t.is_ended ≡ true → t.rows ≡ length (nearest_rows tree pages)

-- the R-tree lists the shapes that a relation's rows have in a column, wherever the relation stands
abbrev pub IsRtreeOf : RelationView → ℕ → RTree → Type 0
IsRtreeOf relation at tree =
    (pages : PageMap) (limits : Limits) → RelationStands pages limits relation → ListsRows pages tree (shapes_of at (rows_in pages relation))

-- Nothing was taken of a source by an R-tree: over all pages where the relation stands, the R-tree is that of its column, and the plan ranks this column.
abbrev pub BeginsNear : (PageMap → Database → Plan → Taken → Type 0) → RelationView → ℕ → RTree → Shape → Option ℕ → Type 0
BeginsNear At relation at tree goal ceiling =
    IsRtreeOf relation at tree → (pages : PageMap) (limits : Limits) → IsLimits limits → IsDescribed limits relation → RelationStands pages limits relation
    → (d : Database) (column : Column) → IsColumnOf pages relation at d column
    → At pages d (plan.Near column goal ceiling) nothing_taken
