-- The source of a plan that ranks a column: where it stands when so much of it was taken.
use Rattle.std.specs.Prelude.{◌≡◌, ℕ, ◌+◌, ◌≤◌, true, List, length, Option, Some, ⊤}
use Rattle.std.specs.Ordering.{nat_cmp, ordering_then}
use Rattle.std.specs.declared.cmp.Ordering.{Ordering}
use Rattle.sand_base.specs.declared.goal.Goal.{Goal}
use Rattle.sand_base.specs.declared.goal.Goal.TheVariants as figure
use Rattle.sand_base.specs.declared.kind.Kind.{Kind}
use Rattle.sand_base.specs.declared.limits.Limits.{Limits}
use Rattle.tuple_file.specs.declared.file.TupleFile.{TupleFile}
use Rattle.z_code.specs.declared.block.Block.{Block}
use Rattle.sand_model.specs.Database.{Database, shapes_of, relation_named, column_named}
use Rattle.statements.specs.Plan as plan
use Rattle.statements.specs.Plan.{Plan}
use Rattle.statements.specs.declared.column.Column.{Column}
use Rattle.sand_model.specs.Reach.{quadtree_of}
use Rattle.sand_model.specs.Sources.{column_shapes, ranked}
use Rattle.sand_model.specs.Taken.{Taken}
use Rattle.sand_model.specs.Tree.{listings}
use Rattle.page_pool.specs.Desk.{DeskState}
use Rattle.page_pool.specs.Disk.{PageMap}
use Rattle.pmr_tree.specs.declared.quadtree.Pmr.{Pmr}
use Rattle.sand_store.specs.declared.column.FileShapes.{FileShapes}
use Rattle.sand_store.specs.Catalog.{RelationView, IsLimits, most_listings}
use Rattle.sand_store.specs.Contents.{rows_at, relation_in}
use Rattle.sand_store.specs.Paths.{IsTreeOf}
use Rattle.sand_store.specs.Standing.{TableStands, RelationStands}
use Rattle.best_first.specs.Frontier.{Stands, StandsOver}
use Rattle.best_first.specs.Steps.{steps}
use Rattle.best_first.specs.Visits.{SearchState, state, IsCounted}
use Rattle.best_first.specs.declared.counts.Counts.{Counts}
use Rattle.best_first.specs.declared.hit.Hit.{Hit}
use Rattle.best_first.specs.declared.item.Item.{Item}
use Rattle.best_first.specs.ZeroItems.{items_of}
use Rattle.rank_cursor.specs.Answers.{AreGiven}
use Rattle.rank_cursor.specs.Cursor.{ranking_over, block_weight}
use Rattle.rank_cursor.specs.declared.rank_tree.RankTree.{RankTree}
use Rattle.rank_cursor.specs.Ranking.{Ranking, IsSound, rank_meaning}
use Rattle.plan_iterator.specs.Prices.{Heights}
use Rattle.plan_iterator.specs.Rows.{plan_measure}
use Rattle.plan_iterator.specs.SourceSteps.{nothing_taken}
use Rattle.plan_iterator.specs.declared.stats.SourceCounts.{SourceCounts}
use Rattle.plan_sources.specs.declared.search.Search.{Search}
use Rattle.plan_sources.specs.declared.search.Search.TheVariants.{Nearest, AtZero}

-- ---- what is ranked

-- the plan ranks this column from this goal within this ceiling; a window ranks from its rectangle within the distance 0
abbrev pub Ranks : Plan → Column → Goal → Option ℕ → Type 0
Ranks (plan.Rank column goal within) c g ceiling = (column ≡ c) × (figure.Shape goal ≡ g) × (within ≡ ceiling)
Ranks (plan.Window column window) c g ceiling = (column ≡ c) × (figure.Rect window ≡ g) × (Some 0 ≡ ceiling)
Ranks _ c g ceiling = ⊥

-- the column of this name stands at this place of the relation, which the database has
abbrev pub IsColumnOf : PageMap → RelationView → ℕ → Database → Column → Type 0
IsColumnOf pages relation at d column =
    (relation_named d column.relation ≡ Some (relation_in pages relation)) × (column_named relation.schema column.column ≡ Some at)

-- the ranking over pages of a column of a file, of rows of a schema, by the column's quadtree
abbrev pub ranking_in : PageMap → List (List ℕ × Kind) → TupleFile → ℕ → Pmr → Goal → Option ℕ → Ranking
ranking_in pages schema file at tree goal ceiling =
    ranking_over (λ m. shapes_of at (rows_at m schema file)) (λ m. TableStands m schema file) (file.tree.height + 1) tree goal ceiling pages

-- The plan ranks a column of the database: the ranking has the column's shapes and its quadtree, with no more listings than a quadtree may have.
pub record RanksColumn (r : Ranking) (d : Database) (p : Plan) : Type 0 where
  pub column : Column
  pub ranks : Ranks p column r.goal r.ceiling
  pub shapes : column_shapes d column ≡ r.shapes
  pub tree : quadtree_of d column ≡ r.tree
  pub few : listings r.tree ≤ most_listings

-- ---- the search

-- the order of its nodes, by code and then by level
abbrev pub by_code : Block → Block → Ordering
by_code a b = ordering_then (nat_cmp a.z b.z) (nat_cmp a.level b.level)

-- the ranking that its hierarchy is over pages
abbrev pub ranking_of : RankTree FileShapes → PageMap → Ranking
ranking_of tree pages =
    ranking_in pages tree.shapes.schema tree.shapes.file tree.shapes.column tree.pmr tree.goal tree.ceiling

-- the heights of the B-trees that it reads: of the quadtree's map and of the file of the rows
abbrev pub heights_of : RankTree FileShapes → Heights
heights_of tree =
    record { index = tree.pmr.map.height; rows = tree.shapes.file.tree.height; right_index = 0; right_rows = 0 }

-- the hierarchy of a search of either kind
abbrev pub hierarchy_of : Search → RankTree FileShapes
hierarchy_of (Nearest s) = s.hierarchy
hierarchy_of (AtZero s) = s.hierarchy

-- what it has queued
abbrev pub held_of : Search → List (Item Block)
held_of (Nearest s) = s.frontier.queue.items
held_of (AtZero s) = items_of s.frontier.queue

-- the last row that it gave
abbrev pub last_row_of : Search → Option Hit
last_row_of (Nearest s) = s.frontier.last
last_row_of (AtZero s) = s.frontier.last

-- the counts of its visits
abbrev pub counted_by : Search → Counts
counted_by (Nearest s) = s.frontier.counts
counted_by (AtZero s) = s.frontier.counts

-- the search and its desk at one moment
abbrev pub search_state : Search → DeskState → SearchState Block
search_state s desk = state (held_of s) (last_row_of s) (counted_by s) desk

-- how many steps it may still make
abbrev pub search_steps : Search → ℕ
search_steps s = steps block_weight (held_of s)

-- what it has visited
abbrev pub search_seen : Search → SourceCounts
search_seen s = record { blocks = (counted_by s).visited; pairs = 0; geometries = (counted_by s).fetched }

-- a search of the rows at the distance 0 has the ceiling 0, and one by distance has any
abbrev pub HasItsCeiling : Search → Type 0
HasItsCeiling (Nearest s) = ⊤
HasItsCeiling (AtZero s) = s.hierarchy.ceiling ≡ Some 0

-- the search has its ceiling, and stands over these pages, whatever it has taken
abbrev pub StandsOn : Search → PageMap → Type 0
StandsOn s pages = HasItsCeiling s × StandsOver by_code (rank_meaning (ranking_of (hierarchy_of s) pages)) (held_of s) (last_row_of s)

-- ---- where it stands

-- So much was taken of the plan's source: the ranking can be searched, the search stands where it has taken all that its counts count, its rows are the first of the ranked ones, and at its end all.
pub record HasTaken (cmp : Block → Block → Ordering) (r : Ranking) (held : List (Item Block)) (last : Option Hit) (counts : Counts) (d : Database) (p : Plan) (t : Taken) : Type 0 where
  pub ranks : RanksColumn r d p
  pub sound : IsSound r
  pub done : List (Item Block)
  pub stands : Stands cmp (rank_meaning r) held last done
  pub counted : IsCounted done counts
  pub rows : AreGiven (ranked plan_measure r.goal r.ceiling r.shapes) t.rows last
  pub ended : t.is_ended ≡ true → t.rows ≡ length (ranked plan_measure r.goal r.ceiling r.shapes)

-- so much was taken of the plan's source, over these pages, by a search that has its ceiling
abbrev pub IsSearchAt : Search → PageMap → Database → Plan → Taken → Type 0
IsSearchAt s pages d p t = HasItsCeiling s × HasTaken by_code (ranking_of (hierarchy_of s) pages) (held_of s) (last_row_of s) (counted_by s) d p t

-- Nothing was taken of a ranking's source: over all pages where the relation stands, the tree is that of its column, and the plan ranks this column.
abbrev pub BeginsRanking : (PageMap → Database → Plan → Taken → Type 0) → RelationView → ℕ → Pmr → Goal → Option ℕ → Type 0
BeginsRanking At relation at tree goal ceiling =
    IsTreeOf relation at tree → (pages : PageMap) (limits : Limits) → IsLimits limits → RelationStands pages limits relation
    → (d : Database) (column : Column) → IsColumnOf pages relation at d column → (p : Plan) → Ranks p column goal ceiling → At pages d p nothing_taken
