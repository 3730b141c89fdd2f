-- A cursor that gives the rows of a column farthest first: what it stands for over pages, and when it may be made.
use Rattle.std.specs.Prelude.{◌≡◌, ℕ, ◌+◌, List, Option, None, Some}
use Rattle.std.specs.declared.cmp.Ordering.{Ordering}
use Rattle.sand_base.specs.Shape.{is_spatial}
use Rattle.sand_base.specs.declared.point.Point.{Point}
use Rattle.sand_base.specs.declared.refusal.Refusal.{Refusal}
use Rattle.sand_base.specs.declared.shape.Shape.{Shape}
use Rattle.z_code.specs.declared.block.Block.{Block}
use Rattle.sand_model.specs.Checks.{check_column}
use Rattle.sand_model.specs.Database.{shapes_of}
use Rattle.sand_model.specs.Measure.{Measure, IsMeasure}
use Rattle.statements.specs.declared.column.Column.{Column}
use Rattle.sand_model.specs.Sources.{column_shapes, far_rows}
use Rattle.page_pool.specs.Disk.{PageMap}
use Rattle.page_pool.specs.declared.fault.PageFault.{PageFault}
use Rattle.pmr_tree.specs.Quadtree.{FitsRows}
use Rattle.pmr_tree.specs.declared.quadtree.Pmr.{Pmr}
use Rattle.sand_store.specs.Catalog.{CatalogView, RelationView}
use Rattle.sand_store.specs.Contents.{database_in, rows_at, rows_in}
use Rattle.sand_store.specs.Standing.{CatalogStands, TableStands}
use Rattle.sand_store.specs.declared.column.FileShapes.{FileShapes}
use Rattle.best_first.specs.Frontier.{StandsOver}
use Rattle.best_first.specs.declared.hit.Hit.{Hit}
use Rattle.best_first.specs.declared.item.Item.{Item}
use Rattle.rank_cursor.specs.Ranking.{Ranking, rank_meaning}
use Rattle.std.specs.Prelude.{Result}
use Rattle.far_cursor.specs.FarAnswer.{AreGivenFar, GivesFar}
use Rattle.far_cursor.specs.FarRanking.{far_ranking}
use Rattle.far_cursor.specs.declared.far_tree.FarTree.{FarTree}

-- ---- the search

-- the shapes of a column of a file over pages
abbrev pub shapes_in : FileShapes → PageMap → List (ℕ × Shape)
shapes_in shapes pages = shapes_of shapes.column (rows_at pages shapes.schema shapes.file)

-- the ranking under keys that its hierarchy is over pages
abbrev pub far_in : FarTree FileShapes → PageMap → Ranking
far_in tree pages =
    far_ranking (shapes_in tree.shapes) (λ m. TableStands m tree.shapes.schema tree.shapes.file) (tree.shapes.file.tree.height + 1) tree.pmr tree.goal pages

-- the search stands over these pages, whatever it has taken
abbrev pub FarStands : (Block → Block → Ordering) → FarTree FileShapes → List (Item Block) → Option Hit → PageMap → Type 0
FarStands cmp tree held last pages = StandsOver cmp (rank_meaning (far_in tree pages)) held last

-- what a call gives of all rows by falling gap, told by any measure, however many were given
abbrev pub GivesFarthest : FarTree FileShapes → Option Hit → Option Hit → Result (Option Hit) PageFault → PageMap → Type 0
GivesFarthest tree old new result pages =
    (gap : Measure) → IsMeasure gap → (n : ℕ) → AreGivenFar (far_rows gap tree.goal (shapes_in tree.shapes pages)) n old
    → GivesFar (far_rows gap tree.goal (shapes_in tree.shapes pages)) n new result

-- ---- its beginning

-- the first check of the column that fails gives this refusal
abbrev pub LacksColumn : CatalogView → Column → Refusal → PageMap → Type 0
LacksColumn catalog column refusal pages = check_column (database_in pages catalog.relations) column is_spatial ≡ Some refusal

-- No check of the column fails, it stands at this place of this relation, and wherever the catalog stands the rows can be read and this quadtree fits them.
pub record HasTreeColumn (catalog : CatalogView) (column : Column) (r : RelationView) (at : ℕ) (tree : Pmr) (pages : PageMap) : Type 0 where
  pub passes : check_column (database_in pages catalog.relations) column is_spatial ≡ None
  pub rows : column_shapes (database_in pages catalog.relations) column ≡ shapes_of at (rows_in pages r)
  pub fits : CatalogStands pages catalog → FitsRows pages tree (shapes_of at (rows_in pages r))
  pub table : CatalogStands pages catalog → TableStands pages r.schema r.file

-- The search is one over a column whose checks pass, from this point: nothing was given, its rows are those of the column, and it stands wherever the catalog does.
pub record BeginsFar (cmp : Block → Block → Ordering) (catalog : CatalogView) (column : Column) (goal : Point) (tree : FarTree FileShapes)
    (held : List (Item Block)) (last : Option Hit) (pages : PageMap) : Type 0 where
  pub passes : check_column (database_in pages catalog.relations) column is_spatial ≡ None
  pub rows : column_shapes (database_in pages catalog.relations) column ≡ shapes_in tree.shapes pages
  pub from : tree.goal ≡ goal
  pub none : last ≡ None
  pub stands : CatalogStands pages catalog → FarStands cmp tree held last pages
