-- The sources of plans that join two columns: where they stand when so much of them was taken.
use Rattle.std.specs.Prelude.{◌≡◌, ℕ, Bool, ◌+◌, ◌*◌, ◌≤◌, min, List, length, take, drop, true, Option}
use Rattle.std.specs.declared.cmp.Ordering.{Ordering}
use Rattle.z_code.specs.declared.block.Block.{Block}
use Rattle.sand_model.specs.Answer.{source}
use Rattle.sand_model.specs.Database.{Database, shapes_of}
use Rattle.statements.specs.Plan as plan
use Rattle.statements.specs.Plan.{Plan}
use Rattle.statements.specs.declared.column.Column.{Column}
use Rattle.sand_model.specs.Reach.{Counts, quadtree_of, counts_at, innermost, reach_of_last}
use Rattle.sand_model.specs.Sources.{Found, column_shapes, joined, first_of_each, nearest_of}
use Rattle.sand_model.specs.Taken.{Taken}
use Rattle.sand_model.specs.Tree.{listings}
use Rattle.page_pool.specs.Disk.{PageMap}
use Rattle.pmr_tree.specs.declared.quadtree.Pmr.{Pmr}
use Rattle.sand_base.specs.declared.kind.Kind.{Kind}
use Rattle.sand_base.specs.declared.limits.Limits.{Limits}
use Rattle.tuple_file.specs.declared.file.TupleFile.{TupleFile}
use Rattle.sand_store.specs.Catalog.{RelationView, IsLimits, IsColumnAt, most_listings}
use Rattle.sand_store.specs.Contents.{rows_at}
use Rattle.sand_store.specs.declared.column.FileShapes.{FileShapes}
use Rattle.sand_store.specs.Paths.{IsTreeOf}
use Rattle.sand_store.specs.Standing.{TableStands, RelationStands}
use Rattle.best_first.specs.Frontier.{Stands}
use Rattle.best_first.specs.Visits.{IsCounted}
use Rattle.best_first.specs.Wanted.{StandsFor}
use Rattle.best_first.specs.declared.counts.Counts.{Counts as Numbers}
use Rattle.best_first.specs.declared.hit.Hit.{Hit}
use Rattle.best_first.specs.declared.item.Item.{Item}
use Rattle.rank_cursor.specs.Answers.{AreGiven}
use Rattle.semi_join.specs.FirstPairs.{AreWaiting}
use Rattle.semi_join.specs.LeftRows.{LeftRows, is_waiting}
use Rattle.semi_join.specs.Listed.{ListsAnswer, pairs_left}
use Rattle.knn_join.specs.Listed.{partners_left}
use Rattle.knn_join.specs.PartnerCounts.{PartnerCounts}
use Rattle.knn_join.specs.Standing.{AreCountedUpTo}
use Rattle.dist_join.specs.Joining.{Side, Joining, IsSoundJoin, join_meaning}
use Rattle.dist_join.specs.OverPages.{PageSide, paged, joining_over}
use Rattle.plan_iterator.specs.Prices.{Heights}
use Rattle.plan_iterator.specs.Rows.{plan_measure}
use Rattle.plan_iterator.specs.SourceSteps.{nothing_taken}
use Rattle.dist_join.specs.declared.pair_tree.PairTree.{PairTree}
use Rattle.plan_sources.specs.Rankings.{IsColumnOf}
use Rattle.plan_sources.specs.declared.tree_column.TreeColumn.{TreeColumn}

-- ---- what is joined

-- a column of shapes: its relation, its place there, and its quadtree
pub record ColumnView : Type 0 where
  pub relation : RelationView
  pub at : ℕ
  pub tree : Pmr

-- two columns that are joined, with the ceiling
pub record JoinedColumns : Type 0 where
  pub left : ColumnView
  pub right : ColumnView
  pub ceiling : Option ℕ

-- the column of a relation of the catalog
abbrev pub column_view : TreeColumn → ColumnView
column_view column = record { relation = column.relation.now; at = column.column; tree = column.tree.now }

-- two columns of the catalog, with the ceiling
abbrev pub joined_columns : TreeColumn → TreeColumn → Option ℕ → JoinedColumns
joined_columns one two ceiling = record { left = column_view one; right = column_view two; ceiling = ceiling }

-- what a search keeps of a column: the schema and the file of the rows, the column's place there, and its quadtree
pub record SideView : Type 0 where
  pub schema : List (List ℕ × Kind)
  pub file : TupleFile
  pub at : ℕ
  pub tree : Pmr

-- what a search keeps of two columns, with the ceiling
pub record JoinView : Type 0 where
  pub left : SideView
  pub right : SideView
  pub ceiling : Option ℕ

-- a column, as a search keeps it
abbrev pub side_of : ColumnView → SideView
side_of c = record { schema = c.relation.schema; file = c.relation.file; at = c.at; tree = c.tree }

-- two columns, as a search keeps them
abbrev pub join_view : JoinedColumns → JoinView
join_view columns = record { left = side_of columns.left; right = side_of columns.right; ceiling = columns.ceiling }

-- the shapes of a column with its quadtree, as a hierarchy has them
abbrev pub side_kept : FileShapes → Pmr → SideView
side_kept shapes tree = record { schema = shapes.schema; file = shapes.file; at = shapes.column; tree = tree }

-- the join that a hierarchy is
abbrev pub join_of : PairTree FileShapes → JoinView
join_of tree = record { left = side_kept tree.left_shapes tree.left; right = side_kept tree.right_shapes tree.right; ceiling = tree.ceiling }

-- the shapes of a column over pages, with its quadtree
abbrev pub side_in : SideView → PageSide
side_in s = paged (λ pages. shapes_of s.at (rows_at pages s.schema s.file)) (λ pages. TableStands pages s.schema s.file) (s.file.tree.height + 1) s.tree

-- the join of the columns over pages
abbrev pub joining_in : JoinView → PageMap → Joining
joining_in v pages = joining_over (side_in v.left) (side_in v.right) v.ceiling pages

-- the heights of the B-trees that a join reads: of the quadtrees' maps and of the files of the rows
abbrev pub heights_of : JoinView → Heights
heights_of v = record {
  index = v.left.tree.map.height;
  rows = v.left.file.tree.height;
  right_index = v.right.tree.map.height;
  right_rows = v.right.file.tree.height;
}

-- A side of a join has the column's shapes and its quadtree, with no more listings than a quadtree may have.
pub record IsSideOf (side : Side) (d : Database) (column : Column) : Type 0 where
  pub shapes : column_shapes d column ≡ side.shapes
  pub tree : quadtree_of d column ≡ side.tree
  pub few : listings side.tree ≤ most_listings

-- the pairs of rows of a join, told in lowest terms
abbrev pub pairs_in : Joining → List Found
pairs_in j = joined plan_measure j.ceiling j.left.shapes j.right.shapes

-- the counts of the model, of so many pairs of places and rough pairs
abbrev pub counts_by : Numbers → Counts
counts_by n = record { blocks = 0; pairs = n.visited; geometries = n.fetched }

-- A search over a join stands where it has taken all that its counts count.
pub record IsSearched (cmp : Block × Block → Block × Block → Ordering) (j : Joining) (held : List (Item (Block × Block))) (last : Option Hit) (counts : Numbers) : Type 0 where
  pub sound : IsSoundJoin j
  pub done : List (Item (Block × Block))
  pub stands : Stands cmp (join_meaning j) held last done
  pub counted : IsCounted done counts

-- A search over a join that is asked for the rows of some left ids alone stands where it has taken all that its counts count.
pub record IsSearchedFor (cmp : Block × Block → Block × Block → Ordering) (j : Joining) (wants : ℕ → Bool) (held : List (Item (Block × Block))) (counts : Numbers) : Type 0 where
  pub sound : IsSoundJoin j
  pub done : List (Item (Block × Block))
  pub stands : StandsFor cmp (join_meaning j) wants held done
  pub counted : IsCounted done counts

-- ---- where a source stands

-- So much was taken of a join: it is that of two columns, the search stands, and its rows are the first of the joined ones.
pub record HasTakenPairs (cmp : Block × Block → Block × Block → Ordering) (j : Joining) (held : List (Item (Block × Block))) (last : Option Hit) (counts : Numbers)
    (d : Database) (p : Plan) (t : Taken) : Type 0 where
  pub left : Column
  pub right : Column
  pub is : p ≡ plan.Join left right j.ceiling
  pub left_side : IsSideOf j.left d left
  pub right_side : IsSideOf j.right d right
  pub searched : IsSearched cmp j held last counts
  pub rows : AreGiven (pairs_in j) t.rows last

-- So much was taken of a semi-join: it is that of two columns, the search stands for the left rows that wait, the rows were the first of the
-- first pairs, as many left rows as are not given wait, and where none waits the counts are those of the last row.
pub record HasTakenFirsts (cmp : Block × Block → Block × Block → Ordering) (j : Joining) (held : List (Item (Block × Block))) (counts : Numbers) (lefts : LeftRows)
    (d : Database) (p : Plan) (t : Taken) : Type 0 where
  pub left : Column
  pub right : Column
  pub is : p ≡ plan.Semi left right j.ceiling
  pub left_side : IsSideOf j.left d left
  pub right_side : IsSideOf j.right d right
  pub searched : IsSearchedFor cmp j (is_waiting lefts) held counts
  pub given : AreWaiting (join_meaning j) lefts
  pub rows : pairs_left lefts.given (pairs_in j) ≡ drop t.rows (first_of_each (pairs_in j))
  pub few : t.rows ≤ length (first_of_each (pairs_in j))
  pub waiting : t.rows + lefts.waiting ≡ length j.left.shapes
  pub spent : lefts.waiting ≡ 0 → counts_by counts ≡ counts_at plan_measure d (innermost p) (reach_of_last (take t.rows (source plan_measure d p)))

-- So much was taken of a join of k partners: it is that of two columns, the search stands and is counted, the rows were the first of the
-- partners, as many as can still be given wait, and where none waits the counts are those of the last row.
pub record HasTakenPartners (cmp : Block × Block → Block × Block → Ordering) (j : Joining) (held : List (Item (Block × Block))) (last : Option Hit) (counts : Numbers)
    (partners : PartnerCounts) (d : Database) (p : Plan) (t : Taken) : Type 0 where
  pub left : Column
  pub right : Column
  pub is : p ≡ plan.Knn partners.most left right j.ceiling
  pub left_side : IsSideOf j.left d left
  pub right_side : IsSideOf j.right d right
  pub searched : IsSearched cmp j held last counts
  pub given : (answer : List Found) → ListsAnswer (join_meaning j) answer → AreCountedUpTo answer last partners
  pub rows : partners_left last partners (pairs_in j) ≡ drop t.rows (nearest_of partners.most (pairs_in j))
  pub few : t.rows ≤ length (nearest_of partners.most (pairs_in j))
  pub waiting : t.rows + partners.waiting ≡ length j.left.shapes * min partners.most (length j.right.shapes)
  pub spent : partners.waiting ≡ 0 → counts_by counts ≡ counts_at plan_measure d (innermost p) (reach_of_last (take t.rows (source plan_measure d p)))

-- ---- how a source begins

-- both relations stand over the pages, within limits, and the database has their columns under these names
pub record AreColumnsOf (v : JoinedColumns) (pages : PageMap) (d : Database) (left right : Column) : Type 0 where
  pub limits : Limits
  pub small : IsLimits limits
  pub left_stands : RelationStands pages limits v.left.relation
  pub right_stands : RelationStands pages limits v.right.relation
  pub left_column : IsColumnOf pages v.left.relation v.left.at d left
  pub right_column : IsColumnOf pages v.right.relation v.right.at d right

-- the quadtrees are those of the columns
abbrev pub HaveTrees : JoinedColumns → Type 0
HaveTrees v = IsTreeOf v.left.relation v.left.at v.left.tree × IsTreeOf v.right.relation v.right.at v.right.tree

-- Nothing was taken of a join, over all pages where its relations stand.
abbrev pub Begins : (PageMap → Database → Plan → Taken → Type 0) → JoinedColumns → Type 0
Begins At v =
    HaveTrees v → (pages : PageMap) (d : Database) (left right : Column) → AreColumnsOf v pages d left right → At pages d (plan.Join left right v.ceiling) nothing_taken

-- Nothing was taken of a semi-join, over all pages where its relations stand; its left column is one of shapes.
abbrev pub BeginsFirsts : (PageMap → Database → Plan → Taken → Type 0) → JoinedColumns → Type 0
BeginsFirsts At v =
    HaveTrees v → IsColumnAt v.left.relation.schema v.left.at true → (pages : PageMap) (d : Database) (left right : Column) → AreColumnsOf v pages d left right
    → At pages d (plan.Semi left right v.ceiling) nothing_taken

-- Nothing was taken of a join of k partners, over all pages where its relations stand; both columns are of shapes.
abbrev pub BeginsPartners : ℕ → (PageMap → Database → Plan → Taken → Type 0) → JoinedColumns → Type 0
BeginsPartners k At v =
    HaveTrees v → IsColumnAt v.left.relation.schema v.left.at true → IsColumnAt v.right.relation.schema v.right.at true
    → (pages : PageMap) (d : Database) (left right : Column) → AreColumnsOf v pages d left right
    → At pages d (plan.Knn k left right v.ceiling) nothing_taken
