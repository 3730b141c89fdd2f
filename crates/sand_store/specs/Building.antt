-- Steps of making an index.
use Rattle.std.specs.Prelude.{◌≡◌, ℕ, ◌+◌, ◌≤◌, ◌<◌, ◌&&◌, true, false, not, List, [], ◌∷◌, ◌++◌, map, All, Option, Some, None, IfSome}
use Rattle.page_pool.specs.Disk.{PageMap}
use Rattle.code_btree.specs.Tree.{times, live}
use Rattle.code_btree.specs.Calls.{Keeps}
use Rattle.sand_base.specs.declared.kind.Kind.{Kind}
use Rattle.sand_base.specs.declared.limits.Limits.{Limits}
use Rattle.sand_base.specs.declared.refusal.Refusal.{Refusal}
use Rattle.sand_base.specs.declared.refusal.Refusal.TheVariants as why
use Rattle.sand_base.specs.declared.shape.Shape.{Shape}
use Rattle.sand_base.specs.declared.value.Value.{Value}
use Rattle.sand_base.specs.Shape.{is_spatial}
use Rattle.sand_model.specs.Checks.{first_refusal}
use Rattle.sand_model.specs.Database.{Index, Quadtree as tree_index, Attribute as attribute_index, element, column_named, shapes_of, tree_with, new_index}
use Rattle.sand_model.specs.Measure.{Measure, IsMeasure}
use Rattle.sand_model.specs.StatementChecks.{refused_where, is_there, threshold_of}
use Rattle.sand_model.specs.Tree.{Tree, empty_tree}
use Rattle.pmr_tree.specs.Lists.{RiseStrictly}
use Rattle.pmr_tree.specs.Quadtree.{store_of}
use Rattle.tuple_file.specs.declared.file.TupleFile.{TupleFile}
use Rattle.tuple_file.specs.File.{file_pages}
use Rattle.sand_store.specs.declared.path.AccessPath.{AccessPath}
use Rattle.sand_store.specs.declared.path.AccessPath.TheVariants.{Quadtree, Attribute}
use Rattle.sand_store.specs.Catalog.{RelationView, IsPathOf}
use Rattle.sand_store.specs.Contents.{rows_at, index_in}
use Rattle.sand_store.specs.Ownership.{path_pages}
use Rattle.sand_store.specs.Paths.{path_at}
use Rattle.sand_store.specs.Standing.{TableStands, PathStands}

-- the checks of an index of a relation's column, and of one of a relation that is to be found

-- the checks of an index of a column of a relation, by the names and the threshold that are given
abbrev pub index_check : RelationView → List ℕ → Option ℕ → Option Refusal
index_check r name given = of_place (column_named r.schema name) where
  of_column : ℕ → Option (List ℕ × Kind) → Option Refusal
  of_column at None = Some why.UnknownColumn
  of_column at (Some column) =
      first_refusal (refused_where (is_there given && not (is_spatial column.1)) why.WrongKind ∷ refused_where (is_there (path_at r.paths at)) why.IndexThere ∷ [])

  of_place : Option ℕ → Option Refusal
  of_place None = Some why.UnknownColumn
  of_place (Some at) = of_column at (element r.schema at)

-- the checks of an index of a relation that is to be found
abbrev pub found_index_check : List ℕ → Option ℕ → Option RelationView → Option Refusal
found_index_check name given None = Some why.UnknownRelation
found_index_check name given (Some r) = index_check r name given

-- What the checks find: the column is there, of this kind and without an index, and an index of it has this threshold, if any.
pub record IsWanted (r : RelationView) (name : List ℕ) (given : Option ℕ) (at : ℕ) (threshold : Option ℕ) : Type 0 where
  pub passes : index_check r name given ≡ None
  pub place : column_named r.schema name ≡ Some at
  pub column : List ℕ × Kind
  pub here : element r.schema at ≡ Some column
  pub asked : threshold ≡ threshold_of column.1 given
  pub free : path_at r.paths at ≡ None

-- a threshold, where there is one, is from 1 to 64
abbrev pub IsThreshold : Option ℕ → Type 0
IsThreshold threshold = IfSome threshold (λ t. (1 ≤ t) × (t ≤ 64))

-- a relation with one access path more
abbrev pub indexed_view : RelationView → ℕ → AccessPath → RelationView
indexed_view r at path = record { name = r.name; schema = r.schema; next = r.next; file = r.file; spans = r.spans; paths = r.paths ++ (at, path) ∷ []; trees = r.trees }

-- the relation has got an access path of a column of its kind
pub record HasPath (r u : RelationView) (at : ℕ) : Type 0 where
  pub path : AccessPath
  pub added : u ≡ indexed_view r at path
  pub of : IsPathOf r.schema (at, path)

-- a quadtree has a threshold, an attribute index has none
abbrev pub IsOfKind : Option ℕ → AccessPath → Type 0
IsOfKind threshold (Quadtree tree) = is_there threshold ≡ true
IsOfKind threshold (Attribute index) = is_there threshold ≡ false

-- the index of no rows
abbrev pub empty_index : Option ℕ → Index
empty_index (Some threshold) = tree_index threshold empty_tree
empty_index None = attribute_index

-- A new index of no rows, on pages that weren't live.
pub record PlantsPath (m w : PageMap) (threshold : Option ℕ) (a : AccessPath) : Type 0 where
  pub stands : (limits : Limits) (schema : List (List ℕ × Kind)) (column : ℕ) → 1 ≤ limits.listings → PathStands w limits schema [] (column, a)
  pub means : index_in w a ≡ empty_index threshold
  pub keeps : Keeps (store_of m) (store_of w) [] (path_pages w a)

-- a tree when rows of these ids were entered, in order
abbrev pub rows_entered : Measure → List (ℕ × Shape) → ℕ → List ℕ → Tree → Tree
rows_entered gap shapes threshold [] tree = tree
rows_entered gap shapes threshold (id ∷ ids) tree = rows_entered gap shapes threshold ids (tree_with gap shapes threshold id tree)

-- an index of a column when some of these rows were entered, in order
abbrev pub index_after : Measure → List (ℕ × List Value) → ℕ → List (ℕ × List Value) → Index → Index
index_after gap rows column more (tree_index threshold tree) =
    tree_index threshold (rows_entered gap (shapes_of column rows) threshold (map (λ s. s.0) (shapes_of column more)) tree)
index_after gap rows column more attribute_index = attribute_index

-- An access path can take the row of an id of a file: it holds what the rows before it have in its column, and shares no page with the file.
pub record CanTake (m : PageMap) (limits : Limits) (schema : List (List ℕ × Kind)) (file : TupleFile) (id : ℕ) (row : List Value) (path : ℕ × AccessPath) : Type 0 where
  pub before : List (ℕ × List Value)
  pub rest : List (ℕ × List Value)
  pub table : TableStands m schema file
  pub rows : rows_at m schema file ≡ before ++ (id, row) ∷ rest
  pub rise : RiseStrictly (map (λ r. r.0) before)
  pub below : All (λ r. (1 ≤ r.0) × (r.0 < id)) before
  pub stands : PathStands m limits schema before path
  pub apart : (q : ℕ) → times q (path_pages m path.1) + times q (file_pages (store_of m) file) ≤ live (store_of m) q

-- The access path of a column has taken the row of an id, after these, and no other page was touched.
pub record PathTook (m w : PageMap) (limits : Limits) (schema : List (List ℕ × Kind)) (rows before : List (ℕ × List Value)) (id : ℕ) (row : List Value) (column : ℕ) (a b : AccessPath)
    : Type 0 where
  pub stands : PathStands w limits schema (before ++ (id, row) ∷ []) (column, b)
  pub means : (gap : Measure) → IsMeasure gap → (more : List (ℕ × List Value))
      → index_after gap rows column more (index_in w b) ≡ index_after gap rows column ((id, row) ∷ more) (index_in m a)
  pub keeps : Keeps (store_of m) (store_of w) (path_pages m a) (path_pages w b)

-- An access path of no rows can take all rows of a file.
pub record CanFill (m : PageMap) (limits : Limits) (schema : List (List ℕ × Kind)) (file : TupleFile) (path : ℕ × AccessPath) : Type 0 where
  pub table : TableStands m schema file
  pub given_out : All (λ r. 1 ≤ r.0) (rows_at m schema file)
  pub stands : PathStands m limits schema [] path
  pub apart : (q : ℕ) → times q (path_pages m path.1) + times q (file_pages (store_of m) file) ≤ live (store_of m) q

-- It has taken them all, in order, and no other page was touched.
pub record Fills (m w : PageMap) (limits : Limits) (schema : List (List ℕ × Kind)) (rows : List (ℕ × List Value)) (column : ℕ) (a b : AccessPath) : Type 0 where
  pub stands : PathStands w limits schema rows (column, b)
  pub means : (gap : Measure) → IsMeasure gap → index_in w b ≡ index_after gap rows column rows (index_in m a)
  pub keeps : Keeps (store_of m) (store_of w) (path_pages m a) (path_pages w b)

-- A new index of a column, of these rows, on pages that weren't live.
pub record Builds (m w : PageMap) (limits : Limits) (schema : List (List ℕ × Kind)) (rows : List (ℕ × List Value)) (column : ℕ) (threshold : Option ℕ) (b : AccessPath) : Type 0 where
  pub stands : PathStands w limits schema rows (column, b)
  pub means : (gap : Measure) → IsMeasure gap → index_in w b ≡ new_index gap rows column threshold
  pub keeps : Keeps (store_of m) (store_of w) [] (path_pages w b)
