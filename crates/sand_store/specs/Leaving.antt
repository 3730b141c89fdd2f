-- What only the proof of a deletion needs: access paths that lose the row of an id, and a relation that does.
use Rattle.std.specs.Prelude.{◌≡◌, ℕ, ◌^◌, ◌≤◌, ◌<◌, List, map, All, Option, Some, None, ⊤}
use Rattle.code_btree.specs.Tree.{times, live}
use Rattle.code_btree.specs.Calls.{Keeps}
use Rattle.page_pool.specs.Disk.{PageMap}
use Rattle.pmr_tree.specs.Lists.{RiseStrictly}
use Rattle.pmr_tree.specs.Quadtree.{store_of}
use Rattle.sand_base.specs.declared.kind.Kind.{Kind}
use Rattle.sand_base.specs.declared.limits.Limits.{Limits}
use Rattle.sand_base.specs.declared.refusal.Refusal.{Refusal}
use Rattle.sand_base.specs.declared.refusal.Refusal.TheVariants as why
use Rattle.sand_base.specs.declared.value.Value.{Value}
use Rattle.sand_model.specs.Database.{Index, index_without, without_row}
use Rattle.sand_model.specs.Measure.{Measure, IsMeasure}
use Rattle.r_tree.specs.declared.tree.RTree.{RTree}
use Rattle.tuple_file.specs.declared.file.TupleFile.{TupleFile}
use Rattle.tuple_file.specs.Spans.{Forgot}
use Rattle.tuple_file.specs.Rows.{of_id, without_id}
use Rattle.tuple_file.specs.Table.{AreRowsFor}
use Rattle.sand_store.specs.declared.path.AccessPath.{AccessPath}
use Rattle.sand_store.specs.Catalog.{RelationView}
use Rattle.sand_store.specs.Contents.{index_in, indexes_in, rows_in}
use Rattle.sand_store.specs.Ownership.{path_pages, paths_pages, relation_pages}
use Rattle.sand_store.specs.Standing.{PathStands, RelationStands}
use Rattle.sand_store.specs.Steps.{Became}

-- what access paths hold: rows of a schema, within limits
pub record Holding : Type 0 where
  pub limits : Limits
  pub schema : List (List ℕ × Kind)
  pub rows : List (ℕ × List Value)

-- the same without the row of an id
abbrev pub holding_without : ℕ → Holding → Holding
holding_without id held = record { limits = held.limits; schema = held.schema; rows = without_id id held.rows }

-- an access path of a column holds them
abbrev pub PathHolds : PageMap → Holding → ℕ × AccessPath → Type 0
PathHolds m held path = PathStands m held.limits held.schema held.rows path

-- The rows are of the schema, under ascending ids of 32 bits, and the id has this row.
pub record HoldsRow (held : Holding) (id : ℕ) (row : List Value) : Type 0 where
  pub rows : AreRowsFor held.schema held.rows
  pub rise : RiseStrictly (map (λ r. r.0) held.rows)
  pub small : All (λ r. (1 ≤ r.0) × (r.0 < 2 ^ 32)) held.rows
  pub there : of_id id held.rows ≡ Some row

-- an access path can lose the row of an id: it holds what the rows have in its column
pub record CanLose (m : PageMap) (held : Holding) (id : ℕ) (row : List Value) (path : ℕ × AccessPath) : Type 0 where
  pub has : HoldsRow held id row
  pub stands : PathHolds m held path

-- How access paths change: what they held, what they hold then, and what becomes of their indexes.
pub record PathChange : Type 0 where
  pub before : Holding
  pub after : Holding
  pub index : Measure → ℕ × Index → ℕ × Index

-- they lose the row of an id
abbrev pub losing : Holding → ℕ → PathChange
losing held id = record { before = held; after = holding_without id held; index = λ gap. index_without id }

-- The access path of a column has changed so, and no other page was touched.
pub record PathChanged (m w : PageMap) (change : PathChange) (column : ℕ) (a b : AccessPath) : Type 0 where
  pub stands : PathHolds w change.after (column, b)
  pub means : (gap : Measure) → IsMeasure gap → (column, index_in w b) ≡ change.index gap (column, index_in m a)
  pub keeps : Keeps (store_of m) (store_of w) (path_pages m a) (path_pages w b)

-- All access paths of a relation can lose the row of an id: they hold what the rows have, and no page is one of two.
pub record AllCanLose (m : PageMap) (held : Holding) (id : ℕ) (row : List Value) (paths : List (ℕ × AccessPath)) : Type 0 where
  pub has : HoldsRow held id row
  pub stands : All (PathHolds m held) paths
  pub apart : (q : ℕ) → times q (paths_pages m paths) ≤ live (store_of m) q

-- All access paths have changed so, and no other page was touched.
pub record AllChanged (m w : PageMap) (change : PathChange) (before after : List (ℕ × AccessPath)) : Type 0 where
  pub stands : All (PathHolds w change.after) after
  pub means : (gap : Measure) → IsMeasure gap → indexes_in w after ≡ map (change.index gap) (indexes_in m before)
  pub keeps : Keeps (store_of m) (store_of w) (paths_pages m before) (paths_pages w after)

-- A relation can lose the row of an id: it stands, its pages are live, each once, its ids have 32 bits, and the id has this row.
pub record RelationCanLose (m : PageMap) (limits : Limits) (r : RelationView) (id : ℕ) (row : List Value) : Type 0 where
  pub stands : RelationStands m limits r
  pub owns : (q : ℕ) → times q (relation_pages m r) ≤ live (store_of m) q
  pub small : r.next ≤ 2 ^ 32
  pub there : of_id id (rows_in m r) ≡ Some row

-- a relation that lost a row, with the numbers that lead to its file, its access paths and its R-trees then, and the spans that are still known
abbrev pub shrunk_view : RelationView → List ℕ → TupleFile → List (ℕ × AccessPath) → List (ℕ × RTree) → RelationView
shrunk_view r spans file paths trees = record { name = r.name; schema = r.schema; next = r.next; file = file; spans = spans; paths = paths; trees = trees }

-- The relation became the one without the row of the id, whatever spans were forgotten with the row's.
pub record Shrank (m w : PageMap) (limits : Limits) (r : RelationView) (id : ℕ) (file : TupleFile) (paths : List (ℕ × AccessPath)) (trees : List (ℕ × RTree)) : Type 0 where
  pub became : (spans : List ℕ) → Forgot r.spans id spans → Became m w limits r (shrunk_view r spans file paths trees) (λ gap. without_row id)

-- the refusal comes from outside, or the id has no row
abbrev pub IsOutsideOrMissing : Refusal → Type 0
IsOutsideOrMissing why.Memory = ⊤
IsOutsideOrMissing why.Device = ⊤
IsOutsideOrMissing (why.Damaged n kept read) = ⊤
IsOutsideOrMissing why.NoSuchId = ⊤
IsOutsideOrMissing _ = ⊥

-- the early check of a deletion: its relation is there
abbrev pub there_check : Option RelationView → Option Refusal
there_check None = Some why.UnknownRelation
there_check (Some r) = None
