-- Steps inside the calls.
use Rattle.std.specs.Prelude.{◌≡◌, ℕ, zero, suc, true, false, ◌||◌, List, [], ◌∷◌, ◌++◌, length, map, find, nat_le, not, ◌⊎◌, ◌+◌, ◌-◌, ◌≤◌, ◌<◌, All, Option, Some, None, ⊤}
use Rattle.code_btree.specs.Tree.{times, live}
use Rattle.code_btree.specs.Calls.{Keeps}
use Rattle.page_pool.specs.Disk.{PageMap}
use Rattle.page_pool.specs.Pool.{PoolState, IsTold}
use Rattle.pmr_tree.specs.Lists.{RiseStrictly}
use Rattle.pmr_tree.specs.Quadtree.{store_of}
use Rattle.pmr_tree.specs.declared.fault.PmrFault.{PmrFault}
use Rattle.pmr_tree.specs.declared.fault.PmrFault.TheVariants as tree
use Rattle.r_tree.specs.declared.tree.RTree.{RTree}
use Rattle.tuple_file.specs.declared.file.TupleFile.{TupleFile}
use Rattle.tuple_file.specs.File.{file_pages}
use Rattle.tuple_file.specs.Calls.{FilePlanted}
use Rattle.tuple_file.specs.declared.span.Span.{Span}
use Rattle.tuple_file.specs.Spans.{Learnt}
use Rattle.sand_base.specs.declared.kind.Kind.{Kind}
use Rattle.sand_base.specs.declared.limits.Limits.{Limits}
use Rattle.sand_base.specs.declared.refusal.Refusal.{Refusal}
use Rattle.sand_base.specs.declared.refusal.Refusal.TheVariants as why
use Rattle.sand_base.specs.declared.value.Value.{Value}
use Rattle.sand_model.specs.Checks.{first_refusal}
use Rattle.sand_model.specs.Database.{Relation, index_with, with_row}
use Rattle.sand_model.specs.Measure.{Measure, IsMeasure}
use Rattle.sand_model.specs.Kept.{has_twice, most_relations}
use Rattle.sand_model.specs.StatementChecks.{refused_where, is_there, is_row_of, check_length}
use Rattle.sand_store.specs.Catalog.{RelationView, StoreState, new_view, is_named, IsPathOf}
use Rattle.sand_store.specs.Contents.{relation_in, rows_at, index_in, indexes_in}
use Rattle.sand_store.specs.Ownership.{relation_pages, path_pages, paths_pages}
use Rattle.sand_store.specs.Standing.{RelationStands, TableStands, PathStands}
use Rattle.sand_store.specs.declared.path.AccessPath.{AccessPath}

-- a store of these parts
abbrev pub store_from : List RelationView → Limits → PoolState → StoreState
store_from relations limits pool = record { catalog = record { relations = relations; limits = limits }; pool = pool }

-- the refusal comes from the pages or from memory
abbrev pub IsOutside : Refusal → Type 0
IsOutside why.Memory = ⊤
IsOutside why.Device = ⊤
IsOutside (why.Damaged n kept read) = ⊤
IsOutside _ = ⊥

-- the checks of a new relation
abbrev pub create_check : List RelationView → List ℕ → List (List ℕ × Kind) → Option Refusal
create_check relations name schema =
    first_refusal (refused_where (is_there (find (is_named name) relations) || has_twice (map (λ column. column.0) schema)) why.NameTaken
    ∷ refused_where (nat_le most_relations (length relations)) why.TooManyRelations ∷ [])

-- what a refused command leaves
pub record Reverts (old new : PoolState) (before after : List RelationView) : Type 0 where
  pub relations : after ≡ before
  pub pages : IsTold old → new.pages ≡ old.pages

-- a new relation stands last, over a file that was just planted
pub record AddsRelation (old new : PoolState) (before after : List RelationView) (name : List ℕ) (schema : List (List ℕ × Kind)) : Type 0 where
  pub file : TupleFile
  pub added : after ≡ before ++ new_view name schema file ∷ []
  pub planted : IsTold old → FilePlanted (store_of old.pages) (store_of new.pages) file

-- A relation became another one: it stands, it is the old one changed so, and no page of another structure was touched.
pub record Became (m w : PageMap) (limits : Limits) (r u : RelationView) (change : Measure → Relation → Relation) : Type 0 where
  pub stands : RelationStands w limits u
  pub means : (gap : Measure) → IsMeasure gap → relation_in w u ≡ change gap (relation_in m r)
  pub keeps : Keeps (store_of m) (store_of w) (relation_pages m r) (relation_pages w u)

-- the relation at the place is the first of its name
abbrev pub FirstAt : List ℕ → List RelationView → ℕ → Type 0
FirstAt name [] at = ⊥
FirstAt name (r ∷ rs) zero = is_named name r ≡ true
FirstAt name (r ∷ rs) (suc at) = (is_named name r ≡ false) × FirstAt name rs at

-- An access path can grow by the last row of a file: it holds what the rows before it have in its column, and their ids are lesser ones.
pub record CanGrow (m : PageMap) (limits : Limits) (schema : List (List ℕ × Kind)) (file : TupleFile) (id : ℕ) (row : List Value) (path : ℕ × AccessPath) : Type 0 where
  pub before : List (ℕ × List Value)
  pub table : TableStands m schema file
  pub rows : rows_at m schema file ≡ before ++ (id, row) ∷ []
  pub rise : RiseStrictly (map (λ r. r.0) before)
  pub below : All (λ r. (1 ≤ r.0) × (r.0 < id)) before
  pub stands : PathStands m limits schema before path

-- The access path of a column has grown by the row of an id, among these rows, and no other page was touched.
pub record PathGrew (m w : PageMap) (limits : Limits) (schema : List (List ℕ × Kind)) (rows : List (ℕ × List Value)) (id column : ℕ) (a b : AccessPath) : Type 0 where
  pub stands : PathStands w limits schema rows (column, b)
  pub means : (gap : Measure) → IsMeasure gap → (column, index_in w b) ≡ index_with gap rows id (column, index_in m a)
  pub keeps : Keeps (store_of m) (store_of w) (path_pages m a) (path_pages w b)

-- the refusal comes from outside, or a quadtree is full
abbrev pub IsOutsideOrFull : Refusal → Type 0
IsOutsideOrFull why.Memory = ⊤
IsOutsideOrFull why.Device = ⊤
IsOutsideOrFull (why.Damaged n kept read) = ⊤
IsOutsideOrFull why.IndexFull = ⊤
IsOutsideOrFull _ = ⊥

-- a refusal of a quadtree, as a statement is refused by it
abbrev pub refusal_of_tree : PmrFault → Refusal
refusal_of_tree tree.Memory = why.Memory
refusal_of_tree tree.Device = why.Device
refusal_of_tree (tree.Damaged n kept read) = why.Damaged n kept read
refusal_of_tree tree.IndexFull = why.IndexFull

-- All access paths of a relation can grow by the last row of its file: they hold what the rows before it have, and no page is one of two structures.
pub record AllCanGrow (m : PageMap) (limits : Limits) (schema : List (List ℕ × Kind)) (file : TupleFile) (id : ℕ) (row : List Value) (paths : List (ℕ × AccessPath)) : Type 0 where
  pub before : List (ℕ × List Value)
  pub table : TableStands m schema file
  pub rows : rows_at m schema file ≡ before ++ (id, row) ∷ []
  pub rise : RiseStrictly (map (λ r. r.0) before)
  pub below : All (λ r. (1 ≤ r.0) × (r.0 < id)) before
  pub stands : All (PathStands m limits schema before) paths
  pub apart : (q : ℕ) → times q (paths_pages m paths) + times q (file_pages (store_of m) file) ≤ live (store_of m) q

-- All access paths have grown by the row of an id, among these rows, and no other page was touched.
pub record AllGrew (m w : PageMap) (limits : Limits) (schema : List (List ℕ × Kind)) (rows : List (ℕ × List Value)) (id : ℕ) (before after : List (ℕ × AccessPath)) : Type 0 where
  pub stands : All (PathStands w limits schema rows) after
  pub means : (gap : Measure) → IsMeasure gap → indexes_in w after ≡ map (index_with gap rows id) (indexes_in m before)
  pub keeps : Keeps (store_of m) (store_of w) (paths_pages m before) (paths_pages w after)

-- access paths of the same columns, each of its kind
pub record SamePlaces (schema : List (List ℕ × Kind)) (before after : List (ℕ × AccessPath)) : Type 0 where
  pub places : map (λ p. p.0) after ≡ map (λ p. p.0) before
  pub paths : All (IsPathOf schema) after

-- R-trees of the same columns
abbrev pub SameColumns : List (ℕ × RTree) → List (ℕ × RTree) → Type 0
SameColumns before after = map (λ t. t.0) after ≡ map (λ t. t.0) before

-- a relation that got a row, with the numbers that lead to its file, its access paths and its R-trees then, and what is known of where its rows lie
abbrev pub grown_view : RelationView → TupleFile → List (ℕ × AccessPath) → List (ℕ × RTree) → List ℕ → RelationView
grown_view r file paths trees spans = record { name = r.name; schema = r.schema; next = r.next + 1; file = file; spans = spans; paths = paths; trees = trees }

-- A relation got a row that lies in the span, whatever is known then of where rows lie: what was, and that of the row, or less.
pub record Grew (m w : PageMap) (limits : Limits) (r : RelationView) (file : TupleFile) (paths : List (ℕ × AccessPath)) (trees : List (ℕ × RTree)) (span : Span) (row : List Value)
    : Type 0 where
  pub became : (spans : List ℕ) → Learnt r.spans r.next span spans → Became m w limits r (grown_view r file paths trees spans) (λ gap. with_row gap row)

-- the checks of a row of a relation, and of one of a relation that is to be found

-- the checks of a row of a relation
abbrev pub row_check : Limits → RelationView → List Value → Option Refusal
row_check limits r row =
    first_refusal (refused_where (not (is_row_of r.schema row)) why.WrongKind ∷ check_length row ∷ refused_where (nat_le limits.ids (r.next - 1)) why.IdsSpent ∷ [])

-- the checks of a row of a relation that is to be found
abbrev pub found_check : Limits → List Value → Option RelationView → Option Refusal
found_check limits row None = Some why.UnknownRelation
found_check limits row (Some r) = row_check limits r row

-- the check refuses, or there is no memory
abbrev pub IsRefusedOrSpent : Option Refusal → Refusal → Type 0
IsRefusedOrSpent check w = (w ≡ why.Memory) ⊎ (check ≡ Some w)
