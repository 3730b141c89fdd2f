-- What the early checks read of a state, and what becomes of it over any disk by the lines that are printed.
use Rattle.std.specs.Prelude.{ℕ, not, List, [], ◌∷◌, ◌++◌, map, filter}
use Rattle.sand_model.specs.Cursor.{State, OutputLine, Accepted, Id, Loaded, new_cursor}
use Rattle.sand_model.specs.Database.{Relation, Attribute, same_name}
use Rattle.statements.specs.Plan.{Scan}
use Rattle.statements.specs.Statement.{Statement, Create, Insert, Load, Index, Rtree, OpenCursor, CloseCursor}
use Rattle.sand_store.specs.Sketches.{Sketch, new_sketch, with_ids, with_indexed, with_treed, sketched_at}

-- an outline of a state: sketches of its relations, the oldest first, and the names of its open cursors
pub record Outline : Type 0 where
  pub relations : List Sketch
  pub cursors : List (List ℕ)

-- the sketch of a relation: what is known of it without its rows and trees
abbrev pub sketch_in : Relation → Sketch
sketch_in r = record { name = r.name; schema = r.schema; next = r.next; indexed = map (λ index. index.0) r.indexes; treed = map (λ tree. tree.0) r.rectangles }

-- what is known of a state without a page
abbrev pub outline_of : State → Outline
outline_of state = record { relations = map sketch_in state.database; cursors = map (λ cursor. cursor.name) state.cursors }

-- a relation of a sketch that has no rows, and whose indexes and R-trees hold nothing
abbrev pub bare_relation : Sketch → Relation
bare_relation s = record {
  name = s.name;
  schema = s.schema;
  rows = [];
  next = s.next;
  indexes = map (λ at. (at, Attribute)) s.indexed;
  rectangles = map (λ at. (at, [])) s.treed;
}

-- a state of an outline: its relations are bare, and its cursors are over nothing
abbrev pub bare : Outline → State
bare outline = record {
  database = map bare_relation outline.relations;
  cursors = map (λ name. new_cursor name (Scan []) []) outline.cursors;
}

-- the outline behind a statement that printed these lines: changed where the one line accepts a change, and else as it was
abbrev pub outline_after : Outline → Statement → List OutputLine → Outline
outline_after old (Create name columns) (Accepted ∷ []) = record old { relations = old.relations ++ new_sketch name columns ∷ [] }
outline_after old (Insert name row) (Id id ∷ []) = record old { relations = sketched_at name (with_ids 1) old.relations }
outline_after old (Load name file header) (Loaded count ∷ []) = record old { relations = sketched_at name (with_ids count) old.relations }
outline_after old (Index column threshold) (Accepted ∷ []) = record old { relations = sketched_at column.relation (with_indexed column.column) old.relations }
outline_after old (Rtree column) (Accepted ∷ []) = record old { relations = sketched_at column.relation (with_treed column.column) old.relations }
outline_after old (OpenCursor name p) (Accepted ∷ []) = record old { cursors = old.cursors ++ name ∷ [] }
outline_after old (CloseCursor name) (Accepted ∷ []) = record old { cursors = filter (λ other. not (same_name other name)) old.cursors }
outline_after old statement lines = old
