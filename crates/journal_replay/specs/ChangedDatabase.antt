-- What the changes that a journal keeps make of a database, and which of them no check refuses.
use Rattle.std.specs.Prelude.{◌≡◌, ℕ, List, [], ◌∷◌, map, Option, Some, None, ⊤}
use Rattle.sand_base.specs.declared.kind.Kind.{Kind}
use Rattle.sand_base.specs.declared.refusal.Refusal.{Refusal}
use Rattle.sand_base.specs.declared.value.Value.{Value}
use Rattle.sand_journal.specs.ChangeBody.{ChangeValue, Line, Rows}
use Rattle.sand_model.specs.Database.{Database, Relation, relation_named, changed_at, with_relation, new_relation, without_row}
use Rattle.statements.specs.Statement as model
use Rattle.statements.specs.Statement.{Statement, Create, Delete, Index, Rtree}
use Rattle.sand_model.specs.StatementChecks.{Setting, early, late, entered, indexed_by, treed_by}
use Rattle.sand_store.specs.Calls.{alone}
use Rattle.sand_store.specs.Tuples.{row_in}
use Rattle.journal_replay.specs.EncodedRows.{AreEncodingsOf}

-- the rows of a schema that stand in these encodings
abbrev pub rows_of : List (List ℕ × Kind) → List (List ℕ) → List (List Value)
rows_of schema encodings = map (row_in schema) encodings

-- the relation with the rows of some encodings more, in their order, and the first refusal of one of them
abbrev pub with_encoded : Setting → List (List ℕ) → Relation → Option Refusal × Relation
with_encoded setting encodings relation = entered setting (rows_of relation.schema encodings) relation

-- the database after a change: the statement's, or that of a load of the rows
abbrev pub changed_by : Setting → ChangeValue → Database → Database
changed_by setting (Line (Create relation columns)) database = with_relation (new_relation relation columns) database
changed_by setting (Line (Delete relation id)) database = changed_at relation (without_row id) database
changed_by setting (Line (Index column threshold)) database =
    changed_at column.relation (indexed_by setting.gap (record { relation = column.relation; column = column.column }) threshold) database
changed_by setting (Line (Rtree column)) database =
    changed_at column.relation (treed_by (record { relation = column.relation; column = column.column })) database
changed_by setting (Line _) database = database
changed_by setting (Rows relation encodings) database = changed_at relation (λ r. (with_encoded setting encodings r).1) database

-- the world after changes, one after the other
abbrev pub world_after : Setting → List ChangeValue → Database → Database
world_after setting [] database = database
world_after setting (change ∷ changes) database = world_after setting changes (changed_by setting change database)

-- no check refuses the statement
pub record PassesChecks (setting : Setting) (database : Database) (statement : Statement) : Type 0 where
  pub before : early setting (alone database) statement ≡ None
  pub behind : late setting (alone database) statement ≡ None

-- The relation is there, each of these is the encoding of a row of its schema, and no check refuses one of the rows.
pub record TakesEncoded (setting : Setting) (database : Database) (name : List ℕ) (encodings : List (List ℕ)) : Type 0 where
  pub relation : Relation
  pub named : relation_named database name ≡ Some relation
  pub encoded : AreEncodingsOf relation.schema (rows_of relation.schema encodings) encodings
  pub passes : (with_encoded setting encodings relation).0 ≡ None

-- the database takes the change: no check refuses it, and its rows are encodings of rows
abbrev pub TakesChange : Setting → ChangeValue → Database → Type 0
TakesChange setting (Line (Create relation columns)) database = PassesChecks setting database (model.Create relation columns)
TakesChange setting (Line (Delete relation id)) database = PassesChecks setting database (model.Delete relation id)
TakesChange setting (Line (Index column threshold)) database =
    PassesChecks setting database (model.Index (record { relation = column.relation; column = column.column }) threshold)
TakesChange setting (Line (Rtree column)) database =
    PassesChecks setting database (model.Rtree (record { relation = column.relation; column = column.column }))
TakesChange setting (Line _) database = ⊥
TakesChange setting (Rows relation encodings) database = TakesEncoded setting database relation encodings

-- the database takes changes, one after the other
abbrev pub TakesAll : Setting → List ChangeValue → Database → Type 0
TakesAll setting [] database = ⊤
TakesAll setting (change ∷ changes) database = TakesChange setting change database × TakesAll setting changes (changed_by setting change database)
