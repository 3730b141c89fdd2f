-- The body that a journal keeps of a statement, as it is made before the store is asked.
use Rattle.std.specs.Prelude.{◌≡◌, ℕ, ◌≤◌, List, [], ◌∷◌, find, Option, Some, None}
use Rattle.std.specs.List.{AllByRecursion}
use Rattle.sand_base.specs.InRange.{IsRowOf}
use Rattle.sand_base.specs.declared.kind.Kind.{Kind}
use Rattle.sand_base.specs.declared.value.Value.{Value}
use Rattle.sand_journal.specs.ChangeBody.{Line, Rows, IsChange, IsEncodingShort, IsKept, body_of}
use Rattle.sand_model.specs.Kept.{longest_row}
use Rattle.sand_model.specs.RowSize.{row_size}
use Rattle.sand_store.specs.Catalog.{CatalogView, RelationView, is_named}
use Rattle.statements.specs.Statement.{Statement, Create, Insert, Delete, Index, Rtree}
use Rattle.tuple_codec.specs.Decoding.{IsEncodingOf}
use Rattle.journal_replay.specs.EncodedRows.{AreEncodingsOf, HasRowsFor}

-- the row has a value of its kind for each column, and its encoding isn't too long
pub record FitsSchema (schema : List (List ℕ × Kind)) (row : List Value) : Type 0 where
  pub of_schema : IsRowOf schema row
  pub short : row_size row ≤ longest_row

-- these are the encodings of the rows, and none is too long for a journal
pub record AreShortEncodingsOf (schema : List (List ℕ × Kind)) (rows : List (List Value)) (encodings : List (List ℕ)) : Type 0 where
  pub encoded : AreEncodingsOf schema rows encodings
  pub short : AllByRecursion IsEncodingShort encodings

-- What a row is encoded as: its encoding, or None where it doesn't fit the schema.
abbrev pub IsEncodedAs : List (List ℕ × Kind) → List Value → Option (List ℕ) → Type 0
IsEncodedAs schema row None = FitsSchema schema row → ⊥
IsEncodedAs schema row (Some bytes) = IsEncodingOf schema row bytes × IsEncodingShort bytes

-- What rows are encoded as: their encodings, or None where one doesn't fit the schema.
abbrev pub AreEncodedAs : List (List ℕ × Kind) → List (List Value) → Option (List (List ℕ)) → Type 0
AreEncodedAs schema rows None = AllByRecursion (FitsSchema schema) rows → ⊥
AreEncodedAs schema rows (Some encodings) = AreShortEncodingsOf schema rows encodings

-- The body is that of the rows of a relation, each encoded by the schema that the relation has.
pub record IsBodyOfRows (catalog : CatalogView) (name : List ℕ) (rows : List (List Value)) (bytes : List ℕ) : Type 0 where
  pub encodings : List (List ℕ)
  pub encoded : HasRowsFor catalog name encodings rows
  pub is : IsChange (Rows name encodings)
  pub body : bytes ≡ body_of (Rows name encodings)

-- where the relation is there, one of the rows doesn't fit its schema
abbrev pub HasNoBodyOfRows : CatalogView → List ℕ → List (List Value) → Type 0
HasNoBodyOfRows catalog name rows = (relation : RelationView) → find (is_named name) catalog.relations ≡ Some relation → AllByRecursion (FitsSchema relation.schema) rows → ⊥

-- What is kept of rows that are to enter a relation: a body, or None where the relation doesn't take them.
abbrev pub IsKeptOfRows : CatalogView → List ℕ → List (List Value) → Option (List ℕ) → Type 0
IsKeptOfRows catalog name rows None = HasNoBodyOfRows catalog name rows
IsKeptOfRows catalog name rows (Some body) = IsBodyOfRows catalog name rows body

-- What is kept of a statement: the body of its change, where it has one; None where it changes no relation, is a load, or is refused.
abbrev pub IsKeptOf : CatalogView → Statement → Option (List ℕ) → Type 0
IsKeptOf catalog (Create relation columns) kept = kept ≡ Some (body_of (Line (Create relation columns)))
IsKeptOf catalog (Insert relation values) kept = IsKeptOfRows catalog relation (values ∷ []) kept
IsKeptOf catalog (Delete relation id) kept = kept ≡ Some (body_of (Line (Delete relation id)))
IsKeptOf catalog (Index column threshold) kept = kept ≡ Some (body_of (Line (Index column threshold)))
IsKeptOf catalog (Rtree column) kept = kept ≡ Some (body_of (Line (Rtree column)))
IsKeptOf catalog _ kept = kept ≡ None

-- The line that a statement is kept as: the statement itself, or None where it is kept as no line.
abbrev pub IsLineOf : Statement → Option Statement → Type 0
IsLineOf statement None = IsKept statement → ⊥
IsLineOf statement (Some line) = (line ≡ statement) × IsKept statement
