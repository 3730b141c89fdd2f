-- A change of the store, and the body that it has in a journal.
use Rattle.std.specs.Prelude.{◌≡◌, ℕ, ◌^◌, ◌<◌, ◌≤◌, List, ◌∷◌, ◌++◌, length, Option, Some, None, ⊤}
use Rattle.std.specs.Int.{w16, w32, to_be_bytes}
use Rattle.std.specs.List.{AllByRecursion, flat_map}
use Rattle.script_text.specs.InRange.{IsInRange}
use Rattle.script_text.specs.Name.{IsName}
use Rattle.script_text.specs.Printing.{printed}
use Rattle.statements.specs.Statement.{Statement, Create, Insert, Delete, Load, Index, Rtree, OpenCursor, Next, CloseCursor, Show, Stats, Far, Blocks, statement_value}
use Rattle.statements.specs.declared.statement.Statement as spoken
use Rattle.sand_journal.specs.declared.TheConstants.{LONGEST_ENCODING}
use Rattle.sand_journal.specs.declared.change.Change as declared
use Rattle.sand_journal.specs.declared.change.Change.TheVariants as change

-- a change of the store: a statement, or rows of a relation by their encodings
pub data ChangeValue : Type 0 where
  Line : Statement → ChangeValue
  Rows : List ℕ → List (List ℕ) → ChangeValue

-- the statement is one that a journal keeps as a line
abbrev pub IsKept : Statement → Type 0
IsKept (Create relation columns) = ⊤
IsKept (Delete relation id) = ⊤
IsKept (Index column threshold) = ⊤
IsKept (Rtree column) = ⊤
IsKept (Insert relation values) = ⊥
IsKept (Load relation file header) = ⊥
IsKept (OpenCursor cursor plan) = ⊥
IsKept (Next cursor count) = ⊥
IsKept (CloseCursor cursor) = ⊥
IsKept (Show count plan) = ⊥
IsKept (Stats cursor) = ⊥
IsKept (Far count column goal) = ⊥
IsKept (Blocks column) = ⊥

-- a row's encoding has at most so many bytes
abbrev pub IsEncodingShort : List ℕ → Type 0
IsEncodingShort row = length row ≤ LONGEST_ENCODING

-- a row's encoding behind its length, in two bytes with the high one first
unfoldable pub framed_row : List ℕ → List ℕ
framed_row row = to_be_bytes w16 (length row) ++ row

-- rows: how many, in four bytes, and each in its frame
unfoldable pub counted_rows : List (List ℕ) → List ℕ
counted_rows rows = to_be_bytes w32 (length rows) ++ flat_map framed_row rows

-- the body of a change: the byte 1 and the printed form, or the byte 2, the relation's name behind its length, and the rows
unfoldable pub body_of : ChangeValue → List ℕ
body_of (Line statement) = 1 ∷ printed statement
body_of (Rows relation rows) = 2 ∷ length relation ∷ (relation ++ counted_rows rows)

-- A change that a record holds: a statement in range that is kept as a line, or rows whose body's length has four bytes.
abbrev pub IsChange : ChangeValue → Type 0
IsChange (Line statement) = IsKept statement × IsInRange statement
IsChange (Rows relation rows) = IsName relation × AllByRecursion IsEncodingShort rows × (length (body_of (Rows relation rows)) < 2 ^ 32)

-- a statement as a tree, kept closed in goals
unfoldable pub line_value : spoken.Statement → Statement
line_value statement = statement_value statement

-- a change of the code, with its statement as a tree
unfoldable pub change_value : declared.Change → ChangeValue
change_value (change.Line statement) = Line (line_value statement)
change_value (change.Rows relation rows) = Rows relation rows

-- What a body is read as: the change that has it, or None where it is that of no change.
unfoldable pub IsChangeOf : List ℕ → Option declared.Change → Type 0
IsChangeOf body None = (change : ChangeValue) → IsChange change → body ≡ body_of change → ⊥
IsChangeOf body (Some change) = IsChange (change_value change) × (body ≡ body_of (change_value change))
