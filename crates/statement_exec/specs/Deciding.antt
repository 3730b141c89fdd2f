-- What a statement prints over any disk, as far as its checks decide that need no page.
use Rattle.std.specs.Prelude.{◌≡◌, ◌⊎◌, ⊤, ℕ, ◌<◌, true, All, List, [], ◌∷◌, ◌++◌, length, Option, Some, None}
use Rattle.sand_base.specs.Shelf.{Files}
use Rattle.sand_base.specs.declared.refusal.Refusal.{Refusal}
use Rattle.sand_base.specs.declared.refusal.Refusal.TheVariants as why
use Rattle.sand_model.specs.Cursor.{State, OutputLine, Accepted, Id, Loaded, End, Stats as StatsOf, Refused}
use Rattle.sand_model.specs.Outcome.{OfRelation, ReachesFile, uses_pages}
use Rattle.sand_model.specs.PlainLines.{AreLinesOfRows, IsLeafLine}
use Rattle.sand_model.specs.Reach.{Counts}
use Rattle.statements.specs.Statement.{Statement, Create, Insert, Delete, Load, Index as IndexOn, Rtree, OpenCursor, CloseCursor, Stats, Next, Show, Far, Blocks}
use Rattle.sand_model.specs.StatementChecks.{Setting, early, file_rows}
use Rattle.sand_store.specs.Calls.{plain_checks}
use Rattle.statement_exec.specs.Moment.{AreTold}
use Rattle.statement_exec.specs.Outline.{Outline, bare, outline_after}

-- a refusal from outside in the place of an early check that fails: of memory, or of the shelf where the file of a load is reached
abbrev pub ComesBefore : State → Statement → Refusal → Type 0
ComesBefore state statement why.Memory = ⊤
ComesBefore state statement why.File = ReachesFile state statement
ComesBefore state statement _ = ⊥

-- a refusal where no early check fails: of memory; of a page where the statement may touch pages; of the shelf by a load; of a check that comes with the change
abbrev pub ComesBehind : Statement → Refusal → Type 0
ComesBehind statement why.Memory = ⊤
ComesBehind statement why.Device = uses_pages statement ≡ true
ComesBehind statement (why.Damaged page kept read) = uses_pages statement ≡ true
ComesBehind (Load name file header) why.File = ⊤
ComesBehind (Insert name row) why.IndexFull = ⊤
ComesBehind (Load name file header) why.IndexFull = ⊤
ComesBehind (IndexOn column threshold) why.IndexFull = ⊤
ComesBehind (Delete name id) why.NoSuchId = ⊤
ComesBehind _ _ = ⊥

-- one line is printed, of a refusal that may come
abbrev pub RefusesBy : (Refusal → Type 0) → List OutputLine → Type 0
RefusesBy may lines = (refusal : Refusal) × may refusal × (lines ≡ Refused refusal ∷ [])

-- lines of leaves are printed, and behind them a refusal that may come, or none
abbrev pub PrintsFirstUpTo : (Refusal → Type 0) → List OutputLine → Type 0
PrintsFirstUpTo may lines =
    All IsLeafLine lines ⊎ ((leaves : List OutputLine) × (refusal : Refusal) × All IsLeafLine leaves × may refusal × (lines ≡ leaves ++ Refused refusal ∷ []))

-- what stands behind fewer rows than were asked: the end, or a refusal that may come
abbrev pub EndsRows : (Refusal → Type 0) → OutputLine → Type 0
EndsRows may End = ⊤
EndsRows may (Refused refusal) = may refusal
EndsRows may _ = ⊥

-- Fewer rows than were asked are printed, and behind them the end or a refusal that may come.
pub record PrintsFewer (may : Refusal → Type 0) (count : ℕ) (lines : List OutputLine) : Type 0 where
  pub rows : ℕ
  pub front : List OutputLine
  pub last : OutputLine
  pub of_rows : AreLinesOfRows rows front
  pub fewer : rows < count
  pub ends : EndsRows may last
  pub split : lines ≡ front ++ last ∷ []

-- as many rows are printed as were asked, and no other line; or fewer, and the end or a refusal that may come
abbrev pub PrintsRowsUpTo : (Refusal → Type 0) → ℕ → List OutputLine → Type 0
PrintsRowsUpTo may count lines = AreLinesOfRows count lines ⊎ PrintsFewer may count lines

-- the line of a load, by the first of its rows' checks that fails and by how many rows there are
abbrev pub line_of_rows : Option Refusal → ℕ → OutputLine
line_of_rows None count = Loaded count
line_of_rows (Some refusal) count = Refused refusal

-- what a statement prints that no early check refuses, as far as the outline of a state tells
abbrev pub PrintsPassed : Setting → State → Statement → List OutputLine → Type 0
PrintsPassed setting state (Create name columns) lines = lines ≡ Accepted ∷ []
PrintsPassed setting state (Insert name row) lines = OfRelation state name (λ relation. lines ≡ Id relation.next ∷ [])
PrintsPassed setting state (Delete name id) lines = lines ≡ Accepted ∷ []
PrintsPassed setting state (Load name file header) lines =
    OfRelation state name (λ relation. let rows = file_rows setting file header relation in
    lines ≡ line_of_rows (plain_checks setting.limits rows relation) (length rows) ∷ [])
PrintsPassed setting state (IndexOn column threshold) lines = lines ≡ Accepted ∷ []
PrintsPassed setting state (Rtree column) lines = lines ≡ Accepted ∷ []
PrintsPassed setting state (OpenCursor name p) lines = lines ≡ Accepted ∷ []
PrintsPassed setting state (CloseCursor name) lines = lines ≡ Accepted ∷ []
PrintsPassed setting state (Stats name) lines = (seen : Counts) × (given : ℕ) × (lines ≡ StatsOf seen given ∷ [])
PrintsPassed setting state (Next name count) lines = PrintsRowsUpTo (ComesBehind (Next name count)) count lines
PrintsPassed setting state (Show count p) lines = PrintsRowsUpTo (ComesBehind (Show count p)) count lines
PrintsPassed setting state (Far count column goal) lines = PrintsRowsUpTo (ComesBehind (Far count column goal)) count lines
PrintsPassed setting state (Blocks column) lines = PrintsFirstUpTo (ComesBehind (Blocks column)) lines

-- the first early check that fails refuses, or the outside in its place; where none fails, one refuses that comes behind them, or the statement prints what it has to
abbrev pub DecidesEarly : Setting → State → Statement → List OutputLine → Type 0
DecidesEarly setting state statement lines = by_check (early setting state statement) where
  by_check : Option Refusal → Type 0
  by_check (Some refusal) = (lines ≡ Refused refusal ∷ []) ⊎ RefusesBy (ComesBefore state statement) lines
  by_check None = RefusesBy (ComesBehind statement) lines ⊎ PrintsPassed setting state statement lines

-- in the setting that a statement finds: a load finds the data files which the shelf tells, and some where it tells none
abbrev pub InFound : Option Files → Setting → Statement → (Setting → Type 0) → Type 0
InFound files setting (Load name file header) P = (found : Files) × AreTold files found × P (record setting { files = found })
InFound files setting statement P = P setting

-- A statement printed these lines over any disk, as its checks decide in a state of this outline, and led to that outline. Early checks
-- read no more of a state than its outline, so any state of it does.
abbrev pub Decides : Option Files → Setting → Outline → Statement → List OutputLine → Outline → Type 0
Decides files setting old statement lines new =
    InFound files setting statement (λ own. DecidesEarly own (bare old) statement lines) × (new ≡ outline_after old statement lines)
