-- Cursors over plans, the state of a session, and the steps by which a cursor gives its rows.
use Rattle.std.specs.Prelude.{◌≡◌, ◌⊎◌, ℕ, zero, suc, ◌+◌, ◌≤◌, Bool, true, false, List, [], ◌∷◌, Option, Some, None}
use Rattle.sand_base.specs.declared.refusal.Refusal.{Refusal}
use Rattle.z_code.specs.declared.block.Block.{Block}
use Rattle.sand_model.specs.Answer.{answer}
use Rattle.sand_model.specs.Database.{Database, element}
use Rattle.sand_model.specs.Measure.{Measure}
use Rattle.sand_model.specs.Operators.{PlanRow}
use Rattle.statements.specs.Plan.{Plan}
use Rattle.sand_model.specs.Reach.{Counts, counts, no_counts}

-- a line that a statement prints
pub data OutputLine : Type 0 where
  Accepted : OutputLine
  Id : ℕ → OutputLine
  Loaded : ℕ → OutputLine
  Row : PlanRow → OutputLine
  End : OutputLine
  Stats : Counts → ℕ → OutputLine
  LeafOf : Block → List ℕ → OutputLine
  Refused : Refusal → OutputLine

-- A cursor: its name, its plan, the database when it was opened, how many rows it gave, whether it has printed `end`, and its counts.
pub record Cursor : Type 0 where
  pub name : List ℕ
  pub plan : Plan
  pub database : Database
  pub given : ℕ
  pub is_ended : Bool
  pub counts : Counts

-- the database and the open cursors, the oldest first
pub record State : Type 0 where
  pub database : Database
  pub cursors : List Cursor

-- a cursor that was just opened over a database
abbrev pub new_cursor : List ℕ → Plan → Database → Cursor
new_cursor name p database =
    record { name = name; plan = p; database = database; given = 0; is_ended = false; counts = no_counts }

-- the line and the cursor after one more step: the next row of the answer, or the end where there is none
abbrev pub step_of : Measure → Cursor → OutputLine × Cursor
step_of gap cursor = given_next (element (answer gap cursor.database cursor.plan) cursor.given) where
  given_next : Option PlanRow → OutputLine × Cursor
  given_next (Some row) = (
    Row row,
    record cursor {
      given = cursor.given + 1;
      counts = counts gap cursor.database cursor.plan (cursor.given + 1) false;
    },
  )
  given_next None = (
    End,
    record cursor {
      is_ended = true;
      counts = counts gap cursor.database cursor.plan cursor.given true;
    },
  )

-- each count lies between two others
pub record AreBetween (low high now : Counts) : Type 0 where
  pub blocks : (low.blocks ≤ now.blocks) × (now.blocks ≤ high.blocks)
  pub pairs : (low.pairs ≤ now.pairs) × (now.pairs ≤ high.pairs)
  pub geometries : (low.geometries ≤ now.geometries) × (now.geometries ≤ high.geometries)

-- a refused step leaves rows and mark; each count may rise, to at most its value after the step that would have been made
abbrev pub IsRefusedStep : Measure → Cursor → Refusal → Cursor → Type 0
IsRefusedStep gap old refusal new =
    (seen : Counts) × AreBetween old.counts (step_of gap old).1.counts seen × (new ≡ record old { counts = seen })

-- up to so many steps of a cursor with their lines, none after the end or after a refusal that `may` allows
abbrev pub Steps : Measure → (Refusal → Type 0) → ℕ → Cursor → List OutputLine → Cursor → Type 0
Steps gap may zero old lines new = (lines ≡ []) × (new ≡ old)
Steps gap may (suc count) old lines new =
    ((row : PlanRow) × (mid : Cursor) × (more : List OutputLine) × (step_of gap old ≡ (Row row, mid)) × (lines ≡ Row row ∷ more)
    × Steps gap may count mid more new)
    ⊎ (((step_of gap old ≡ (End, new)) × (lines ≡ End ∷ []))
    ⊎ ((refusal : Refusal) × may refusal × IsRefusedStep gap old refusal new × (lines ≡ Refused refusal ∷ [])))
