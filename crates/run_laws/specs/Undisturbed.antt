-- What a script does where nothing outside fails but memory: each line has the outcome that its checks and its effect define, or is refused as out of memory.
use Rattle.std.specs.Prelude.{◌≡◌, ◌≢◌, ◌⊎◌, true, List, [], ◌∷◌, ◌++◌, Option, Some, None}
use Rattle.sand_base.specs.declared.refusal.Refusal.{Refusal}
use Rattle.sand_base.specs.declared.refusal.Refusal.TheVariants as why
use Rattle.sand_model.specs.Checks.{first_refusal}
use Rattle.sand_model.specs.Cursor.{State, Cursor, OutputLine, new_cursor, Steps}
use Rattle.sand_model.specs.Outcome.{Rises, OfRelation, OfCursor, IsCarriedOut, IsRefusedBy, PrintsFirst, leaf_lines, far_lines, replaced}
use Rattle.sand_model.specs.Run.{LineOutcome, Run}
use Rattle.statements.specs.Statement.{Statement, Next, Show, Far, Blocks}
use Rattle.sand_model.specs.ScriptLine.{ScriptLine, Says}
use Rattle.sand_model.specs.StatementChecks.{Setting, early, late}

-- the counts of faults of the disk and of the shelf stay
abbrev pub no_rises : Rises
no_rises = record { disk = 0; shelf = 0 }

-- memory was refused
abbrev pub IsOfMemory : Refusal → Type 0
IsOfMemory refusal = refusal ≡ why.Memory

-- the effect of a statement; rows and leaves end early where memory is refused
abbrev pub HasEffect : Setting → State → Statement → List OutputLine → State → Type 0
HasEffect setting old (Next name count) lines new =
    OfCursor old name (λ cursor. (after : Cursor) × Steps setting.gap IsOfMemory count cursor lines after
    × (new ≡ record old { cursors = replaced name after old.cursors }))
HasEffect setting old (Show count p) lines new =
    (after : Cursor) × Steps setting.gap IsOfMemory count (new_cursor [] p old.database) lines after × (new ≡ old)
HasEffect setting old (Far count column goal) lines new = PrintsFirst IsOfMemory (far_lines setting.gap old.database count column goal) lines × (new ≡ old)
HasEffect setting old (Blocks column) lines new =
    OfRelation old column.relation (λ relation. PrintsFirst IsOfMemory (leaf_lines relation column.column) lines × (new ≡ old))
HasEffect setting old statement lines new = IsCarriedOut setting no_rises old statement lines new

-- the first check that fails refuses the statement, though none because a file isn't there; where none fails it has its effect
abbrev pub HasDefinedOutcome : Setting → State → Statement → List OutputLine → State → Type 0
HasDefinedOutcome setting old statement lines new =
    by_checks (first_refusal (early setting old statement ∷ late setting old statement ∷ [])) where
      by_checks : Option Refusal → Type 0
      by_checks (Some refusal) = (refusal ≢ why.File) × IsRefusedBy refusal old lines new
      by_checks None = HasEffect setting old statement lines new

-- the outcome of a line: that of its statement, and of a line without one what the model says
abbrev pub LineIsDefined : Setting → State → ScriptLine → List OutputLine → State → Type 0
LineIsDefined setting old (Says statement) lines new = HasDefinedOutcome setting old statement lines new
LineIsDefined setting old line lines new = LineOutcome setting no_rises old line lines new

-- the lines of a script one after the other, each with its defined outcome or refused as out of memory
abbrev pub RunsUndisturbed : Setting → State → List ScriptLine → List OutputLine → State → Type 0
RunsUndisturbed setting old [] printed new = (printed ≡ []) × (new ≡ old)
RunsUndisturbed setting old (line ∷ script) printed new =
    (first : List OutputLine) × (more : List OutputLine) × (mid : State)
    × (LineIsDefined setting old line first mid ⊎ IsRefusedBy why.Memory old first mid)
    × RunsUndisturbed setting mid script more new × (printed ≡ first ++ more)

-- where the disk tells its pages and no fault is counted, each line of a run has its defined outcome or is refused as out of memory
abbrev pub RunsAreComplete : Type 0
RunsAreComplete =
    (setting : Setting) (old new : State) (script : List ScriptLine) (rises : Rises) (printed : List OutputLine)
    → setting.tells ≡ true → rises.disk ≡ 0 → rises.shelf ≡ 0 → Run setting old script rises printed new → RunsUndisturbed setting old script printed new
