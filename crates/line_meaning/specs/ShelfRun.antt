-- A run over a shelf of data files, which may tell what they hold or not. Where it doesn't, each load finds some files.
use Rattle.std.specs.Prelude.{◌≡◌, Bool, true, false, List, [], ◌∷◌, Option}
use Rattle.sand_base.specs.Shelf.{Files}
use Rattle.sand_model.specs.Cursor.{State, OutputLine}
use Rattle.sand_model.specs.Outcome.{Rises}
use Rattle.sand_model.specs.Run.{BeginsRun}
use Rattle.sand_model.specs.ScriptLine.{ScriptLine, Says}
use Rattle.statements.specs.Statement.{Load}
use Rattle.sand_model.specs.StatementChecks.{Setting}
use Rattle.statement_exec.specs.Moment.{AreTold}

-- the line loads a data file
abbrev pub is_load : ScriptLine → Bool
is_load (Says (Load relation file header)) = true
is_load _ = false

-- a line is carried out in a setting of its own: that of the run, but that a load finds the data files which the shelf tells, and some where it tells none
abbrev pub FindsFiles : Option Files → Setting → ScriptLine → Setting → Type 0
FindsFiles files setting (Says (Load relation file header)) own = (found : Files) × AreTold files found × (own ≡ record setting { files = found })
FindsFiles files setting _ own = own ≡ setting

-- The lines of a script were carried out in order, as a run of the model does, each in the setting that it finds. Where the shelf tells its files, or no line loads one, it is a run of the model.
abbrev pub ShelfRun : Option Files → Setting → State → List ScriptLine → Rises → List OutputLine → State → Type 0
ShelfRun files setting old [] rises printed new = (printed ≡ []) × (new ≡ old)
ShelfRun files setting old (line ∷ lines) rises printed new =
    (own : Setting) × FindsFiles files setting line own × BeginsRun (λ others more mid. ShelfRun files setting mid lines others more new) own old line rises printed
