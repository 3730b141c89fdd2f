-- The script of a workload: its lines, each with a line feed.
use Rattle.std.specs.Prelude.{◌≡◌, ℕ, ◌≤◌, List, [], ◌∷◌, ◌++◌, length}
use Rattle.script_lines.specs.Lines.{lines}
use Rattle.script_lines.specs.declared.TheConstants.{LONGEST_SCRIPT}
use Rattle.work_gen.specs.declared.work_source.WorkSource.{WorkSource}

-- the lines one after the other, each with a line feed behind it
abbrev pub script_of : List (List ℕ) → List ℕ
script_of [] = []
script_of (line ∷ lines) = line ++ 10 ∷ script_of lines

-- what was not read yet of the line in hand, and the lines after it
abbrev pub bytes_left : WorkSource → List ℕ
bytes_left source = source.line ++ script_of source.workload

-- A reader of scripts finds these lines in the script, and takes it whole.
pub record IsScriptOf (own : List (List ℕ)) (script : List ℕ) : Type 0 where
  pub found : lines script ≡ own
  pub short : length script ≤ LONGEST_SCRIPT
