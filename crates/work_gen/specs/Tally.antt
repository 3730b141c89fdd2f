-- What is kept of a text of which only the refused lines are counted.
use Rattle.std.specs.Prelude.{◌≡◌, ℕ, ◌+◌, ◌==◌, min, cond, List, [], ◌∷◌, ◌++◌, take}
use Rattle.sand_base.specs.Faults.{last_count}
use Rattle.script_lines.specs.Lines.{cut}
use Rattle.work_gen.specs.RefusedLines.{begins_refused, refused_lines}

-- The number of lines, and the first seven bytes of the line that isn't ended yet.
pub record TallyState : Type 0 where
  pub refused : ℕ
  pub begun : List ℕ

-- after one byte more: a line feed ends the line, and any other byte joins it
abbrev pub after_byte : TallyState → ℕ → TallyState
after_byte tally byte = cond (byte == 10)
    (record { refused = min (tally.refused + cond (begins_refused tally.begun) 1 0) last_count; begun = [] })
    (record tally { begun = take 7 (tally.begun ++ byte ∷ []) })

-- the lines of the text were counted
pub record HasCounted (tally : TallyState) (text : List ℕ) : Type 0 where
  pub refused : tally.refused ≡ refused_lines text
  pub begun : tally.begun ≡ take 7 (cut text).1
