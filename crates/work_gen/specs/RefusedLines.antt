-- The lines of a text that tell a refusal.
use Rattle.std.specs.Prelude.{ℕ, ◌==◌, min, Bool, List, codes}
use Rattle.std.specs.List.{count_by, starts_with}
use Rattle.sand_base.specs.Faults.{last_count}
use Rattle.script_lines.specs.Lines.{ended_lines}

-- the line begins with the word of a refusal
abbrev pub begins_refused : List ℕ → Bool
begins_refused line = starts_with ◌==◌ line (codes "refused")

-- how many of the lines that a line feed ends begin so; the count stays at the greatest number of 64 bits
abbrev pub refused_lines : List ℕ → ℕ
refused_lines text = min (count_by begins_refused (ended_lines text)) last_count
