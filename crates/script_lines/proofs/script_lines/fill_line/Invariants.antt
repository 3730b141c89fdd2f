use Rattle.std.proofs.Common.{◌≡◌, ◌≤◌, ℕ, List, length}
use Rattle.script_lines.specs.Parts.{IsCutSoFar}
use Rattle.script_lines.proofs.script_lines.fill_line.Given as goal

-- no line feed was met: the bytes taken joined the line in hand
abbrev pub invariant-bytes : goal.invariant-bytes
invariant-bytes l =
    (length l.chunk.ahead ≤ length l.initial.chunk.ahead) × (l.chunk.count ≡ l.initial.chunk.count)
    × ((bytes : List ℕ) (given : List (List ℕ)) → IsCutSoFar l.initial.line l.initial.chunk.ahead bytes given → IsCutSoFar l.line l.chunk.ahead bytes given)

abbrev pub decreases-bytes : goal.decreases-bytes
decreases-bytes l = length l.chunk.ahead
