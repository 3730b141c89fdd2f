use Rattle.std.proofs.Common.{◌≡◌, ◌≤◌, ◌+◌, ◌-◌}
use Rattle.script_lines.specs.Parts.{ReadsOn, bytes_to_come}
use Rattle.script_lines.specs.declared.TheConstants.{LONGEST_SCRIPT}
use Rattle.script_lines.proofs.script_lines.seek.Given as goal

-- the reader read on, and no read failed
abbrev pub invariant-pieces : goal.invariant-pieces
invariant-pieces g l =
    ReadsOn l.initial.chunk l.chunk l.initial.line l.line (g.S.Source.left l.initial.script) (g.S.Source.left l.script)
    × (g.S.Source.faults l.script ≡ g.S.Source.faults l.initial.script)
    × (bytes_to_come l.chunk ≤ bytes_to_come l.initial.chunk)

abbrev pub decreases-pieces : goal.decreases-pieces
decreases-pieces g l = LONGEST_SCRIPT + 1 - l.chunk.count
