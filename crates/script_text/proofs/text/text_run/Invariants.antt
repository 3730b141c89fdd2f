use Rattle.std.proofs.Common.{◌≡◌, ◌+◌, ◌-◌, ◌≤◌, length, drop}
use Rattle.script_text.specs.Text.{text_run}
use Rattle.script_text.proofs.text.text_run.Given as goal

-- the characters so far, and those of the bytes after them
abbrev pub invariant-units : goal.invariant-units
invariant-units l = (l.at ≤ length l.bytes) × (text_run l.bytes ≡ l.at + text_run (drop l.at l.bytes))

-- each character takes a byte at least
abbrev pub decreases-units : goal.decreases-units
decreases-units l = length l.bytes - l.at
