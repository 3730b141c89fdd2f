use Rattle.std.proofs.Common.{take}
use Rattle.sand_journal.specs.MemTape.{contents_of}
use Rattle.sand_journal.specs.MemTapeEvents.{events_of}
use Rattle.sand_journal.specs.Replay.{IsReplay}
use Rattle.sand_journal.proofs.mem_tape.image_after.Given as goal

-- the replay is that of the calls so far
abbrev pub invariant-calls : goal.invariant-calls
invariant-calls l = IsReplay l.replay (contents_of l.first (events_of (take l.call-index l.made))) l.writes
