-- The numbers with which the program ends.
use Rattle.std.specs.Prelude.{ℕ}
use Rattle.session.specs.declared.status.Status.{Status}
use Rattle.session.specs.declared.status.Status.TheVariants as status

-- the number of a status
abbrev pub status_code : Status → ℕ
status_code status.Done = 0
status_code status.SomeRefused = 1
status_code status.Usage = 2
status_code status.ReadFault = 3
status_code status.WriteFault = 4
status_code status.ScriptTooLong = 5
status_code status.NoMemory = 6
status_code status.DiskNotStarted = 7
status_code status.JournalFault = 8
status_code status.JournalBad = 9
status_code status.ReplayFault = 10
status_code status.ReplayDamaged = 11
