use Rattle.sand_journal.specs.Journal.{IsReady}
use Rattle.fault_tables.proofs.journal_crashes.copied.Given as goal

-- the target may be appended to
abbrev pub invariant-records : goal.invariant-records
invariant-records g l = IsReady g.T.Tape.seen l.target
