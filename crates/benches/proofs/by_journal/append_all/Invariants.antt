use Rattle.sand_journal.specs.Journal.{IsReady}
use Rattle.benches.proofs.by_journal.append_all.Given as goal

-- the journal may be appended to
abbrev pub invariant-records : goal.invariant-records
invariant-records g l = IsReady g.T.Tape.seen l.journal
