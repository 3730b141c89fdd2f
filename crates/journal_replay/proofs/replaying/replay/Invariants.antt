use Rattle.std.proofs.Common.{◌≡◌, ◌-◌, ◌^◌, ◌≤◌}
use Rattle.sand_journal.specs.Journal.{IsOnlyRead, IsReading}
use Rattle.journal_replay.proofs.ReplaySteps.{IsReplaying}
use Rattle.journal_replay.proofs.replaying.replay.Given as goal
use Rattle.page_pool.specs.Causes.{failures_of}

-- the records passed so far are carried out, and no call failed
abbrev pub invariant-changes : goal.invariant-changes
invariant-changes g l = record {
  reading : IsReading g.T.Tape.seen l.journal;
  so_far : IsReplaying g.T.Tape.seen l.initial.journal l.journal l.initial.store l.store;
  read : IsOnlyRead (g.T.Tape.seen l.initial.journal.tape) (g.T.Tape.seen l.journal.tape);
  tape : (g.T.Tape.seen l.journal.tape).faults ≡ (g.T.Tape.seen l.initial.journal.tape).faults;
  disk : failures_of l.store.pool ≡ failures_of l.initial.store.pool;
  near : l.initial.journal.end ≤ 2 ^ 62 → l.journal.end ≤ 2 ^ 62;
}

-- each record that is passed ends further on, and none ends above byte 2^62
abbrev pub decreases-changes : goal.decreases-changes
decreases-changes g l = 2 ^ 62 - l.journal.end
