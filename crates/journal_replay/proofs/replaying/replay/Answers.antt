use Rattle.std.proofs.Common.{refl, ◌∙◌, arith}
use Rattle.sand_journal.specs.ChangeBody.{body_of, change_value}
use Rattle.journal_replay.specs.Replayed.{IsBadForCause, fault_of_journal}
use Rattle.journal_replay.proofs.Declined.{passed_on}
use Rattle.journal_replay.proofs.Leading.{carries_both}
use Rattle.journal_replay.proofs.ReplaySteps.{only_itself, replay_begins, replay_goes_on, stopped_by_change, stopped_by_record, further}
use Rattle.sand_journal.proofs.Moments.{read_on}
use Rattle.journal_replay.proofs.replaying.replay.Goals as goal

-- before the first record
pub changes-init : goal.changes-init
changes-init g c = record {
  reading = c.requires;
  so_far = replay_begins g.T.Tape.seen c.args.journal.now c.args.store.now;
  read = only_itself (g.T.Tape.seen c.args.journal.now.tape);
  tape = refl;
  disk = refl;
  near = λ h. h;
}

-- a record that is bad
pub returns-in_err-change-clause-bad : goal.returns-in_err-change-clause-bad
returns-in_err-change-clause-bad g c =
    passed_on c.from_residual.result (fault_of_journal c.in_err-change.field-0.0) (IsBadForCause g.T.Tape.seen c.args.journal.now c.next.new.self c.args.store.now) c.from_residual.ensures.1
    (stopped_by_record g.T.Tape.seen c.args.journal.now c.changes.journal c.next.new.self c.args.store.now c.changes.store c.changes.invariant.so_far c.in_err-change.field-0.0 c.changes.invariant.read c.in_err-change.ensures.why)

-- each record ends further on
pub changes-smaller : goal.changes-smaller
changes-smaller g c =
    let on = further g.T.Tape.seen c.changes.journal c.next.new.self (body_of (change_value c.in-Some.change)) c.changes.invariant.reading (rw c.in-Some.is at c.in_ok-change.ensures.next) in
    let near = (rw c.in-Some.is at c.in_ok-change.ensures.near) refl in
    omega (arith, on, near)

-- one change more is carried out
pub changes-preserved : goal.changes-preserved
changes-preserved g c = record {
  reading = c.in_ok-change.ensures.reading c.changes.invariant.reading;
  so_far = replay_goes_on g.T.Tape.seen c.args.journal.now c.changes.journal c.next.new.self c.args.store.now c.changes.store c.changes.invariant.so_far c.carry_change.new.store
      (change_value c.in-Some.change)
      (rw c.in-Some.is at c.in_ok-change.ensures.form) (rw c.in-Some.is at c.in_ok-change.ensures.next) c.in_ok-carry_change.ensures.led;
  read = read_on (g.T.Tape.seen c.args.journal.now.tape) (g.T.Tape.seen c.changes.journal.tape) (g.T.Tape.seen c.next.new.self.tape) c.changes.invariant.read c.next.ensures.read;
  tape = c.in_ok-change.ensures.cause ∙ c.changes.invariant.tape;
  disk = c.in_ok-carry_change.ensures.cause ∙ c.changes.invariant.disk;
  near = λ h. (rw c.in-Some.is at c.in_ok-change.ensures.near) refl;
}

-- a change that the store doesn't take
pub returns-in_err-carry_change-clause-bad : goal.returns-in_err-carry_change-clause-bad
returns-in_err-carry_change-clause-bad g c =
    passed_on c.from_residual-in_err-carry_change.result c.in_err-carry_change.field-0.0
    (IsBadForCause g.T.Tape.seen c.args.journal.now c.next.new.self c.args.store.now) c.from_residual-in_err-carry_change.ensures.1
    (stopped_by_change g.T.Tape.seen c.args.journal.now c.changes.journal c.next.new.self c.args.store.now c.changes.store c.changes.invariant.so_far
    (change_value c.in-Some.change) c.in_err-carry_change.field-0.0
    (rw c.in-Some.is at c.in_ok-change.ensures.form) (rw c.in-Some.is at c.in_ok-change.ensures.next) c.in_err-carry_change.ensures.declined)

-- the limits stay, and whether the disk tells
pub returns-in_err-carry_change-clause-carries : goal.returns-in_err-carry_change-clause-carries
returns-in_err-carry_change-clause-carries g c =
    carries_both c.args.store.now c.changes.store c.carry_change.new.store c.changes.invariant.so_far.led.carries c.carry_change.ensures.carries
