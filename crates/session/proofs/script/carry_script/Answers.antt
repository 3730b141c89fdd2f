-- before the first line, after one more line, and the ways in which the lines end
use Rattle.std.proofs.Common.{◌+◌, ◌*◌, ◌^◌, ◌||◌, Bool, false, [], Result, refl, sym, ap, ◌∙◌, subst, arith}
use Rattle.line_exec.proofs.Appended.{appends_none}
use Rattle.line_exec.proofs.Kept.{takes_more}
use Rattle.line_exec.proofs.Moments.{are_standing}
use Rattle.line_exec.specs.Keeping.{IsUntold, TakesUpTo, last_end, most_kept, sink_result}
use Rattle.line_exec.specs.KeptChanges.{no_changes}
use Rattle.line_exec.specs.LineCarried.{CarriesKept, LineCarried}
use Rattle.line_exec.specs.declared.fault.LineFault.{LineFault}
use Rattle.line_meaning.proofs.Runs.{follows_itself, follows_on}
use Rattle.open_cursors.specs.OverPages.{StandOver}
use Rattle.sand_store.specs.Contents.{database}
use Rattle.statement_exec.specs.Moment.{moment_of, state_with, while_open}
use Rattle.session.specs.Ends.{source_after, tape_after}
use Rattle.session.specs.OpenRun.{spot_of}
use Rattle.session.specs.RunStates.{kept_by, run_state, untold_by}
use Rattle.session.proofs.Answered.{if_err, on_ok, Caused-after, Caused-hand, Caused-line, Caused-over, Tape-over}
use Rattle.session.proofs.KeptChanges.{kept_line, kept_none, shown_hand, shown_over}
use Rattle.session.proofs.OpenRuns.{Ends-hand, Ends-open, OpenRun-begin, OpenRun-line, room_left, rows_counted}
use Rattle.session.proofs.script.carry_script.Goals as goal

pub lines-init : goal.lines-init
lines-init g c = (
  OpenRun-begin c.args.lines.now (g.S.Source.left c.args.script.now) c.args.store (g.H.Shelf.files c.args.shelf.now)
      (g.H.Shelf.faults c.args.shelf.now) c.args.cursors.now.items (g.K.Sink.took c.args.out.now) (no_changes c.args.journal.now)
      c.requires.begun c.requires.none c.requires.held,
  record { of_source = refl; of_sink = refl },
  record { there = refl; takes = takes_more g.T.Tape.seen (2 ^ 62) (2 ^ 62 + 0 * most_kept) c.args.journal.now (omega arith) c.requires.journal; counted = refl },
  record {
    follows = follows_itself (moment_of c.args.store (g.H.Shelf.files c.args.shelf.now) (g.H.Shelf.faults c.args.shelf.now));
    keeps = kept_none g.T.Tape.seen (λ journal. appends_none g.T.Tape.seen g.met.T.Tape.now_is_all journal (λ P. P) (λ P h. h)) c.args.journal.now
        (moment_of c.args.store (g.H.Shelf.files c.args.shelf.now) (g.H.Shelf.faults c.args.shelf.now));
  },
)

-- the cursors of the run stand, and the journal has room
pub carry_hand-next-requires : goal.carry_hand-next-requires
carry_hand-next-requires g c = record {
  short = c.in-Ok.ensures.draws.0;
  journal = takes_more g.T.Tape.seen (2 ^ 62 + c.lines.invariant.0.count * most_kept) last_end c.lines.journal
      (room_left (run_state c.args.lines.now (g.S.Source.left c.args.script.now) (moment_of c.args.store (g.H.Shelf.files c.args.shelf.now) (g.H.Shelf.faults c.args.shelf.now)) false (no_changes c.args.journal.now))
      (g.K.Sink.took c.args.out.now) (spot_of c.lines.lines (g.S.Source.left c.lines.script) c.lines.now (g.H.Shelf.files c.lines.shelf)
      (g.H.Shelf.faults c.lines.shelf) c.lines.cursors.items c.lines.refused
      (g.K.Sink.took c.lines.out)) c.lines.invariant.0 c.draw.new.lines (g.S.Source.left c.draw.new.script) c.in-Ok.is_long c.in-Ok.ensures.draws)
      c.lines.invariant.2.takes;
  stands = are_standing c.lines.now.pool c.lines.cursors.items c.lines.invariant.0.cs c.lines.invariant.0.held c.lines.invariant.0.stand;
}

-- no more lines
pub returns-in-Err-clause-ends : goal.returns-in-Err-clause-ends
returns-in-Err-clause-ends g c = (
  state_with c.lines.invariant.0.cs (database c.lines.now),
  c.lines.invariant.0.kept,
  no_changes c.args.journal.now,
  Ends-open (run_state c.args.lines.now (g.S.Source.left c.args.script.now) (moment_of c.args.store (g.H.Shelf.files c.args.shelf.now) (g.H.Shelf.faults c.args.shelf.now)) false (no_changes c.args.journal.now))
      (g.K.Sink.took c.args.out.now) (spot_of c.lines.lines (g.S.Source.left c.lines.script) c.lines.now (g.H.Shelf.files c.lines.shelf)
      (g.H.Shelf.faults c.lines.shelf) c.lines.cursors.items c.lines.refused
      (g.K.Sink.took c.lines.out)) c.lines.invariant.0 (no_changes c.args.journal.now) c.in-Err.status c.ended.result c.draw.new.lines (g.S.Source.left c.draw.new.script) c.ended.ensures c.in-Err.ensures.draws,
  shown_over g.T.Tape.seen c.args.journal.now c.lines.journal c.lines.invariant.0.kept c.ended.result (moment_of c.args.store (g.H.Shelf.files c.args.shelf.now) (g.H.Shelf.faults c.args.shelf.now))
      (state_with [] (database c.lines.now)) (state_with c.lines.invariant.0.cs (database c.lines.now)) refl c.lines.invariant.3.keeps,
)

pub returns-in-Err-clause-cause : goal.returns-in-Err-clause-cause
returns-in-Err-clause-cause g c =
    Caused-over c.in-Err.status c.ended.result c.lines.refused _ _ _ _ c.in-Err.ensures.end c.ended.ensures
    (c.in-Err.ensures.cause ∙ ap (source_after c.in-Err.status) c.lines.invariant.1.of_source) c.lines.invariant.1.of_sink

pub returns-in-Err-clause-there : goal.returns-in-Err-clause-there
returns-in-Err-clause-there g c = c.lines.invariant.2.there

pub returns-in-Err-clause-tape : goal.returns-in-Err-clause-tape
returns-in-Err-clause-tape g c = Tape-over c.in-Err.status c.ended.result c.lines.refused _ _ c.in-Err.ensures.end c.ended.ensures c.lines.invariant.2.counted

pub lines-preserved-then-refused : goal.lines-preserved-then-refused
lines-preserved-then-refused g c = (
  OpenRun-line (run_state c.args.lines.now (g.S.Source.left c.args.script.now) (moment_of c.args.store (g.H.Shelf.files c.args.shelf.now) (g.H.Shelf.faults c.args.shelf.now)) false (no_changes c.args.journal.now))
      (g.K.Sink.took c.args.out.now) (spot_of c.lines.lines (g.S.Source.left c.lines.script) c.lines.now (g.H.Shelf.files c.lines.shelf)
      (g.H.Shelf.faults c.lines.shelf) c.lines.cursors.items c.lines.refused
      (g.K.Sink.took c.lines.out)) c.lines.invariant.0 c.draw.new.lines (g.S.Source.left c.draw.new.script) c.in-Ok.is_long c.in-Ok.ensures.draws
      c.carry_hand-next.result.0 (g.H.Shelf.files c.carry_hand-next.new.shelf) (g.H.Shelf.faults c.carry_hand-next.new.shelf) c.carry_hand-next.new.cursors.items
      (g.K.Sink.took c.carry_hand-next.new.out) c.carry_hand-next.ensures.follows
      c.carry_hand-next.ensures.carried.0 c.in-Ok-done.refusal c.lines.refused
      (subst (λ (r : Result Bool LineFault). LineCarried (CarriesKept c.draw.new.lines.line c.carry_hand-next.ensures.carried.0) (while_open c.lines.now (g.H.Shelf.files c.lines.shelf) (g.H.Shelf.faults c.lines.shelf))
      (while_open c.carry_hand-next.result.0 (g.H.Shelf.files c.carry_hand-next.new.shelf) (g.H.Shelf.faults c.carry_hand-next.new.shelf))
      c.lines.invariant.0.cs (g.K.Sink.took c.lines.out) (g.K.Sink.took c.carry_hand-next.new.out) (sink_result r)
      (StandOver c.carry_hand-next.result.0.pool c.carry_hand-next.new.cursors.items)) c.in-Ok-done.is (c.carry_hand-next.ensures.carried.1 c.lines.invariant.0.cs c.lines.invariant.0.own
      (rows_counted (run_state c.args.lines.now (g.S.Source.left c.args.script.now) (moment_of c.args.store (g.H.Shelf.files c.args.shelf.now) (g.H.Shelf.faults c.args.shelf.now)) false (no_changes c.args.journal.now))
      (g.K.Sink.took c.args.out.now) (spot_of c.lines.lines (g.S.Source.left c.lines.script) c.lines.now (g.H.Shelf.files c.lines.shelf)
      (g.H.Shelf.faults c.lines.shelf) c.lines.cursors.items c.lines.refused
      (g.K.Sink.took c.lines.out)) c.lines.invariant.0 c.draw.new.lines (g.S.Source.left c.draw.new.script) c.in-Ok.is_long c.in-Ok.ensures.draws) c.lines.invariant.0.stand))
      c.carry_hand-next.ensures.held (c.if-refused.true ∙ sym (ap (λ b. b || c.in-Ok-done.refusal) c.if-refused.true)),
  record {
    of_source = c.in-Ok.ensures.cause ∙ c.lines.invariant.1.of_source;
    of_sink = (Caused-line _ _ _ _ c.carry_hand-next.result.1 c.in-Ok-done.refusal c.in-Ok-done.is c.carry_hand-next.ensures.cause).0 ∙ c.lines.invariant.1.of_sink;
  },
  record {
    there = c.carry_hand-next.ensures.keeps.there ∙ c.lines.invariant.2.there;
    takes = takes_more g.T.Tape.seen (2 ^ 62 + c.lines.invariant.0.count * most_kept + most_kept) (2 ^ 62 + (c.lines.invariant.0.count + 1) * most_kept) c.carry_hand-next.new.journal (omega arith)
        (on_ok (TakesUpTo g.T.Tape.seen (2 ^ 62 + c.lines.invariant.0.count * most_kept + most_kept) c.carry_hand-next.new.journal) c.carry_hand-next.result.1 c.in-Ok-done.refusal c.in-Ok-done.is
        (c.carry_hand-next.ensures.keeps.takes (2 ^ 62 + c.lines.invariant.0.count * most_kept) c.lines.invariant.2.takes));
    counted = (Caused-line _ _ _ _ c.carry_hand-next.result.1 c.in-Ok-done.refusal c.in-Ok-done.is c.carry_hand-next.ensures.cause).1 ∙ c.lines.invariant.2.counted;
  },
  record {
    follows = follows_on (moment_of c.args.store (g.H.Shelf.files c.args.shelf.now) (g.H.Shelf.faults c.args.shelf.now))
        (moment_of c.lines.now (g.H.Shelf.files c.lines.shelf) (g.H.Shelf.faults c.lines.shelf))
        (moment_of c.carry_hand-next.result.0 (g.H.Shelf.files c.carry_hand-next.new.shelf) (g.H.Shelf.faults c.carry_hand-next.new.shelf))
        c.lines.invariant.3.follows c.carry_hand-next.ensures.follows;
    keeps = kept_line g.T.Tape.seen c.args.journal.now c.lines.journal c.carry_hand-next.new.journal c.lines.invariant.0.kept c.carry_hand-next.ensures.carried.0
        (moment_of c.args.store (g.H.Shelf.files c.args.shelf.now) (g.H.Shelf.faults c.args.shelf.now))
        (moment_of c.lines.now (g.H.Shelf.files c.lines.shelf) (g.H.Shelf.faults c.lines.shelf)) (state_with [] (database c.carry_hand-next.result.0))
        c.carry_hand-next.result.1 c.in-Ok-done.refusal c.in-Ok-done.is c.lines.invariant.3.keeps c.lines.invariant.3.follows c.carry_hand-next.ensures.carried.2;
  },
)

pub lines-preserved : goal.lines-preserved
lines-preserved g c = (
  OpenRun-line (run_state c.args.lines.now (g.S.Source.left c.args.script.now) (moment_of c.args.store (g.H.Shelf.files c.args.shelf.now) (g.H.Shelf.faults c.args.shelf.now)) false (no_changes c.args.journal.now))
      (g.K.Sink.took c.args.out.now) (spot_of c.lines.lines (g.S.Source.left c.lines.script) c.lines.now (g.H.Shelf.files c.lines.shelf)
      (g.H.Shelf.faults c.lines.shelf) c.lines.cursors.items c.lines.refused
      (g.K.Sink.took c.lines.out)) c.lines.invariant.0 c.draw.new.lines (g.S.Source.left c.draw.new.script) c.in-Ok.is_long c.in-Ok.ensures.draws
      c.carry_hand-next.result.0 (g.H.Shelf.files c.carry_hand-next.new.shelf) (g.H.Shelf.faults c.carry_hand-next.new.shelf) c.carry_hand-next.new.cursors.items
      (g.K.Sink.took c.carry_hand-next.new.out) c.carry_hand-next.ensures.follows
      c.carry_hand-next.ensures.carried.0 c.in-Ok-done.refusal c.in-Ok-done.refusal
      (subst (λ (r : Result Bool LineFault). LineCarried (CarriesKept c.draw.new.lines.line c.carry_hand-next.ensures.carried.0) (while_open c.lines.now (g.H.Shelf.files c.lines.shelf) (g.H.Shelf.faults c.lines.shelf))
      (while_open c.carry_hand-next.result.0 (g.H.Shelf.files c.carry_hand-next.new.shelf) (g.H.Shelf.faults c.carry_hand-next.new.shelf))
      c.lines.invariant.0.cs (g.K.Sink.took c.lines.out) (g.K.Sink.took c.carry_hand-next.new.out) (sink_result r)
      (StandOver c.carry_hand-next.result.0.pool c.carry_hand-next.new.cursors.items)) c.in-Ok-done.is (c.carry_hand-next.ensures.carried.1 c.lines.invariant.0.cs c.lines.invariant.0.own
      (rows_counted (run_state c.args.lines.now (g.S.Source.left c.args.script.now) (moment_of c.args.store (g.H.Shelf.files c.args.shelf.now) (g.H.Shelf.faults c.args.shelf.now)) false (no_changes c.args.journal.now))
      (g.K.Sink.took c.args.out.now) (spot_of c.lines.lines (g.S.Source.left c.lines.script) c.lines.now (g.H.Shelf.files c.lines.shelf)
      (g.H.Shelf.faults c.lines.shelf) c.lines.cursors.items c.lines.refused
      (g.K.Sink.took c.lines.out)) c.lines.invariant.0 c.draw.new.lines (g.S.Source.left c.draw.new.script) c.in-Ok.is_long c.in-Ok.ensures.draws) c.lines.invariant.0.stand))
      c.carry_hand-next.ensures.held (sym (ap (λ b. b || c.in-Ok-done.refusal) c.if-refused.false)),
  record {
    of_source = c.in-Ok.ensures.cause ∙ c.lines.invariant.1.of_source;
    of_sink = (Caused-line _ _ _ _ c.carry_hand-next.result.1 c.in-Ok-done.refusal c.in-Ok-done.is c.carry_hand-next.ensures.cause).0 ∙ c.lines.invariant.1.of_sink;
  },
  record {
    there = c.carry_hand-next.ensures.keeps.there ∙ c.lines.invariant.2.there;
    takes = takes_more g.T.Tape.seen (2 ^ 62 + c.lines.invariant.0.count * most_kept + most_kept) (2 ^ 62 + (c.lines.invariant.0.count + 1) * most_kept) c.carry_hand-next.new.journal (omega arith)
        (on_ok (TakesUpTo g.T.Tape.seen (2 ^ 62 + c.lines.invariant.0.count * most_kept + most_kept) c.carry_hand-next.new.journal) c.carry_hand-next.result.1 c.in-Ok-done.refusal c.in-Ok-done.is
        (c.carry_hand-next.ensures.keeps.takes (2 ^ 62 + c.lines.invariant.0.count * most_kept) c.lines.invariant.2.takes));
    counted = (Caused-line _ _ _ _ c.carry_hand-next.result.1 c.in-Ok-done.refusal c.in-Ok-done.is c.carry_hand-next.ensures.cause).1 ∙ c.lines.invariant.2.counted;
  },
  record {
    follows = follows_on (moment_of c.args.store (g.H.Shelf.files c.args.shelf.now) (g.H.Shelf.faults c.args.shelf.now))
        (moment_of c.lines.now (g.H.Shelf.files c.lines.shelf) (g.H.Shelf.faults c.lines.shelf))
        (moment_of c.carry_hand-next.result.0 (g.H.Shelf.files c.carry_hand-next.new.shelf) (g.H.Shelf.faults c.carry_hand-next.new.shelf))
        c.lines.invariant.3.follows c.carry_hand-next.ensures.follows;
    keeps = kept_line g.T.Tape.seen c.args.journal.now c.lines.journal c.carry_hand-next.new.journal c.lines.invariant.0.kept c.carry_hand-next.ensures.carried.0
        (moment_of c.args.store (g.H.Shelf.files c.args.shelf.now) (g.H.Shelf.faults c.args.shelf.now))
        (moment_of c.lines.now (g.H.Shelf.files c.lines.shelf) (g.H.Shelf.faults c.lines.shelf)) (state_with [] (database c.carry_hand-next.result.0))
        c.carry_hand-next.result.1 c.in-Ok-done.refusal c.in-Ok-done.is c.lines.invariant.3.keeps c.lines.invariant.3.follows c.carry_hand-next.ensures.carried.2;
  },
)

-- the line ended the run
pub returns-in-Err-done-clause-ends : goal.returns-in-Err-done-clause-ends
returns-in-Err-done-clause-ends g c =
    let ends =
    Ends-hand (run_state c.args.lines.now (g.S.Source.left c.args.script.now) (moment_of c.args.store (g.H.Shelf.files c.args.shelf.now) (g.H.Shelf.faults c.args.shelf.now)) false (no_changes c.args.journal.now))
    (g.K.Sink.took c.args.out.now) (spot_of c.lines.lines (g.S.Source.left c.lines.script) c.lines.now (g.H.Shelf.files c.lines.shelf)
    (g.H.Shelf.faults c.lines.shelf) c.lines.cursors.items c.lines.refused
    (g.K.Sink.took c.lines.out)) c.lines.invariant.0 c.draw.new.lines (g.S.Source.left c.draw.new.script) c.in-Ok.is_long c.in-Ok.ensures.draws
    c.carry_hand-next.result.0 (g.H.Shelf.files c.carry_hand-next.new.shelf) (g.H.Shelf.faults c.carry_hand-next.new.shelf) c.carry_hand-next.new.cursors.items
    (g.K.Sink.took c.carry_hand-next.new.out) c.carry_hand-next.ensures.follows
    c.carry_hand-next.ensures.carried.0 c.in-Err-done.why c.status_of.result c.status_of.ensures
    (subst (λ (r : Result Bool LineFault). LineCarried (CarriesKept c.draw.new.lines.line c.carry_hand-next.ensures.carried.0) (while_open c.lines.now (g.H.Shelf.files c.lines.shelf) (g.H.Shelf.faults c.lines.shelf))
    (while_open c.carry_hand-next.result.0 (g.H.Shelf.files c.carry_hand-next.new.shelf) (g.H.Shelf.faults c.carry_hand-next.new.shelf))
    c.lines.invariant.0.cs (g.K.Sink.took c.lines.out) (g.K.Sink.took c.carry_hand-next.new.out) (sink_result r)
    (StandOver c.carry_hand-next.result.0.pool c.carry_hand-next.new.cursors.items)) c.in-Err-done.is (c.carry_hand-next.ensures.carried.1 c.lines.invariant.0.cs c.lines.invariant.0.own
    (rows_counted (run_state c.args.lines.now (g.S.Source.left c.args.script.now) (moment_of c.args.store (g.H.Shelf.files c.args.shelf.now) (g.H.Shelf.faults c.args.shelf.now)) false (no_changes c.args.journal.now))
    (g.K.Sink.took c.args.out.now) (spot_of c.lines.lines (g.S.Source.left c.lines.script) c.lines.now (g.H.Shelf.files c.lines.shelf)
    (g.H.Shelf.faults c.lines.shelf) c.lines.cursors.items c.lines.refused
    (g.K.Sink.took c.lines.out)) c.lines.invariant.0 c.draw.new.lines (g.S.Source.left c.draw.new.script) c.in-Ok.is_long c.in-Ok.ensures.draws) c.lines.invariant.0.stand))
    (if_err (IsUntold (g.K.Sink.took c.lines.out) (g.K.Sink.took c.carry_hand-next.new.out) (moment_of c.lines.now (g.H.Shelf.files c.lines.shelf) (g.H.Shelf.faults c.lines.shelf))
    (moment_of c.carry_hand-next.result.0 (g.H.Shelf.files c.carry_hand-next.new.shelf)
    (g.H.Shelf.faults c.carry_hand-next.new.shelf))) c.carry_hand-next.result.1 c.in-Err-done.why c.in-Err-done.is c.carry_hand-next.ensures.untold) in (
      ends.0,
      kept_by c.in-Err-done.why c.lines.invariant.0.kept c.carry_hand-next.ensures.carried.0,
      untold_by c.in-Err-done.why c.carry_hand-next.ensures.carried.0,
      ends.2,
      shown_hand g.T.Tape.seen c.args.journal.now c.lines.journal c.carry_hand-next.new.journal c.lines.invariant.0.kept c.carry_hand-next.ensures.carried.0
          (moment_of c.args.store (g.H.Shelf.files c.args.shelf.now) (g.H.Shelf.faults c.args.shelf.now))
          (moment_of c.lines.now (g.H.Shelf.files c.lines.shelf) (g.H.Shelf.faults c.lines.shelf)) (state_with [] (database c.carry_hand-next.result.0)) ends.0
          c.carry_hand-next.result.1 c.in-Err-done.why c.status_of.result c.in-Err-done.is c.status_of.ensures c.lines.invariant.3.keeps c.lines.invariant.3.follows
          c.carry_hand-next.ensures.carried.2 ends.1,
    )

pub returns-in-Err-done-clause-cause : goal.returns-in-Err-done-clause-cause
returns-in-Err-done-clause-cause g c =
    let caused = Caused-hand (g.S.Source.faults c.lines.script)
    (g.S.Source.faults c.draw.new.script) _ _ _ _ c.carry_hand-next.result.1 c.in-Err-done.why c.status_of.result c.in-Err-done.is c.status_of.ensures c.carry_hand-next.ensures.cause c.in-Ok.ensures.cause in
    Caused-after c.status_of.result _ _ _ _ _ _ c.lines.invariant.1 caused.0

pub returns-in-Err-done-clause-there : goal.returns-in-Err-done-clause-there
returns-in-Err-done-clause-there g c = c.carry_hand-next.ensures.keeps.there ∙ c.lines.invariant.2.there

pub returns-in-Err-done-clause-tape : goal.returns-in-Err-done-clause-tape
returns-in-Err-done-clause-tape g c =
    (Caused-hand (g.S.Source.faults c.lines.script)
    (g.S.Source.faults c.draw.new.script) _ _ _ _ c.carry_hand-next.result.1 c.in-Err-done.why c.status_of.result c.in-Err-done.is c.status_of.ensures c.carry_hand-next.ensures.cause c.in-Ok.ensures.cause).1
    ∙ ap (tape_after c.status_of.result) c.lines.invariant.2.counted
