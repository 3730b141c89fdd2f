use Rattle.std.proofs.Common.{IsTrue, sym, subst}
use Rattle.sand_journal.specs.Images.{HasBodies}
use Rattle.sand_journal.proofs.Moments.{synced}
use Rattle.sand_journal.proofs.Appends.{stage_torn, stage_done}
use Rattle.sand_journal.proofs.steps.stage.Goals as goal

-- the write may have torn what is behind the gate
pub returns-in_err-write_at-clause-any_moment : goal.returns-in_err-write_at-clause-any_moment
returns-in_err-write_at-clause-any_moment g c = λ bodies rest told.
    stage_torn (g.T.Tape.seen c.args.tape.now) (g.T.Tape.seen c.write_at.new.self) c.args.end bodies c.as_bytes.result.now c.write_at.result
    (λ image. g.met.T.Tape.now_is_all c.args.tape.now image told) rest told c.write_at.ensures

-- and a sync changes nothing of that
pub returns-in_err-sync-clause-any_moment : goal.returns-in_err-sync-clause-any_moment
returns-in_err-sync-clause-any_moment g c = λ bodies rest told.
    synced (g.T.Tape.seen c.args.tape.now) (g.T.Tape.seen c.write_at.new.self) (g.T.Tape.seen c.sync.new.self) (HasBodies bodies) c.sync.result
    (stage_torn (g.T.Tape.seen c.args.tape.now) (g.T.Tape.seen c.write_at.new.self) c.args.end bodies c.as_bytes.result.now c.write_at.result
    (λ image. g.met.T.Tape.now_is_all c.args.tape.now image told) rest told c.write_at.ensures)
    (subst IsTrue (sym c.write_at.ensures.passes.told) told) c.sync.ensures

pub returns-clause-any_moment : goal.returns-clause-any_moment
returns-clause-any_moment g c = λ bodies rest told.
    synced (g.T.Tape.seen c.args.tape.now) (g.T.Tape.seen c.write_at.new.self) (g.T.Tape.seen c.sync.new.self) (HasBodies bodies) c.sync.result
    (stage_torn (g.T.Tape.seen c.args.tape.now) (g.T.Tape.seen c.write_at.new.self) c.args.end bodies c.as_bytes.result.now c.write_at.result
    (λ image. g.met.T.Tape.now_is_all c.args.tape.now image told) rest told c.write_at.ensures)
    (subst IsTrue (sym c.write_at.ensures.passes.told) told) c.sync.ensures

-- both were accepted, so the record is durable behind its gate
pub returns-clause-staged : goal.returns-clause-staged
returns-clause-staged g c = λ bodies rest.
    stage_done c.in_ok-write_at.field-0 c.in_ok-sync.field-0 (g.T.Tape.seen c.args.tape.now) (g.T.Tape.seen c.write_at.new.self)
    (g.T.Tape.seen c.sync.new.self) c.args.end bodies c.args.entry.now c.as_bytes.result.now
    c.as_bytes.ensures.bytes rest c.as_bytes.ensures.short c.in_ok-write_at.ensures c.in_ok-sync.ensures
