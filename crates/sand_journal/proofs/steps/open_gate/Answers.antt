use Rattle.std.proofs.Common.{IsTrue, [], ◌∷◌, ◌++◌, sym, subst}
use Rattle.sand_journal.specs.Images.{LiesBetween}
use Rattle.sand_journal.proofs.Moments.{synced}
use Rattle.sand_journal.proofs.Appends.{gate_torn, gate_done}
use Rattle.sand_journal.proofs.steps.open_gate.Goals as goal

-- the gate may be torn, open or not
pub returns-in_err-write_at-clause-any_moment : goal.returns-in_err-write_at-clause-any_moment
returns-in_err-write_at-clause-any_moment g c = λ bodies body staged told.
    gate_torn (g.T.Tape.seen c.args.tape.now) (g.T.Tape.seen c.write_at.new.self) c.args.end bodies body c.write_at.result
    (λ image. g.met.T.Tape.now_is_all c.args.tape.now image told) staged told c.write_at.ensures

-- and a sync changes nothing of that
pub returns-in_err-sync-clause-any_moment : goal.returns-in_err-sync-clause-any_moment
returns-in_err-sync-clause-any_moment g c = λ bodies body staged told.
    synced (g.T.Tape.seen c.args.tape.now) (g.T.Tape.seen c.write_at.new.self) (g.T.Tape.seen c.sync.new.self) (LiesBetween bodies (bodies ++ body ∷ [])) c.sync.result
    (gate_torn (g.T.Tape.seen c.args.tape.now) (g.T.Tape.seen c.write_at.new.self) c.args.end bodies body c.write_at.result
    (λ image. g.met.T.Tape.now_is_all c.args.tape.now image told) staged told c.write_at.ensures)
    (subst IsTrue (sym c.write_at.ensures.passes.told) told) c.sync.ensures

pub returns-clause-any_moment : goal.returns-clause-any_moment
returns-clause-any_moment g c = λ bodies body staged told.
    synced (g.T.Tape.seen c.args.tape.now) (g.T.Tape.seen c.write_at.new.self) (g.T.Tape.seen c.sync.new.self) (LiesBetween bodies (bodies ++ body ∷ [])) c.sync.result
    (gate_torn (g.T.Tape.seen c.args.tape.now) (g.T.Tape.seen c.write_at.new.self) c.args.end bodies body c.write_at.result
    (λ image. g.met.T.Tape.now_is_all c.args.tape.now image told) staged told c.write_at.ensures)
    (subst IsTrue (sym c.write_at.ensures.passes.told) told) c.sync.ensures

-- both were accepted, so the gate is open
pub returns-clause-opened : goal.returns-clause-opened
returns-clause-opened g c = λ bodies body staged.
    gate_done c.in_ok-write_at.field-0 c.in_ok-sync.field-0 (g.T.Tape.seen c.args.tape.now) (g.T.Tape.seen c.write_at.new.self) (g.T.Tape.seen c.sync.new.self) c.args.end bodies body
    staged c.in_ok-write_at.ensures c.in_ok-sync.ensures
