use Rattle.std.proofs.Common.{◌≡◌, ℕ, ◌+◌, IsTrue, [], ◌∷◌, ◌++◌, length, sym, subst, arith}
use Rattle.std.proofs.lemmas.List.{length_push}
use Rattle.sand_journal.specs.Images.{HasBodies, LiesBetween}
use Rattle.sand_journal.specs.Journal.{IsAtRest}
use Rattle.sand_journal.proofs.Crash.{lies_first}
use Rattle.sand_journal.proofs.Moments.{joined, weaker}
use Rattle.sand_journal.proofs.journal.Journal.append.Goals as goal

-- until the gate is opened a crash leaves the bodies from before
pub returns-in_err-stage-clause-any_moment : goal.returns-in_err-stage-clause-any_moment
returns-in_err-stage-clause-any_moment g c = λ bodies at_end told.
    weaker (g.T.Tape.seen c.args.self.now.tape) (g.T.Tape.seen c.stage.new.tape) (HasBodies bodies) (LiesBetween bodies (bodies ++ c.args.entry.now ∷ []))
    (λ image has. lies_first bodies c.args.self.now.end at_end.rest.stands.place c.args.entry.now image has) (c.stage.ensures.any_moment bodies at_end.rest told)

-- and while it is opened those, with this one or without
pub returns-in_err-open_gate-clause-any_moment : goal.returns-in_err-open_gate-clause-any_moment
returns-in_err-open_gate-clause-any_moment g c = λ bodies at_end told.
    joined (g.T.Tape.seen c.args.self.now.tape) (g.T.Tape.seen c.stage.new.tape) (g.T.Tape.seen c.open_gate.new.tape) (LiesBetween bodies (bodies ++ c.args.entry.now ∷ []))
    (weaker (g.T.Tape.seen c.args.self.now.tape) (g.T.Tape.seen c.stage.new.tape) (HasBodies bodies) (LiesBetween bodies (bodies ++ c.args.entry.now ∷ []))
    (λ image has. lies_first bodies c.args.self.now.end at_end.rest.stands.place c.args.entry.now image has) (c.stage.ensures.any_moment bodies at_end.rest told))
    (c.open_gate.ensures.any_moment bodies c.args.entry.now (c.in_ok-stage.ensures.staged bodies at_end.rest) (subst IsTrue (sym c.stage.ensures.told) told))

pub returns-clause-any_moment : goal.returns-clause-any_moment
returns-clause-any_moment g c = λ bodies at_end told.
    joined (g.T.Tape.seen c.args.self.now.tape) (g.T.Tape.seen c.stage.new.tape) (g.T.Tape.seen c.open_gate.new.tape) (LiesBetween bodies (bodies ++ c.args.entry.now ∷ []))
    (weaker (g.T.Tape.seen c.args.self.now.tape) (g.T.Tape.seen c.stage.new.tape) (HasBodies bodies) (LiesBetween bodies (bodies ++ c.args.entry.now ∷ []))
    (λ image has. lies_first bodies c.args.self.now.end at_end.rest.stands.place c.args.entry.now image has) (c.stage.ensures.any_moment bodies at_end.rest told))
    (c.open_gate.ensures.any_moment bodies c.args.entry.now (c.in_ok-stage.ensures.staged bodies at_end.rest) (subst IsTrue (sym c.stage.ensures.told) told))

-- the journal stands behind one record more
pub returns-clause-appended : goal.returns-clause-appended
returns-clause-appended g c = λ bodies at_end.
    let there : c.args.self.now.end + length c.args.entry.now + 5 ≡ c.args.self.now.end + c.step.result = omega (arith, c.step.ensures.step) in
    record {
      rest = subst (λ (end : ℕ). IsAtRest (g.T.Tape.seen c.open_gate.new.tape) end (bodies ++ c.args.entry.now ∷ [])) there
          (c.in_ok-open_gate.ensures.opened bodies c.args.entry.now (c.in_ok-stage.ensures.staged bodies at_end.rest));
      count = omega (arith, at_end.count, length_push bodies c.args.entry.now, c.saturating_add-self.ensures);
    }

-- and is ready for the next
pub returns-clause-ready : goal.returns-clause-ready
returns-clause-ready g c = (c.requires.ready.0 ++ c.args.entry.now ∷ [], returns-clause-appended g c c.requires.ready.0 c.requires.ready.1)
