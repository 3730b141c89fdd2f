-- a journal of the script, or a run without one
use Rattle.std.proofs.Common.{sym}
use Rattle.session.proofs.KeptStatuses.{Plain-taken, no_name}
use Rattle.session.proofs.kept.run_kept_asked.Goals as goal

pub returns-in-Some-clause-plain : goal.returns-in-Some-clause-plain
returns-in-Some-clause-plain g c = λ none. absurd (no_name _ _ c.in-Some.ensures none)

pub returns-in-None-clause-kept : goal.returns-in-None-clause-kept
returns-in-None-clause-kept g c = λ name some. absurd (no_name _ _ (sym some) (sym c.in-None.ensures))

pub returns-in-None-clause-tape : goal.returns-in-None-clause-tape
returns-in-None-clause-tape g c = (Plain-taken c.run_asked-status.result.0 _ c.run_asked-status.ensures.taken).1

pub returns-in-None-clause-taken : goal.returns-in-None-clause-taken
returns-in-None-clause-taken g c = (Plain-taken c.run_asked-status.result.0 (g.T.Tape.seen c.args.tape).faults c.run_asked-status.ensures.taken).0
