-- what the words ask for, or why they ask for nothing
use Rattle.std.proofs.Common.{◌≡◌, ℕ, Option, subst, ◌∙◌}
use Rattle.session.specs.Outside.{outside_of}
use Rattle.session.specs.Workload.{EndsAsked}
use Rattle.session.proofs.KeptStatuses.{Judged-kept, journal_is}
use Rattle.session.proofs.kept.run_kept.Goals as goal

pub returns-in-Ok-clause-plain : goal.returns-in-Ok-clause-plain
returns-in-Ok-clause-plain g c = λ none.
    subst (λ (workload : Option ℕ). EndsAsked workload c.run_kept_asked.result.0 c.args.limits
    (outside_of (g.S.Source.left c.args.script.now) (g.S.Source.faults c.args.script.now) (g.H.Shelf.files c.args.shelf.now) (g.H.Shelf.faults c.args.shelf.now)
    (g.D.Disk.seen c.args.disk) (g.K.Sink.took c.args.out.now) (g.K.Sink.faults c.args.out.now)) (outside_of (g.S.Source.left c.run_kept_asked.new.script)
    (g.S.Source.faults c.run_kept_asked.new.script) (g.H.Shelf.files c.run_kept_asked.new.shelf) (g.H.Shelf.faults c.run_kept_asked.new.shelf)
    (g.D.Disk.seen c.run_kept_asked.result.1) (g.K.Sink.took c.run_kept_asked.new.out) (g.K.Sink.faults c.run_kept_asked.new.out)) × (c.run_kept_asked.result.2
    ≡ c.args.tape)) c.in-Ok.ensures.asked.beside.workload
    (c.run_kept_asked.ensures.plain (journal_is c.args.words.now c.in-Ok.asked c.in-Ok.ensures.asked ∙ none))

pub returns-in-Ok-clause-kept : goal.returns-in-Ok-clause-kept
returns-in-Ok-clause-kept g c = λ name is. c.run_kept_asked.ensures.kept name (journal_is c.args.words.now c.in-Ok.asked c.in-Ok.ensures.asked ∙ is)

pub returns-in-Ok-clause-usage : goal.returns-in-Ok-clause-usage
returns-in-Ok-clause-usage g c = Judged-kept c.run_kept_asked.result.0 c.args.words.now c.run_kept_asked.ensures.taken c.in-Ok.ensures.asked.beside.taken
