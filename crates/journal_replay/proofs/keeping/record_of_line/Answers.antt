use Rattle.std.proofs.Common.{refl, sym, ap, subst, ◌∙◌}
use Rattle.sand_journal.specs.ChangeBody.{IsChange, body_of}
use Rattle.sand_journal.specs.declared.change.Change.TheVariants as change
use Rattle.journal_replay.proofs.Lines.{line_is}
use Rattle.journal_replay.proofs.keeping.record_of_line.Goals as goal

-- a line that a journal keeps is a change
pub of-made-requires : goal.of-made-requires
of-made-requires c = subst IsChange (sym (line_is (change.Line c.args.statement) c.args.statement refl)) (c.requires.kept, c.requires.in_range)

-- its body is the line's
pub returns-in-Ok : goal.returns-in-Ok
returns-in-Ok c = c.in-Ok.ensures.body ∙ ap body_of (line_is (change.Line c.args.statement) c.args.statement refl)
