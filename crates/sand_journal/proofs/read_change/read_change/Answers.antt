use Rattle.std.proofs.Common.{◌∷◌}
use Rattle.sand_journal.proofs.Answered.{answer_behind}
use Rattle.sand_journal.proofs.read_change.read_change.Goals as goal

-- behind the byte of a line stands its text
pub returns-in-Some : goal.returns-in-Some
returns-in-Some c = answer_behind c.args.body.now (1 ∷ c.in-Some.text.now) c.read_line.result c.in-Some.ensures.found c.read_line.ensures
