use Rattle.std.proofs.Common.{◌∷◌}
use Rattle.sand_journal.proofs.Answered.{answer_behind, kind_none}
use Rattle.sand_journal.proofs.read_change.read_other.Goals as goal

-- behind the byte of rows stand theirs
pub returns-in-Some : goal.returns-in-Some
returns-in-Some c = answer_behind c.args.body.now (2 ∷ c.in-Some.rest.now) c.read_rows_change.result c.in-Some.ensures.found c.read_rows_change.ensures

-- a body that begins with neither byte is no change's
pub returns-in-None : goal.returns-in-None
returns-in-None c = kind_none c.args.body.now c.requires.other c.in-None.ensures.none
