use Rattle.sand_journal.proofs.Bodies.{one_change}
use Rattle.sand_journal.proofs.laws.a_body_has_one_change.Goals as goal

pub returns : goal.returns
returns c = one_change c.printed_statements_are_read_back.ensures.reads c.printed_statements_are_read_back.ensures.only
