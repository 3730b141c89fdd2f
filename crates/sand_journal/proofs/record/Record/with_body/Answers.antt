use Rattle.std.proofs.Common.{rules}
use Rattle.sand_journal.specs.Images.{framed}
use Rattle.sand_journal.proofs.record.Record.with_body.Goals as goal

-- what was pushed, piece by piece, is the body in its frame and a shut gate
pub invariant_of-result : goal.invariant_of-result
unfolding framed
invariant_of-result c = (c.args.body.now, c.requires, search rules)
