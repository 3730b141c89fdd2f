-- What stands at a place, and nothing behind the end.
use Rattle.std.proofs.Common.{arith}
use Rattle.pmr_tree.proofs.Unions.{at_none, at_some}
use Rattle.pmr_tree.proofs.union.is_at.Goals as goal

pub returns-then-at-list : goal.returns-then-at-list
returns-then-at-list c = at_none c.args.list.now c.args.at c.args.id c.if-at-list.true

pub returns : goal.returns
returns c = at_some c.args.list.now c.args.at c.args.id _ (omega arith)
