-- a part of the row
use Rattle.std.proofs.Common.{arith}
use Rattle.code_btree.proofs.Edits.{children_part}
use Rattle.code_btree.proofs.inner.children_at.Goals as goal

pub returns-clause-children : goal.returns-clause-children
returns-clause-children c = λ h. children_part c.args.page.now c.args.count c.args.from c.args.to c.requires.order c.requires.within (omega arith) h
