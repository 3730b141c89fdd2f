-- a part of the row
use Rattle.std.proofs.Common.{arith}
use Rattle.code_btree.proofs.Edits.{entries_part}
use Rattle.code_btree.proofs.leaf.entries_at.Goals as goal

pub returns-clause-entries : goal.returns-clause-entries
returns-clause-entries c = λ h. entries_part c.args.page.now c.args.count c.args.from c.args.to c.requires.order c.requires.within (omega arith) h
