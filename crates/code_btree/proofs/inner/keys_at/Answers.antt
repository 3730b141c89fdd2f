-- a part of the row
use Rattle.std.proofs.Common.{arith}
use Rattle.code_btree.proofs.Edits.{keys_part}
use Rattle.code_btree.proofs.inner.keys_at.Goals as goal

pub returns-clause-keys : goal.returns-clause-keys
returns-clause-keys c = λ h. keys_part c.args.page.now c.args.count c.args.from c.args.to c.requires.order c.requires.within (omega arith) h
