-- the pages stay as the command begins and as it ends
use Rattle.std.proofs.Common.{rules}
use Rattle.benches.proofs.Kept.{begun, committed}
use Rattle.benches.proofs.speed.command.Goals as goal

pub inserts-init : goal.inserts-init
inserts-init c = record { opened = search rules; tree = begun c.args.pool.now c.begin.new.self c.args.tree.now c.begin.result c.begin.ensures.writes c.requires.tree }

pub returns-clause-tree : goal.returns-clause-tree
returns-clause-tree c = committed c.inserts.pool c.commit.new.self c.inserts.tree c.commit.ensures c.inserts.invariant.tree
