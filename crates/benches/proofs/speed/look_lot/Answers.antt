-- a look-up leaves the tree as it is
use Rattle.benches.proofs.Kept.{kept}
use Rattle.benches.proofs.speed.look_lot.Goals as goal

pub keys-preserved : goal.keys-preserved
keys-preserved c = λ told. kept c.keys.pool c.get.new.pages c.args.tree c.in_ok-get.ensures.looks.read c.keys.invariant told
