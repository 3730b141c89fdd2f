-- the planted tree stays as its command ends
use Rattle.std.proofs.Common.{◌∙◌, rules, sym}
use Rattle.benches.proofs.Kept.{committed}
use Rattle.benches.proofs.speed.filled.Goals as goal

pub commands-init : goal.commands-init
commands-init c = record {
  closed = search rules;
  tree = committed c.plant.new.pool c.commit.new.self c.in_ok-tree.tree c.commit.ensures (λ told. (c.in_ok-tree.ensures.value (sym c.in_ok-tree.ensures.within.told ∙ told)).tree);
}
