-- what is listed has the rectangle of the root's entries
use Rattle.std.proofs.Common.{◌-◌, sym, ◌∙◌}
use Rattle.r_tree.proofs.Hulls.{hull_members}
use Rattle.r_tree.proofs.tree.RTree.root.Goals as goal

pub returns-clause-bound : goal.returns-clause-bound
returns-clause-bound c = λ m t. sym (hull_members m (c.args.self.now.height - 1) c.args.self.now.root t.at.stands ∙ t.at.least)
