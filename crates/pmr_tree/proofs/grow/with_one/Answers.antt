-- The list is copied, and the id put in its place.
use Rattle.std.proofs.Common.{sym, subst}
use Rattle.pmr_tree.specs.Leaves.{ListPasses}
use Rattle.pmr_tree.proofs.grow.with_one.Goals as goal

pub returns-clause-values : goal.returns-clause-values
returns-clause-values c = λ test one pass. c.in_ok-add.ensures.values test one (subst (ListPasses test) (sym c.in_ok-all.ensures) pass)
