use Rattle.std.proofs.Common.{ap, ◌∙◌}
use Rattle.std.specs.FinMap as map
use Rattle.page_pool.proofs.Listed.{listed-remove}
use Rattle.page_pool.proofs.staged.Staged.take.Goals as goal

pub returns-clause-taken : goal.returns-clause-taken
returns-clause-taken c = c.take.ensures.taken ∙ ap (λ s. map.get s.changes c.args.n) c.self.view_is

pub returns-clause-left : goal.returns-clause-left
returns-clause-left c = c.take.ensures.left ∙ ap (λ s. map.remove s.changes c.args.n) c.self.view_is

-- the number leaves with its change
pub invariant_of-self : goal.invariant_of-self
invariant_of-self c = listed-remove c.self.inside.numbers c.remove.new.self c.self.inside.table c.take.new.self c.args.n c.remove.ensures.updates c.take.ensures.left c.self.invariant
