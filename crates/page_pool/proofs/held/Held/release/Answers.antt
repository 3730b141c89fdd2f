use Rattle.std.proofs.Common.{sym, ap, ◌∙◌}
use Rattle.std.specs.FinMap as map
use Rattle.page_pool.proofs.Maps.{found-remove}
use Rattle.page_pool.proofs.held.Held.release.Goals as goal

pub invariant_of-self : goal.invariant_of-self
invariant_of-self c = λ id at is. c.self.invariant id at (found-remove c.self.inside.stamps c.args.slot id at (ap (λ m. map.get m id) (sym c.take.ensures.left) ∙ is))
