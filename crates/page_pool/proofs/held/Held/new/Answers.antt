use Rattle.std.proofs.Common.{sym, ap, ◌∙◌}
use Rattle.std.specs.FinMap as map
use Rattle.std.specs.Ordering.{nat_cmp}
use Rattle.std.proofs.lemmas.Option.{none-some}
use Rattle.page_pool.proofs.held.Held.new.Goals as goal

pub invariant_of-result : goal.invariant_of-result
invariant_of-result c = λ id at is. absurd (none-some at (sym (map.get-empty nat_cmp id) ∙ ap (λ m. map.get m id) (sym c.new.ensures) ∙ is))
