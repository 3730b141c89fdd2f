use Rattle.std.proofs.Common.{ap, ◌∙◌}
use Rattle.std.specs.FinMap as map
use Rattle.page_pool.proofs.Places.{items-same, items-put, on_err}
use Rattle.page_pool.proofs.table.Table.insert.Goals as goal

-- the places that were added are empty
pub returns-in_err-grow-clause-unchanged : goal.returns-in_err-grow-clause-unchanged
returns-in_err-grow-clause-unchanged g c = on_err c.from_residual.result (items-same c.self.inside.places.items c.grow.new.places.items c.grow.ensures.same ∙ c.self.view_is)

pub returns-clause-changed : goal.returns-clause-changed
returns-clause-changed g c =
    items-put c.grow.new.places.items c.args.n c.args.item c.in_ok-grow.ensures.reached
    ∙ ap (λ m. map.insert m c.args.n c.args.item) (items-same c.self.inside.places.items c.grow.new.places.items c.grow.ensures.same ∙ c.self.view_is)
