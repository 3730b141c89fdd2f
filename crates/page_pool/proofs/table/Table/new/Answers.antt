use Rattle.std.proofs.Common.{ap, ◌∙◌}
use Rattle.page_pool.specs.Inside.{items_in}
use Rattle.page_pool.proofs.Places.{items-none}
use Rattle.page_pool.proofs.table.Table.new.Goals as goal

pub returns : goal.returns
returns g c = ap items_in c.new.ensures.items ∙ items-none
