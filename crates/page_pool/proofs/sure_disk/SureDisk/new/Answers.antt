use Rattle.page_pool.specs.Pool.{zero_page}
use Rattle.page_pool.proofs.Maps.{of_entries}
use Rattle.page_pool.proofs.sure_disk.SureDisk.new.Goals as goal

pub returns : goal.returns
unfolding zero_page
returns c = λ i. record { pages = of_entries (c.new.ensures.empty i); given = zero_page }
