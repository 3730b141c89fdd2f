use Rattle.std.proofs.Common.{ap, ◌∙◌}
use Rattle.std.specs.FinSet as set
use Rattle.page_pool.specs.Inside.{dirty_of, is_page}
use Rattle.std.proofs.Common.{count_by}
use Rattle.page_pool.proofs.Counted.{counted}
use Rattle.page_pool.proofs.table.Table+Option+Page.count.Goals as goal

pub returns-clause-count : goal.returns-clause-count
returns-clause-count c = c.count_pages.ensures.count ∙ ap (λ xs. count_by is_page xs) c.deref.ensures.value ∙ counted c.self.inside.places.items ∙ ap (λ m. set.len (dirty_of m)) c.self.view_is
