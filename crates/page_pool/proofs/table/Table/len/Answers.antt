use Rattle.std.proofs.Common.{is_some, count_by, ap, ◌∙◌}
use Rattle.std.specs.FinMap as map
use Rattle.page_pool.proofs.Places.{counted_items}
use Rattle.page_pool.proofs.table.Table.len.Goals as goal

pub returns-clause-len : goal.returns-clause-len
returns-clause-len g c = c.count_items.ensures.count ∙ ap (λ xs. count_by (λ place. is_some place) xs) c.deref.ensures.value ∙ counted_items c.self.inside.places.items ∙ ap map.len c.self.view_is
