use Rattle.std.proofs.Common.{ap, ◌∙◌}
use Rattle.std.specs.FinMap as map
use Rattle.page_pool.proofs.Archives.{as_many_homes}
use Rattle.page_pool.proofs.archive.Archive.count.Goals as goal

pub returns-clause-count : goal.returns-clause-count
returns-clause-count g c = c.count.ensures.count ∙ as_many_homes c.self.inside.images ∙ ap (λ a. map.len a.places) c.self.view_is
