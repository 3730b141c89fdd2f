use Rattle.std.proofs.Common.{ap, ◌∙◌}
use Rattle.std.specs.FinMap as map
use Rattle.page_pool.proofs.Archives.{place_is}
use Rattle.page_pool.proofs.archive.Archive.place.Goals as goal

pub returns : goal.returns
returns g c = c.newest_place.ensures.place ∙ place_is c.self.inside.images c.args.n ∙ ap (λ a. map.get a.places c.args.n) c.self.view_is
