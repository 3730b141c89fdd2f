use Rattle.std.proofs.Common.{ap, ◌∙◌}
use Rattle.page_pool.specs.Images.{ImagesState, images_of, past_place}
use Rattle.page_pool.proofs.Sights.{searched}
use Rattle.page_pool.proofs.images.Images.past_place.Goals as goal

-- no two replaced images are shown as one page
pub returns : goal.returns
returns c =
    let s : ImagesState = images_of c.self.inside.homes c.self.inside.past c.self.inside.held c.self.inside.begun c.self.inside.changed c.self.inside.top in
    searched s c.self.invariant c.args.at c.args.n c.shown_place.result c.shown_place.ensures.found c.shown_place.ensures.none ∙ ap (λ x. past_place c.args.at x.past c.args.n) c.self.view_is
