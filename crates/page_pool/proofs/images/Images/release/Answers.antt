use Rattle.page_pool.specs.Images.{ImagesState, images_of}
use Rattle.page_pool.proofs.Moves.{released_images}
use Rattle.page_pool.proofs.images.Images.release.Goals as goal

pub invariant_of-self : goal.invariant_of-self
invariant_of-self c =
    let s : ImagesState = images_of c.self.inside.homes c.self.inside.past c.self.inside.held c.self.inside.begun c.self.inside.changed c.self.inside.top in
    released_images s c.self.invariant c.release.new.self c.args.slot c.release.ensures

pub returns-clause-whole : goal.returns-clause-whole
returns-clause-whole c = invariant_of-self c
