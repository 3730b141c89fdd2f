use Rattle.std.proofs.Common.{sym, ap, subst, ◌∙◌}
use Rattle.std.specs.FinMap as map
use Rattle.page_pool.specs.Images.{ImagesState, images_of, LeavesImage}
use Rattle.page_pool.proofs.Moves.{leaves_without}
use Rattle.page_pool.proofs.images.Images.leave.Goals as goal

-- a page without an image
pub returns-in-None-clause-left : goal.returns-in-None-clause-left
returns-in-None-clause-left c =
    let s : ImagesState = images_of c.self.inside.homes c.self.inside.past c.self.inside.held c.self.inside.begun c.self.inside.changed c.self.inside.top in
    subst (λ old. LeavesImage old (images_of c.self.inside.homes c.self.inside.past c.self.inside.held c.self.inside.begun c.self.inside.begun c.self.inside.top) c.args.n) c.self.view_is
    (leaves_without s c.self.invariant c.args.n (ap (λ x. map.get x.homes c.args.n) c.self.view_is ∙ sym c.home.ensures ∙ c.in-None.is))
