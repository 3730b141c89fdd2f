use Rattle.std.proofs.Common.{is_some, ap, subst, ◌∙◌}
use Rattle.std.specs.FinMap as map
use Rattle.page_pool.specs.Images.{ImagesState, images_of, LeavesImage}
use Rattle.page_pool.proofs.Moves.{leave_done}
use Rattle.page_pool.proofs.images.Images.leave_home.Goals as goal

-- no replaced image lies where a newest one does
pub insert-requires : goal.insert-requires
insert-requires c = ap is_some (c.self.invariant.apart c.args.n c.args.home (ap (λ x. map.get x.homes c.args.n) c.self.view_is ∙ c.requires))

-- the image lies with the replaced ones
pub invariant_of-self-2 : goal.invariant_of-self-2
invariant_of-self-2 c =
    let s : ImagesState = images_of c.self.inside.homes c.self.inside.past c.self.inside.held c.self.inside.begun c.self.inside.changed c.self.inside.top in
    (leave_done s c.self.invariant c.args.n c.args.home (ap (λ x. map.get x.homes c.args.n) c.self.view_is ∙ c.requires) c.take.new.self c.insert.new.self c.take.ensures.left
    (c.in_ok-insert.ensures.added ∙ ap (map.insert c.self.inside.past c.args.home.place) c.replaced.ensures)).0

pub returns-clause-left : goal.returns-clause-left
returns-clause-left c =
    let s : ImagesState = images_of c.self.inside.homes c.self.inside.past c.self.inside.held c.self.inside.begun c.self.inside.changed c.self.inside.top in
    subst (λ old. LeavesImage old (images_of c.take.new.self c.insert.new.self c.self.inside.held c.self.inside.begun c.self.inside.begun c.self.inside.top) c.args.n) c.self.view_is
    (leave_done s c.self.invariant c.args.n c.args.home (ap (λ x. map.get x.homes c.args.n) c.self.view_is ∙ c.requires) c.take.new.self c.insert.new.self c.take.ensures.left
    (c.in_ok-insert.ensures.added ∙ ap (map.insert c.self.inside.past c.args.home.place) c.replaced.ensures)).1

pub returns-clause-whole : goal.returns-clause-whole
returns-clause-whole c = invariant_of-self-2 c
