use Rattle.std.proofs.Common.{is_some, sym, ap, subst, ◌∙◌}
use Rattle.std.specs.FinMap as map
use Rattle.page_pool.specs.Images.{ImagesState, images_of, IsImages, IsFreePlace, SettlesImage}
use Rattle.page_pool.proofs.Moves.{move_done, unmoved}
use Rattle.page_pool.proofs.images.Images.move_home.Goals as goal

-- no replaced image lies where a newest one does
pub insert-requires : goal.insert-requires
insert-requires c = ap is_some (c.self.invariant.apart c.args.n c.args.home (ap (λ x. map.get x.homes c.args.n) c.self.view_is ∙ c.requires.old))

-- the page lies at the place, and its old image with the replaced ones
pub invariant_of-self-in-Ok : goal.invariant_of-self-in-Ok
invariant_of-self-in-Ok c =
    let s : ImagesState = images_of c.self.inside.homes c.self.inside.past c.self.inside.held c.self.inside.begun c.self.inside.changed c.self.inside.top in
    (move_done s c.self.invariant c.args.n c.args.place (subst (λ x. IsFreePlace x c.args.n c.args.place) (sym c.self.view_is) c.requires.free)
    c.args.home (ap (λ x. map.get x.homes c.args.n) c.self.view_is ∙ c.requires.old) c.requires.elsewhere
    c.insert-2.new.self c.remove.new.self c.max-self-inside.result c.in-Ok.ensures.changed
    (c.remove.ensures ∙ ap (λ m. map.remove m c.args.place) (c.in_ok-insert.ensures.added ∙ ap (map.insert c.self.inside.past c.args.home.place) c.replaced.ensures)) c.max-self-inside.ensures).0

pub returns-in-Ok-clause-settled : goal.returns-in-Ok-clause-settled
returns-in-Ok-clause-settled c =
    let s : ImagesState = images_of c.self.inside.homes c.self.inside.past c.self.inside.held c.self.inside.begun c.self.inside.changed c.self.inside.top in
    subst (λ old. SettlesImage old (images_of c.insert-2.new.self c.remove.new.self c.self.inside.held c.self.inside.begun c.self.inside.begun c.max-self-inside.result) c.args.n c.args.place) c.self.view_is
    (move_done s c.self.invariant c.args.n c.args.place (subst (λ x. IsFreePlace x c.args.n c.args.place) (sym c.self.view_is) c.requires.free)
    c.args.home (ap (λ x. map.get x.homes c.args.n) c.self.view_is ∙ c.requires.old) c.requires.elsewhere
    c.insert-2.new.self c.remove.new.self c.max-self-inside.result c.in-Ok.ensures.changed
    (c.remove.ensures ∙ ap (λ m. map.remove m c.args.place) (c.in_ok-insert.ensures.added ∙ ap (map.insert c.self.inside.past c.args.home.place) c.replaced.ensures)) c.max-self-inside.ensures).1

-- the old image was taken out again
pub invariant_of-self-in-Err : goal.invariant_of-self-in-Err
invariant_of-self-in-Err c =
    let s : ImagesState = images_of c.self.inside.homes c.self.inside.past c.self.inside.held c.self.inside.begun c.self.inside.changed c.self.inside.top in
    subst IsImages (λ i. images_of (sym c.in-Err.ensures.unchanged i)
    (sym (unmoved s c.self.invariant c.args.n c.args.home (ap (λ x. map.get x.homes c.args.n) c.self.view_is ∙ c.requires.old) c.replaced.result c.insert.new.self c.remove-in-Err.new.self
    c.in_ok-insert.ensures.added c.remove-in-Err.ensures) i) c.self.inside.held c.self.inside.begun c.self.inside.changed c.self.inside.top) c.self.invariant

pub returns-in-Err-clause-unchanged : goal.returns-in-Err-clause-unchanged
returns-in-Err-clause-unchanged c =
    let s : ImagesState = images_of c.self.inside.homes c.self.inside.past c.self.inside.held c.self.inside.begun c.self.inside.changed c.self.inside.top in
    (λ i. images_of (c.in-Err.ensures.unchanged i)
    ((unmoved s c.self.invariant c.args.n c.args.home (ap (λ x. map.get x.homes c.args.n) c.self.view_is ∙ c.requires.old) c.replaced.result c.insert.new.self c.remove-in-Err.new.self
    c.in_ok-insert.ensures.added c.remove-in-Err.ensures) i) c.self.inside.held c.self.inside.begun c.self.inside.changed c.self.inside.top) ∙ c.self.view_is

pub returns-in-Ok-clause-whole : goal.returns-in-Ok-clause-whole
returns-in-Ok-clause-whole c = invariant_of-self-in-Ok c

pub returns-in-Err-clause-whole : goal.returns-in-Err-clause-whole
returns-in-Err-clause-whole c = invariant_of-self-in-Err c
