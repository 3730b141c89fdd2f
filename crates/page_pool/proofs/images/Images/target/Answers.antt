use Rattle.std.proofs.Common.{sym, subst, ◌∙◌, arith}
use Rattle.page_pool.specs.Images.{ImagesState, images_of, IsFreePlace}
use Rattle.page_pool.proofs.Moves.{own_free, spare_place, fresh_free}
use Rattle.page_pool.proofs.images.Images.target.Goals as goal

-- no stamp sees the image at the page's own place
pub returns-clause-free : goal.returns-clause-free
returns-clause-free c =
    let s : ImagesState = images_of c.self.inside.homes c.self.inside.past c.self.inside.held c.self.inside.begun c.self.inside.changed c.self.inside.top in
    subst (λ x. IsFreePlace x c.args.n c.in-Some.home.now.place) c.self.view_is
    (own_free s c.self.invariant c.args.n c.in-Some.home.now (sym c.in-Some.ensures) (sym c.sees.ensures ∙ c.if-not-sees.true))

pub returns-in-Some-first_unseen-clause-free : goal.returns-in-Some-first_unseen-clause-free
returns-in-Some-first_unseen-clause-free c =
    let s : ImagesState = images_of c.self.inside.homes c.self.inside.past c.self.inside.held c.self.inside.begun c.self.inside.changed c.self.inside.top in
    subst (λ x. IsFreePlace x c.args.n c.in-Some-first_unseen.place) c.self.view_is (spare_place s c.self.invariant c.args.n c.in-Some-first_unseen.place c.in-Some-first_unseen.ensures)

pub returns-in-Some-checked_add-clause-free : goal.returns-in-Some-checked_add-clause-free
returns-in-Some-checked_add-clause-free c =
    let s : ImagesState = images_of c.self.inside.homes c.self.inside.past c.self.inside.held c.self.inside.begun c.self.inside.changed c.self.inside.top in
    subst (λ x. IsFreePlace x c.args.n c.in-Some-checked_add.place) c.self.view_is (fresh_free s c.self.invariant c.args.n c.in-Some-checked_add.place (omega (arith, c.in-Some-checked_add.ensures)))
