use Rattle.std.proofs.Common.{◌≡◌, sym, subst, IfSome}
use Rattle.std.specs.FinMap as map
use Rattle.page_pool.specs.Images.{ImagesState, images_of, IsFreePlace, SettlesImage}
use Rattle.page_pool.proofs.Moves.{put_done}
use Rattle.page_pool.proofs.images.Images.put_home.Goals as goal

-- the page lies at the place, and what lay there is gone
pub invariant_of-self-2 : goal.invariant_of-self-2
invariant_of-self-2 c =
    let s : ImagesState = images_of c.self.inside.homes c.self.inside.past c.self.inside.held c.self.inside.begun c.self.inside.changed c.self.inside.top in
    (put_done s c.self.invariant c.args.n c.args.place (subst (λ x. IsFreePlace x c.args.n c.args.place) (sym c.self.view_is) c.requires.free)
    (subst (λ x. IfSome (map.get x.homes c.args.n) (λ h. h.place ≡ c.args.place)) (sym c.self.view_is) c.requires.own)
    c.insert.new.self c.remove.new.self c.max-self-inside.result c.in_ok-insert.ensures.changed c.remove.ensures c.max-self-inside.ensures).0

pub returns-clause-settled : goal.returns-clause-settled
returns-clause-settled c =
    let s : ImagesState = images_of c.self.inside.homes c.self.inside.past c.self.inside.held c.self.inside.begun c.self.inside.changed c.self.inside.top in
    subst (λ old. SettlesImage old (images_of c.insert.new.self c.remove.new.self c.self.inside.held c.self.inside.begun c.self.inside.begun c.max-self-inside.result) c.args.n c.args.place) c.self.view_is
    (put_done s c.self.invariant c.args.n c.args.place (subst (λ x. IsFreePlace x c.args.n c.args.place) (sym c.self.view_is) c.requires.free)
    (subst (λ x. IfSome (map.get x.homes c.args.n) (λ h. h.place ≡ c.args.place)) (sym c.self.view_is) c.requires.own)
    c.insert.new.self c.remove.new.self c.max-self-inside.result c.in_ok-insert.ensures.changed c.remove.ensures c.max-self-inside.ensures).1

pub returns-clause-whole : goal.returns-clause-whole
returns-clause-whole c = invariant_of-self-2 c
