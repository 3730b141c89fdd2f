use Rattle.std.proofs.Common.{◌≡◌, Some, sym, ap, subst, ◌∙◌}
use Rattle.std.specs.FinMap as map
use Rattle.page_pool.specs.Images.{past_map}
use Rattle.page_pool.proofs.Maps.{removed}
use Rattle.page_pool.proofs.Noted.{noted_less}
use Rattle.page_pool.proofs.past.Replaced.remove.Goals as goal

-- a removal from the ordered map is one from the finite one, whatever the chains are told

pub returns-in-Some : goal.returns-in-Some
returns-in-Some c = removed c.self.inside.images c.remove.new.self c.args.place c.remove.ensures.updates ∙ ap (λ m. map.remove m c.args.place) c.self.view_is

pub returns-in_default : goal.returns-in_default
returns-in_default c = removed c.self.inside.images c.remove.new.self c.args.place c.remove.ensures.updates ∙ ap (λ m. map.remove m c.args.place) c.self.view_is

-- what lies in the places is of the ordered map

pub invariant_of-self : goal.invariant_of-self
invariant_of-self c = λ q e there. subst (λ m. map.get m q ≡ Some e) (sym (removed c.self.inside.images c.remove.new.self c.args.place c.remove.ensures.updates))
    (noted_less c.self.inside.places (past_map c.self.inside.images) c.args.place c.self.invariant q e (subst (λ m. map.get m q ≡ Some e) c.take.ensures.left there))

pub invariant_of-self-in_default : goal.invariant_of-self-in_default
invariant_of-self-in_default c = λ q e there. subst (λ m. map.get m q ≡ Some e) (sym (removed c.self.inside.images c.remove.new.self c.args.place c.remove.ensures.updates))
    (noted_less c.self.inside.places (past_map c.self.inside.images) c.args.place c.self.invariant q e (subst (λ m. map.get m q ≡ Some e) c.take.ensures.left there))
