use Rattle.std.proofs.Common.{◌≡◌, Some, sym, ap, subst, ◌∙◌}
use Rattle.std.specs.FinMap as map
use Rattle.page_pool.specs.Images.{past_map}
use Rattle.page_pool.proofs.Maps.{inserted}
use Rattle.page_pool.proofs.Noted.{noted_more}
use Rattle.page_pool.proofs.past.Replaced.insert.Goals as goal

-- what lies in the places is of the ordered map
pub invariant_of-self-2 : goal.invariant_of-self-2
invariant_of-self-2 c = λ q e there. subst (λ m. map.get m q ≡ Some e) (sym (inserted c.self.inside.images c.insert.new.self c.args.place c.args.past c.in_ok-insert.ensures.updates))
    (noted_more c.self.inside.places c.note.new.places (past_map c.self.inside.images) c.args.place c.args.past (ap (λ m. map.contains_key m c.args.place) c.self.view_is ∙ c.requires)
    c.self.invariant c.note.ensures q e there)

-- an insertion into the ordered map is one into the finite one
pub returns-clause-added : goal.returns-clause-added
returns-clause-added c = inserted c.self.inside.images c.insert.new.self c.args.place c.args.past c.in_ok-insert.ensures.updates ∙ ap (λ m. map.insert m c.args.place c.args.past) c.self.view_is
