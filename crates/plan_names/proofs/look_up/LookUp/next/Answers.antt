-- no value equals a shape, and none is left behind the greatest id
use Rattle.plan_names.proofs.LookUps.{none_of_shape, all_looked_up}
use Rattle.plan_names.proofs.look_up.LookUp.next.Goals as goal

pub returns-in-Shape-clause-first : goal.returns-in-Shape-clause-first
returns-in-Shape-clause-first g c = λ told d column h. none_of_shape d column c.args.value.now c.in-Shape.field-0 c.args.after c.in-Shape.is

pub returns-clause-first : goal.returns-clause-first
returns-clause-first g c = λ told d column h.
    all_looked_up d column (g.P.Pages.shown c.args.pages.now).pages c.args.self.now c.args.value.now c.args.after c.entries.last c.greatest-greatest.result h
    ((rw c.deref.ensures at c.greatest-greatest.ensures.greatest) (g.P.Pages.shown c.args.pages.now).pages h.holds.stands.0 h.holds.stands.1) c.entries-test.false (c.entries.invariant.left told)
