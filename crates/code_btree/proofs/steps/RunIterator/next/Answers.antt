-- a step gives the first pair of those left, and the run stands behind it
use Rattle.std.proofs.Common.{◌≡◌, ◌∙◌, Bool, false, ap, refl}
use Rattle.std.specs.Prelude.{Result, Ok}
use Rattle.page_pool.specs.declared.fault.PageFault.{PageFault}
use Rattle.code_btree.proofs.RunSteps.{given_by, run_gave, fewer_left}
use Rattle.code_btree.proofs.steps.RunIterator.next.Goals as goal

outcome_is : (o : Result Bool PageFault) (b : Bool) → o ≡ Ok b → b ≡ false → o ≡ Ok false
outcome_is o b e f = let ok : Bool → Result Bool PageFault = λ x. Ok x in e ∙ ap ok f

pub returns-in-Ok-Some-clause-steps : goal.returns-in-Ok-Some-clause-steps
returns-in-Ok-Some-clause-steps g c = (
  refl,
  run_gave (g.P.Pages.shown c.args.self.now.pages.now) (g.P.Pages.shown c.step.new.pages) c.args.self.now.spot c.in-Ok-Some.spot c.in-Ok-Some.pair c.args.self.now.outcome c.in-Ok-Some.field-0
      (outcome_is c.args.self.now.outcome c.in-Ok.over c.in-Ok.is c.if-over.false)
      (given_by (g.P.Pages.shown c.args.self.now.pages.now) c.args.self.now.spot c.in-Ok-Some.field-0 c.in-Ok-Some.pair c.in-Ok-Some.spot c.in-Ok-Some.field-0-is c.in-Ok-Some.ensures.value)
      c.in-Ok-Some.ensures.peeks c.in-Ok-Some.ensures.some,
)

pub returns-in-Ok-Some-clause-goes : goal.returns-in-Ok-Some-clause-goes
returns-in-Ok-Some-clause-goes g c =
    let going = outcome_is c.args.self.now.outcome c.in-Ok.over c.in-Ok.is c.if-over.false in
    let given = given_by (g.P.Pages.shown c.args.self.now.pages.now) c.args.self.now.spot c.in-Ok-Some.field-0 c.in-Ok-Some.pair c.in-Ok-Some.spot c.in-Ok-Some.field-0-is c.in-Ok-Some.ensures.value in
    let gave = run_gave (g.P.Pages.shown c.args.self.now.pages.now)
    (g.P.Pages.shown c.step.new.pages) c.args.self.now.spot c.in-Ok-Some.spot c.in-Ok-Some.pair c.args.self.now.outcome c.in-Ok-Some.field-0 going given c.in-Ok-Some.ensures.peeks c.in-Ok-Some.ensures.some in
    let can = (gave.steps going).can in
    record { on = λ _. (can, tt, fewer_left (g.P.Pages.shown c.args.self.now.pages.now) c.args.self.now.spot c.in-Ok-Some.spot c.in-Ok-Some.pair given); keeps = can; rests = λ _. tt }
