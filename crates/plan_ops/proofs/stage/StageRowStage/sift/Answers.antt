-- A filter's look at a row is that of the stage; no other stage looks.
use Rattle.plan_ops.specs.declared.stage.Stage.TheVariants as stage
use Rattle.plan_ops.proofs.StageDispatch.{Ready, Said, SaysPaying, of_kind, to_kind}
use Rattle.plan_ops.proofs.stage.StageRowStage.sift.Goals as goal

pub sift-requires-clause-stands : goal.sift-requires-clause-stands
sift-requires-clause-stands g c = to_kind (Ready c.args.desk.now) c.args.self.now (stage.Filter c.in-Filter.stage) c.in-Filter.is c.requires.stands

pub returns-in-Filter-clause-step : goal.returns-in-Filter-clause-step
returns-in-Filter-clause-step g c =
    of_kind (Said c.args.desk.now c.sift.result c.args.row.now) c.args.self.now (stage.Filter c.in-Filter.stage) c.in-Filter.is c.sift.ensures.step

pub returns-in-Filter-clause-costs : goal.returns-in-Filter-clause-costs
returns-in-Filter-clause-costs g c =
    of_kind (SaysPaying c.args.desk.now c.sift.new.desk c.sift.result c.args.row.now) c.args.self.now (stage.Filter c.in-Filter.stage) c.in-Filter.is c.sift.ensures.costs
