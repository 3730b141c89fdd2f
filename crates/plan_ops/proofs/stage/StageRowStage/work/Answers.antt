-- By the kind of the stage.
use Rattle.plan_ops.specs.declared.stage.Stage.TheVariants as stage
use Rattle.plan_ops.proofs.StageDispatch.{HasPrice, WorksPaying, Ready, WorksFalling, Worked, of_kind, to_kind}
use Rattle.plan_ops.proofs.stage.StageRowStage.work.Goals as goal

pub work-requires-clause-stands : goal.work-requires-clause-stands
work-requires-clause-stands g c = to_kind (Ready c.args.desk.now) c.args.self.now (stage.First c.in-First.stage) c.in-First.is c.requires.stands

pub returns-in-First-clause-falls : goal.returns-in-First-clause-falls
returns-in-First-clause-falls g c =
    of_kind (WorksFalling (stage.First c.work.new.self) c.work.result) c.args.self.now (stage.First c.in-First.stage) c.in-First.is c.work.ensures.falls

pub returns-in-First-clause-step : goal.returns-in-First-clause-step
returns-in-First-clause-step g c =
    of_kind (Worked c.args.desk.now (stage.First c.work.new.self) c.work.result) c.args.self.now (stage.First c.in-First.stage) c.in-First.is c.work.ensures.step

pub work-requires-in-Filter-clause-stands : goal.work-requires-in-Filter-clause-stands
work-requires-in-Filter-clause-stands g c = to_kind (Ready c.args.desk.now) c.args.self.now (stage.Filter c.in-Filter.stage) c.in-Filter.is c.requires.stands

pub returns-in-Filter-clause-falls : goal.returns-in-Filter-clause-falls
returns-in-Filter-clause-falls g c =
    of_kind (WorksFalling (stage.Filter c.work-in-Filter.new.self) c.work-in-Filter.result) c.args.self.now (stage.Filter c.in-Filter.stage) c.in-Filter.is c.work-in-Filter.ensures.falls

pub returns-in-Filter-clause-step : goal.returns-in-Filter-clause-step
returns-in-Filter-clause-step g c =
    of_kind (Worked c.args.desk.now (stage.Filter c.work-in-Filter.new.self) c.work-in-Filter.result) c.args.self.now (stage.Filter c.in-Filter.stage) c.in-Filter.is c.work-in-Filter.ensures.step

pub work-requires-in-Fetch-clause-stands : goal.work-requires-in-Fetch-clause-stands
work-requires-in-Fetch-clause-stands g c = to_kind (Ready c.args.desk.now) c.args.self.now (stage.Fetch c.in-Fetch.stage) c.in-Fetch.is c.requires.stands

pub returns-in-Fetch-clause-falls : goal.returns-in-Fetch-clause-falls
returns-in-Fetch-clause-falls g c =
    of_kind (WorksFalling (stage.Fetch c.work-in-Fetch.new.self) c.work-in-Fetch.result) c.args.self.now (stage.Fetch c.in-Fetch.stage) c.in-Fetch.is c.work-in-Fetch.ensures.falls

pub returns-in-Fetch-clause-step : goal.returns-in-Fetch-clause-step
returns-in-Fetch-clause-step g c =
    of_kind (Worked c.args.desk.now (stage.Fetch c.work-in-Fetch.new.self) c.work-in-Fetch.result) c.args.self.now (stage.Fetch c.in-Fetch.stage) c.in-Fetch.is c.work-in-Fetch.ensures.step

pub work-requires-in-Match-clause-stands : goal.work-requires-in-Match-clause-stands
work-requires-in-Match-clause-stands g c = to_kind (Ready c.args.desk.now) c.args.self.now (stage.Match c.in-Match.stage) c.in-Match.is c.requires.stands

pub returns-in-Match-clause-falls : goal.returns-in-Match-clause-falls
returns-in-Match-clause-falls g c =
    of_kind (WorksFalling (stage.Match c.work-in-Match.new.self) c.work-in-Match.result) c.args.self.now (stage.Match c.in-Match.stage) c.in-Match.is c.work-in-Match.ensures.falls

pub returns-in-Match-clause-step : goal.returns-in-Match-clause-step
returns-in-Match-clause-step g c =
    of_kind (Worked c.args.desk.now (stage.Match c.work-in-Match.new.self) c.work-in-Match.result) c.args.self.now (stage.Match c.in-Match.stage) c.in-Match.is c.work-in-Match.ensures.step

pub work-requires-in-SortBy-clause-stands : goal.work-requires-in-SortBy-clause-stands
work-requires-in-SortBy-clause-stands g c = to_kind (Ready c.args.desk.now) c.args.self.now (stage.SortBy c.in-SortBy.stage) c.in-SortBy.is c.requires.stands

pub returns-in-SortBy-clause-falls : goal.returns-in-SortBy-clause-falls
returns-in-SortBy-clause-falls g c =
    of_kind (WorksFalling (stage.SortBy c.work-in-SortBy.new.self) c.work-in-SortBy.result) c.args.self.now (stage.SortBy c.in-SortBy.stage) c.in-SortBy.is c.work-in-SortBy.ensures.falls

pub returns-in-SortBy-clause-step : goal.returns-in-SortBy-clause-step
returns-in-SortBy-clause-step g c =
    of_kind (Worked c.args.desk.now (stage.SortBy c.work-in-SortBy.new.self) c.work-in-SortBy.result) c.args.self.now (stage.SortBy c.in-SortBy.stage) c.in-SortBy.is c.work-in-SortBy.ensures.step

pub work-requires-in-SortNear-clause-stands : goal.work-requires-in-SortNear-clause-stands
work-requires-in-SortNear-clause-stands g c = to_kind (Ready c.args.desk.now) c.args.self.now (stage.SortNear c.in-SortNear.stage) c.in-SortNear.is c.requires.stands

pub returns-in-SortNear-clause-falls : goal.returns-in-SortNear-clause-falls
returns-in-SortNear-clause-falls g c =
    of_kind (WorksFalling (stage.SortNear c.work-in-SortNear.new.self) c.work-in-SortNear.result) c.args.self.now (stage.SortNear c.in-SortNear.stage) c.in-SortNear.is c.work-in-SortNear.ensures.falls

pub returns-in-SortNear-clause-step : goal.returns-in-SortNear-clause-step
returns-in-SortNear-clause-step g c =
    of_kind (Worked c.args.desk.now (stage.SortNear c.work-in-SortNear.new.self) c.work-in-SortNear.result) c.args.self.now
    (stage.SortNear c.in-SortNear.stage) c.in-SortNear.is c.work-in-SortNear.ensures.step

-- ---- what it costs

pub returns-in-First-clause-price : goal.returns-in-First-clause-price
returns-in-First-clause-price g c = of_kind (HasPrice (stage.First c.work.new.self)) c.args.self.now (stage.First c.in-First.stage) c.in-First.is c.work.ensures.price

pub returns-in-First-clause-costs : goal.returns-in-First-clause-costs
returns-in-First-clause-costs g c = of_kind (WorksPaying c.args.desk.now c.work.new._desk (stage.First c.work.new.self) c.work.result) c.args.self.now
    (stage.First c.in-First.stage) c.in-First.is c.work.ensures.costs

pub returns-in-Filter-clause-price : goal.returns-in-Filter-clause-price
returns-in-Filter-clause-price g c = of_kind (HasPrice (stage.Filter c.work-in-Filter.new.self)) c.args.self.now (stage.Filter c.in-Filter.stage) c.in-Filter.is c.work-in-Filter.ensures.price

pub returns-in-Filter-clause-costs : goal.returns-in-Filter-clause-costs
returns-in-Filter-clause-costs g c = of_kind (WorksPaying c.args.desk.now c.work-in-Filter.new.desk (stage.Filter c.work-in-Filter.new.self) c.work-in-Filter.result) c.args.self.now
    (stage.Filter c.in-Filter.stage) c.in-Filter.is c.work-in-Filter.ensures.costs

pub returns-in-Fetch-clause-price : goal.returns-in-Fetch-clause-price
returns-in-Fetch-clause-price g c = of_kind (HasPrice (stage.Fetch c.work-in-Fetch.new.self)) c.args.self.now (stage.Fetch c.in-Fetch.stage) c.in-Fetch.is c.work-in-Fetch.ensures.price

pub returns-in-Fetch-clause-costs : goal.returns-in-Fetch-clause-costs
returns-in-Fetch-clause-costs g c = of_kind (WorksPaying c.args.desk.now c.work-in-Fetch.new.desk (stage.Fetch c.work-in-Fetch.new.self) c.work-in-Fetch.result) c.args.self.now
    (stage.Fetch c.in-Fetch.stage) c.in-Fetch.is c.work-in-Fetch.ensures.costs

pub returns-in-Match-clause-price : goal.returns-in-Match-clause-price
returns-in-Match-clause-price g c = of_kind (HasPrice (stage.Match c.work-in-Match.new.self)) c.args.self.now (stage.Match c.in-Match.stage) c.in-Match.is c.work-in-Match.ensures.price

pub returns-in-Match-clause-costs : goal.returns-in-Match-clause-costs
returns-in-Match-clause-costs g c = of_kind (WorksPaying c.args.desk.now c.work-in-Match.new.desk (stage.Match c.work-in-Match.new.self) c.work-in-Match.result) c.args.self.now
    (stage.Match c.in-Match.stage) c.in-Match.is c.work-in-Match.ensures.costs

pub returns-in-SortBy-clause-price : goal.returns-in-SortBy-clause-price
returns-in-SortBy-clause-price g c = of_kind (HasPrice (stage.SortBy c.work-in-SortBy.new.self)) c.args.self.now (stage.SortBy c.in-SortBy.stage) c.in-SortBy.is c.work-in-SortBy.ensures.price

pub returns-in-SortBy-clause-costs : goal.returns-in-SortBy-clause-costs
returns-in-SortBy-clause-costs g c = of_kind (WorksPaying c.args.desk.now c.work-in-SortBy.new.desk (stage.SortBy c.work-in-SortBy.new.self) c.work-in-SortBy.result) c.args.self.now
    (stage.SortBy c.in-SortBy.stage) c.in-SortBy.is c.work-in-SortBy.ensures.costs

pub returns-in-SortNear-clause-price : goal.returns-in-SortNear-clause-price
returns-in-SortNear-clause-price g c = of_kind (HasPrice (stage.SortNear c.work-in-SortNear.new.self)) c.args.self.now
    (stage.SortNear c.in-SortNear.stage) c.in-SortNear.is c.work-in-SortNear.ensures.price

pub returns-in-SortNear-clause-costs : goal.returns-in-SortNear-clause-costs
returns-in-SortNear-clause-costs g c = of_kind (WorksPaying c.args.desk.now c.work-in-SortNear.new.desk (stage.SortNear c.work-in-SortNear.new.self) c.work-in-SortNear.result) c.args.self.now
    (stage.SortNear c.in-SortNear.stage) c.in-SortNear.is c.work-in-SortNear.ensures.costs
