-- By the kind of the stage.
use Rattle.plan_ops.specs.declared.stage.Stage.TheVariants as stage
use Rattle.plan_ops.proofs.StageDispatch.{HasPrice, FinishesOwing, FinishesFalling, Finished, of_kind}
use Rattle.plan_ops.proofs.stage.StageRowStage.finish.Goals as goal

pub returns-in-First-clause-falls : goal.returns-in-First-clause-falls
returns-in-First-clause-falls c =
    of_kind (FinishesFalling (stage.First c.finish.new.self) c.finish.result) c.args.self.now (stage.First c.in-First.stage) c.in-First.is c.finish.ensures.falls

pub returns-in-First-clause-stands : goal.returns-in-First-clause-stands
returns-in-First-clause-stands c =
    of_kind (Finished (stage.First c.finish.new.self) c.finish.result) c.args.self.now (stage.First c.in-First.stage) c.in-First.is c.finish.ensures.stands

pub returns-in-Filter-clause-falls : goal.returns-in-Filter-clause-falls
returns-in-Filter-clause-falls c =
    of_kind (FinishesFalling (stage.Filter c.finish-in-Filter.new.self) c.finish-in-Filter.result) c.args.self.now (stage.Filter c.in-Filter.stage) c.in-Filter.is c.finish-in-Filter.ensures.falls

pub returns-in-Filter-clause-stands : goal.returns-in-Filter-clause-stands
returns-in-Filter-clause-stands c =
    of_kind (Finished (stage.Filter c.finish-in-Filter.new.self) c.finish-in-Filter.result) c.args.self.now (stage.Filter c.in-Filter.stage) c.in-Filter.is c.finish-in-Filter.ensures.stands

pub returns-in-Fetch-clause-falls : goal.returns-in-Fetch-clause-falls
returns-in-Fetch-clause-falls c =
    of_kind (FinishesFalling (stage.Fetch c.finish-in-Fetch.new.self) c.finish-in-Fetch.result) c.args.self.now (stage.Fetch c.in-Fetch.stage) c.in-Fetch.is c.finish-in-Fetch.ensures.falls

pub returns-in-Fetch-clause-stands : goal.returns-in-Fetch-clause-stands
returns-in-Fetch-clause-stands c =
    of_kind (Finished (stage.Fetch c.finish-in-Fetch.new.self) c.finish-in-Fetch.result) c.args.self.now (stage.Fetch c.in-Fetch.stage) c.in-Fetch.is c.finish-in-Fetch.ensures.stands

pub returns-in-Match-clause-falls : goal.returns-in-Match-clause-falls
returns-in-Match-clause-falls c =
    of_kind (FinishesFalling (stage.Match c.finish-in-Match.new.self) c.finish-in-Match.result) c.args.self.now (stage.Match c.in-Match.stage) c.in-Match.is c.finish-in-Match.ensures.falls

pub returns-in-Match-clause-stands : goal.returns-in-Match-clause-stands
returns-in-Match-clause-stands c =
    of_kind (Finished (stage.Match c.finish-in-Match.new.self) c.finish-in-Match.result) c.args.self.now (stage.Match c.in-Match.stage) c.in-Match.is c.finish-in-Match.ensures.stands

pub returns-in-SortBy-clause-falls : goal.returns-in-SortBy-clause-falls
returns-in-SortBy-clause-falls c =
    of_kind (FinishesFalling (stage.SortBy c.finish-in-SortBy.new.self) c.finish-in-SortBy.result) c.args.self.now (stage.SortBy c.in-SortBy.stage) c.in-SortBy.is c.finish-in-SortBy.ensures.falls

pub returns-in-SortBy-clause-stands : goal.returns-in-SortBy-clause-stands
returns-in-SortBy-clause-stands c =
    of_kind (Finished (stage.SortBy c.finish-in-SortBy.new.self) c.finish-in-SortBy.result) c.args.self.now (stage.SortBy c.in-SortBy.stage) c.in-SortBy.is c.finish-in-SortBy.ensures.stands

pub returns-in-SortNear-clause-falls : goal.returns-in-SortNear-clause-falls
returns-in-SortNear-clause-falls c =
    of_kind (FinishesFalling (stage.SortNear c.finish-in-SortNear.new.self) c.finish-in-SortNear.result) c.args.self.now
    (stage.SortNear c.in-SortNear.stage) c.in-SortNear.is c.finish-in-SortNear.ensures.falls

pub returns-in-SortNear-clause-stands : goal.returns-in-SortNear-clause-stands
returns-in-SortNear-clause-stands c =
    of_kind (Finished (stage.SortNear c.finish-in-SortNear.new.self) c.finish-in-SortNear.result) c.args.self.now
    (stage.SortNear c.in-SortNear.stage) c.in-SortNear.is c.finish-in-SortNear.ensures.stands

-- ---- what it costs

pub returns-in-First-clause-price : goal.returns-in-First-clause-price
returns-in-First-clause-price c = of_kind (HasPrice (stage.First c.finish.new.self)) c.args.self.now (stage.First c.in-First.stage) c.in-First.is c.finish.ensures.price

pub returns-in-First-clause-owes : goal.returns-in-First-clause-owes
returns-in-First-clause-owes c = of_kind (FinishesOwing (stage.First c.finish.new.self)) c.args.self.now (stage.First c.in-First.stage) c.in-First.is c.finish.ensures.owes

pub returns-in-Filter-clause-price : goal.returns-in-Filter-clause-price
returns-in-Filter-clause-price c = of_kind (HasPrice (stage.Filter c.finish-in-Filter.new.self)) c.args.self.now (stage.Filter c.in-Filter.stage) c.in-Filter.is c.finish-in-Filter.ensures.price

pub returns-in-Filter-clause-owes : goal.returns-in-Filter-clause-owes
returns-in-Filter-clause-owes c = of_kind (FinishesOwing (stage.Filter c.finish-in-Filter.new.self)) c.args.self.now (stage.Filter c.in-Filter.stage) c.in-Filter.is c.finish-in-Filter.ensures.owes

pub returns-in-Fetch-clause-price : goal.returns-in-Fetch-clause-price
returns-in-Fetch-clause-price c = of_kind (HasPrice (stage.Fetch c.finish-in-Fetch.new.self)) c.args.self.now (stage.Fetch c.in-Fetch.stage) c.in-Fetch.is c.finish-in-Fetch.ensures.price

pub returns-in-Fetch-clause-owes : goal.returns-in-Fetch-clause-owes
returns-in-Fetch-clause-owes c = of_kind (FinishesOwing (stage.Fetch c.finish-in-Fetch.new.self)) c.args.self.now (stage.Fetch c.in-Fetch.stage) c.in-Fetch.is c.finish-in-Fetch.ensures.owes

pub returns-in-Match-clause-price : goal.returns-in-Match-clause-price
returns-in-Match-clause-price c = of_kind (HasPrice (stage.Match c.finish-in-Match.new.self)) c.args.self.now (stage.Match c.in-Match.stage) c.in-Match.is c.finish-in-Match.ensures.price

pub returns-in-Match-clause-owes : goal.returns-in-Match-clause-owes
returns-in-Match-clause-owes c = of_kind (FinishesOwing (stage.Match c.finish-in-Match.new.self)) c.args.self.now (stage.Match c.in-Match.stage) c.in-Match.is c.finish-in-Match.ensures.owes

pub returns-in-SortBy-clause-price : goal.returns-in-SortBy-clause-price
returns-in-SortBy-clause-price c = of_kind (HasPrice (stage.SortBy c.finish-in-SortBy.new.self)) c.args.self.now (stage.SortBy c.in-SortBy.stage) c.in-SortBy.is c.finish-in-SortBy.ensures.price

pub returns-in-SortBy-clause-owes : goal.returns-in-SortBy-clause-owes
returns-in-SortBy-clause-owes c = of_kind (FinishesOwing (stage.SortBy c.finish-in-SortBy.new.self)) c.args.self.now (stage.SortBy c.in-SortBy.stage) c.in-SortBy.is c.finish-in-SortBy.ensures.owes

pub returns-in-SortNear-clause-price : goal.returns-in-SortNear-clause-price
returns-in-SortNear-clause-price c = of_kind (HasPrice (stage.SortNear c.finish-in-SortNear.new.self)) c.args.self.now
    (stage.SortNear c.in-SortNear.stage) c.in-SortNear.is c.finish-in-SortNear.ensures.price

pub returns-in-SortNear-clause-owes : goal.returns-in-SortNear-clause-owes
returns-in-SortNear-clause-owes c = of_kind (FinishesOwing (stage.SortNear c.finish-in-SortNear.new.self)) c.args.self.now
    (stage.SortNear c.in-SortNear.stage) c.in-SortNear.is c.finish-in-SortNear.ensures.owes
