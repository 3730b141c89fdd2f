-- By the kind of the stage.
use Rattle.plan_ops.specs.declared.stage.Stage.TheVariants as stage
use Rattle.plan_ops.proofs.StageDispatch.{HasPrice, HoldsOwing, Holds, HoldsFalling, of_kind}
use Rattle.plan_ops.proofs.stage.StageRowStage.hold.Goals as goal

pub returns-in-First-clause-stands : goal.returns-in-First-clause-stands
returns-in-First-clause-stands c =
    of_kind (Holds (stage.First c.hold.new.self) c.args.row) c.args.self.now (stage.First c.in-First.stage) c.in-First.is c.hold.ensures.stands

pub returns-in-Filter-clause-stands : goal.returns-in-Filter-clause-stands
returns-in-Filter-clause-stands c =
    of_kind (Holds (stage.Filter c.hold-in-Filter.new.self) c.args.row) c.args.self.now (stage.Filter c.in-Filter.stage) c.in-Filter.is c.hold-in-Filter.ensures.stands

pub returns-in-Fetch-clause-stands : goal.returns-in-Fetch-clause-stands
returns-in-Fetch-clause-stands c =
    of_kind (Holds (stage.Fetch c.hold-in-Fetch.new.self) c.args.row) c.args.self.now (stage.Fetch c.in-Fetch.stage) c.in-Fetch.is c.hold-in-Fetch.ensures.stands

pub returns-in-Match-clause-stands : goal.returns-in-Match-clause-stands
returns-in-Match-clause-stands c =
    of_kind (Holds (stage.Match c.hold-in-Match.new.self) c.args.row) c.args.self.now (stage.Match c.in-Match.stage) c.in-Match.is c.hold-in-Match.ensures.stands

pub returns-in-SortBy-clause-stands : goal.returns-in-SortBy-clause-stands
returns-in-SortBy-clause-stands c =
    of_kind (Holds (stage.SortBy c.hold-in-SortBy.new.self) c.args.row) c.args.self.now (stage.SortBy c.in-SortBy.stage) c.in-SortBy.is c.hold-in-SortBy.ensures.stands

pub returns-in-SortNear-clause-stands : goal.returns-in-SortNear-clause-stands
returns-in-SortNear-clause-stands c =
    of_kind (Holds (stage.SortNear c.hold-in-SortNear.new.self) c.args.row) c.args.self.now (stage.SortNear c.in-SortNear.stage) c.in-SortNear.is c.hold-in-SortNear.ensures.stands

pub returns-in-SortBy-clause-falls : goal.returns-in-SortBy-clause-falls
returns-in-SortBy-clause-falls c =
    of_kind (HoldsFalling (stage.SortBy c.hold-in-SortBy.new.self)) c.args.self.now (stage.SortBy c.in-SortBy.stage) c.in-SortBy.is c.hold-in-SortBy.ensures.falls

pub returns-in-SortNear-clause-falls : goal.returns-in-SortNear-clause-falls
returns-in-SortNear-clause-falls c =
    of_kind (HoldsFalling (stage.SortNear c.hold-in-SortNear.new.self)) c.args.self.now (stage.SortNear c.in-SortNear.stage) c.in-SortNear.is c.hold-in-SortNear.ensures.falls

-- ---- what it costs

pub returns-in-First-clause-price : goal.returns-in-First-clause-price
returns-in-First-clause-price c = of_kind (HasPrice (stage.First c.hold.new.self)) c.args.self.now (stage.First c.in-First.stage) c.in-First.is c.hold.ensures.price

pub returns-in-First-clause-owes : goal.returns-in-First-clause-owes
returns-in-First-clause-owes c = of_kind (HoldsOwing (stage.First c.hold.new.self) c.args.row) c.args.self.now (stage.First c.in-First.stage) c.in-First.is c.hold.ensures.owes

pub returns-in-Filter-clause-price : goal.returns-in-Filter-clause-price
returns-in-Filter-clause-price c = of_kind (HasPrice (stage.Filter c.hold-in-Filter.new.self)) c.args.self.now (stage.Filter c.in-Filter.stage) c.in-Filter.is c.hold-in-Filter.ensures.price

pub returns-in-Filter-clause-owes : goal.returns-in-Filter-clause-owes
returns-in-Filter-clause-owes c = of_kind (HoldsOwing (stage.Filter c.hold-in-Filter.new.self) c.args.row) c.args.self.now (stage.Filter c.in-Filter.stage) c.in-Filter.is c.hold-in-Filter.ensures.owes

pub returns-in-Fetch-clause-price : goal.returns-in-Fetch-clause-price
returns-in-Fetch-clause-price c = of_kind (HasPrice (stage.Fetch c.hold-in-Fetch.new.self)) c.args.self.now (stage.Fetch c.in-Fetch.stage) c.in-Fetch.is c.hold-in-Fetch.ensures.price

pub returns-in-Fetch-clause-owes : goal.returns-in-Fetch-clause-owes
returns-in-Fetch-clause-owes c = of_kind (HoldsOwing (stage.Fetch c.hold-in-Fetch.new.self) c.args.row) c.args.self.now (stage.Fetch c.in-Fetch.stage) c.in-Fetch.is c.hold-in-Fetch.ensures.owes

pub returns-in-Match-clause-price : goal.returns-in-Match-clause-price
returns-in-Match-clause-price c = of_kind (HasPrice (stage.Match c.hold-in-Match.new.self)) c.args.self.now (stage.Match c.in-Match.stage) c.in-Match.is c.hold-in-Match.ensures.price

pub returns-in-Match-clause-owes : goal.returns-in-Match-clause-owes
returns-in-Match-clause-owes c = of_kind (HoldsOwing (stage.Match c.hold-in-Match.new.self) c.args.row) c.args.self.now (stage.Match c.in-Match.stage) c.in-Match.is c.hold-in-Match.ensures.owes

pub returns-in-SortBy-clause-price : goal.returns-in-SortBy-clause-price
returns-in-SortBy-clause-price c = of_kind (HasPrice (stage.SortBy c.hold-in-SortBy.new.self)) c.args.self.now (stage.SortBy c.in-SortBy.stage) c.in-SortBy.is c.hold-in-SortBy.ensures.price

pub returns-in-SortBy-clause-owes : goal.returns-in-SortBy-clause-owes
returns-in-SortBy-clause-owes c = of_kind (HoldsOwing (stage.SortBy c.hold-in-SortBy.new.self) c.args.row) c.args.self.now (stage.SortBy c.in-SortBy.stage) c.in-SortBy.is c.hold-in-SortBy.ensures.owes

pub returns-in-SortNear-clause-price : goal.returns-in-SortNear-clause-price
returns-in-SortNear-clause-price c = of_kind (HasPrice (stage.SortNear c.hold-in-SortNear.new.self)) c.args.self.now
    (stage.SortNear c.in-SortNear.stage) c.in-SortNear.is c.hold-in-SortNear.ensures.price

pub returns-in-SortNear-clause-owes : goal.returns-in-SortNear-clause-owes
returns-in-SortNear-clause-owes c = of_kind (HoldsOwing (stage.SortNear c.hold-in-SortNear.new.self) c.args.row) c.args.self.now
    (stage.SortNear c.in-SortNear.stage) c.in-SortNear.is c.hold-in-SortNear.ensures.owes
