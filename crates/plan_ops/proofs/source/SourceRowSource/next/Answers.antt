-- By the kind of the source.
use Rattle.plan_ops.specs.declared.source.Source.TheVariants as source
use Rattle.plan_ops.proofs.SourceDispatch.{Ready, Stepped, HasHeights, HasStepPrice, Paid, of_kind, to_kind}
use Rattle.plan_ops.proofs.source.SourceRowSource.next.Goals as goal

pub next-requires : goal.next-requires
next-requires g c = record { stands = to_kind (Ready c.args.desk.now) c.args.self.now (source.Scan c.in-Scan.source) c.in-Scan.is c.requires.stands }

pub returns-in-Scan-clause-step : goal.returns-in-Scan-clause-step
returns-in-Scan-clause-step g c =
    of_kind (Stepped c.args.desk.now c.next.new.desk (source.Scan c.next.new.self) c.next.result) c.args.self.now (source.Scan c.in-Scan.source) c.in-Scan.is c.next.ensures.step

pub next-requires-in-PickEqual : goal.next-requires-in-PickEqual
next-requires-in-PickEqual g c = record { stands = to_kind (Ready c.args.desk.now) c.args.self.now (source.PickEqual c.in-PickEqual.source) c.in-PickEqual.is c.requires.stands }

pub returns-in-PickEqual-clause-step : goal.returns-in-PickEqual-clause-step
returns-in-PickEqual-clause-step g c =
    of_kind (Stepped c.args.desk.now c.next-in-PickEqual.new.desk (source.PickEqual c.next-in-PickEqual.new.self) c.next-in-PickEqual.result) c.args.self.now
    (source.PickEqual c.in-PickEqual.source) c.in-PickEqual.is c.next-in-PickEqual.ensures.step

pub next-requires-in-PickBetween : goal.next-requires-in-PickBetween
next-requires-in-PickBetween g c = record { stands = to_kind (Ready c.args.desk.now) c.args.self.now (source.PickBetween c.in-PickBetween.source) c.in-PickBetween.is c.requires.stands }

pub returns-in-PickBetween-clause-step : goal.returns-in-PickBetween-clause-step
returns-in-PickBetween-clause-step g c =
    of_kind (Stepped c.args.desk.now c.next-in-PickBetween.new.desk (source.PickBetween c.next-in-PickBetween.new.self) c.next-in-PickBetween.result) c.args.self.now
    (source.PickBetween c.in-PickBetween.source) c.in-PickBetween.is c.next-in-PickBetween.ensures.step

pub returns-in-Rank-clause-step : goal.returns-in-Rank-clause-step
returns-in-Rank-clause-step g c =
    of_kind (Stepped c.args.desk.now c.next-in-Rank.new.desk (source.Rank c.next-in-Rank.new.self) c.next-in-Rank.result) c.args.self.now
    (source.Rank c.in-Rank.source) c.in-Rank.is c.next-in-Rank.ensures.step

pub next-requires-in-Join : goal.next-requires-in-Join
next-requires-in-Join g c = record { stands = to_kind (Ready c.args.desk.now) c.args.self.now (source.Join c.in-Join.source) c.in-Join.is c.requires.stands }

pub returns-in-Join-clause-step : goal.returns-in-Join-clause-step
returns-in-Join-clause-step g c =
    of_kind (Stepped c.args.desk.now c.next-in-Join.new.desk (source.Join c.next-in-Join.new.self) c.next-in-Join.result) c.args.self.now
    (source.Join c.in-Join.source) c.in-Join.is c.next-in-Join.ensures.step

pub next-requires-in-Semi : goal.next-requires-in-Semi
next-requires-in-Semi g c = record { stands = to_kind (Ready c.args.desk.now) c.args.self.now (source.Semi c.in-Semi.source) c.in-Semi.is c.requires.stands }

pub next-requires-in-Knn : goal.next-requires-in-Knn
next-requires-in-Knn g c = record { stands = to_kind (Ready c.args.desk.now) c.args.self.now (source.Knn c.in-Knn.source) c.in-Knn.is c.requires.stands }

pub next-requires-in-Near : goal.next-requires-in-Near
next-requires-in-Near g c = record { stands = to_kind (Ready c.args.desk.now) c.args.self.now (source.Near c.in-Near.source) c.in-Near.is c.requires.stands }

pub returns-in-Semi-clause-step : goal.returns-in-Semi-clause-step
returns-in-Semi-clause-step g c =
    of_kind (Stepped c.args.desk.now c.next-in-Semi.new.desk (source.Semi c.next-in-Semi.new.self) c.next-in-Semi.result) c.args.self.now
    (source.Semi c.in-Semi.source) c.in-Semi.is c.next-in-Semi.ensures.step

-- ---- what a call costs

pub returns-in-Knn-clause-step : goal.returns-in-Knn-clause-step
returns-in-Knn-clause-step g c =
    of_kind (Stepped c.args.desk.now c.next-in-Knn.new.desk (source.Knn c.next-in-Knn.new.self) c.next-in-Knn.result) c.args.self.now
    (source.Knn c.in-Knn.source) c.in-Knn.is c.next-in-Knn.ensures.step

pub returns-in-Near-clause-step : goal.returns-in-Near-clause-step
returns-in-Near-clause-step g c =
    of_kind (Stepped c.args.desk.now c.next-in-Near.new.desk (source.Near c.next-in-Near.new.self) c.next-in-Near.result) c.args.self.now
    (source.Near c.in-Near.source) c.in-Near.is c.next-in-Near.ensures.step

-- ---- what a call costs

pub returns-in-Scan-clause-heights : goal.returns-in-Scan-clause-heights
returns-in-Scan-clause-heights g c = of_kind (HasHeights (source.Scan c.next.new.self)) c.args.self.now (source.Scan c.in-Scan.source) c.in-Scan.is c.next.ensures.heights

pub returns-in-Scan-clause-step_price : goal.returns-in-Scan-clause-step_price
returns-in-Scan-clause-step_price g c = of_kind (HasStepPrice (source.Scan c.next.new.self)) c.args.self.now (source.Scan c.in-Scan.source) c.in-Scan.is c.next.ensures.step_price

pub returns-in-Scan-clause-costs : goal.returns-in-Scan-clause-costs
returns-in-Scan-clause-costs g c = of_kind (Paid c.args.desk.now c.next.new.desk (source.Scan c.next.new.self) c.next.result) c.args.self.now
    (source.Scan c.in-Scan.source) c.in-Scan.is c.next.ensures.costs

pub returns-in-PickEqual-clause-heights : goal.returns-in-PickEqual-clause-heights
returns-in-PickEqual-clause-heights g c = of_kind (HasHeights (source.PickEqual c.next-in-PickEqual.new.self)) c.args.self.now
    (source.PickEqual c.in-PickEqual.source) c.in-PickEqual.is c.next-in-PickEqual.ensures.heights

pub returns-in-PickEqual-clause-step_price : goal.returns-in-PickEqual-clause-step_price
returns-in-PickEqual-clause-step_price g c = of_kind (HasStepPrice (source.PickEqual c.next-in-PickEqual.new.self)) c.args.self.now
    (source.PickEqual c.in-PickEqual.source) c.in-PickEqual.is c.next-in-PickEqual.ensures.step_price

pub returns-in-PickEqual-clause-costs : goal.returns-in-PickEqual-clause-costs
returns-in-PickEqual-clause-costs g c =
    of_kind (Paid c.args.desk.now c.next-in-PickEqual.new.desk (source.PickEqual c.next-in-PickEqual.new.self) c.next-in-PickEqual.result) c.args.self.now
    (source.PickEqual c.in-PickEqual.source) c.in-PickEqual.is c.next-in-PickEqual.ensures.costs

pub returns-in-PickBetween-clause-heights : goal.returns-in-PickBetween-clause-heights
returns-in-PickBetween-clause-heights g c = of_kind (HasHeights (source.PickBetween c.next-in-PickBetween.new.self)) c.args.self.now
    (source.PickBetween c.in-PickBetween.source) c.in-PickBetween.is c.next-in-PickBetween.ensures.heights

pub returns-in-PickBetween-clause-step_price : goal.returns-in-PickBetween-clause-step_price
returns-in-PickBetween-clause-step_price g c = of_kind (HasStepPrice (source.PickBetween c.next-in-PickBetween.new.self)) c.args.self.now
    (source.PickBetween c.in-PickBetween.source) c.in-PickBetween.is c.next-in-PickBetween.ensures.step_price

pub returns-in-PickBetween-clause-costs : goal.returns-in-PickBetween-clause-costs
returns-in-PickBetween-clause-costs g c =
    of_kind (Paid c.args.desk.now c.next-in-PickBetween.new.desk (source.PickBetween c.next-in-PickBetween.new.self) c.next-in-PickBetween.result) c.args.self.now
    (source.PickBetween c.in-PickBetween.source) c.in-PickBetween.is c.next-in-PickBetween.ensures.costs

pub returns-in-Rank-clause-heights : goal.returns-in-Rank-clause-heights
returns-in-Rank-clause-heights g c = of_kind (HasHeights (source.Rank c.next-in-Rank.new.self)) c.args.self.now (source.Rank c.in-Rank.source) c.in-Rank.is c.next-in-Rank.ensures.heights

pub returns-in-Rank-clause-step_price : goal.returns-in-Rank-clause-step_price
returns-in-Rank-clause-step_price g c = of_kind (HasStepPrice (source.Rank c.next-in-Rank.new.self)) c.args.self.now (source.Rank c.in-Rank.source) c.in-Rank.is c.next-in-Rank.ensures.step_price

pub returns-in-Rank-clause-costs : goal.returns-in-Rank-clause-costs
returns-in-Rank-clause-costs g c = of_kind (Paid c.args.desk.now c.next-in-Rank.new.desk (source.Rank c.next-in-Rank.new.self) c.next-in-Rank.result) c.args.self.now
    (source.Rank c.in-Rank.source) c.in-Rank.is c.next-in-Rank.ensures.costs

pub returns-in-Join-clause-heights : goal.returns-in-Join-clause-heights
returns-in-Join-clause-heights g c = of_kind (HasHeights (source.Join c.next-in-Join.new.self)) c.args.self.now (source.Join c.in-Join.source) c.in-Join.is c.next-in-Join.ensures.heights

pub returns-in-Join-clause-step_price : goal.returns-in-Join-clause-step_price
returns-in-Join-clause-step_price g c = of_kind (HasStepPrice (source.Join c.next-in-Join.new.self)) c.args.self.now (source.Join c.in-Join.source) c.in-Join.is c.next-in-Join.ensures.step_price

pub returns-in-Join-clause-costs : goal.returns-in-Join-clause-costs
returns-in-Join-clause-costs g c = of_kind (Paid c.args.desk.now c.next-in-Join.new.desk (source.Join c.next-in-Join.new.self) c.next-in-Join.result) c.args.self.now
    (source.Join c.in-Join.source) c.in-Join.is c.next-in-Join.ensures.costs

pub returns-in-Semi-clause-heights : goal.returns-in-Semi-clause-heights
returns-in-Semi-clause-heights g c = of_kind (HasHeights (source.Semi c.next-in-Semi.new.self)) c.args.self.now (source.Semi c.in-Semi.source) c.in-Semi.is c.next-in-Semi.ensures.heights

pub returns-in-Knn-clause-heights : goal.returns-in-Knn-clause-heights
returns-in-Knn-clause-heights g c = of_kind (HasHeights (source.Knn c.next-in-Knn.new.self)) c.args.self.now (source.Knn c.in-Knn.source) c.in-Knn.is c.next-in-Knn.ensures.heights

pub returns-in-Near-clause-heights : goal.returns-in-Near-clause-heights
returns-in-Near-clause-heights g c = of_kind (HasHeights (source.Near c.next-in-Near.new.self)) c.args.self.now (source.Near c.in-Near.source) c.in-Near.is c.next-in-Near.ensures.heights

pub returns-in-Semi-clause-step_price : goal.returns-in-Semi-clause-step_price
returns-in-Semi-clause-step_price g c = of_kind (HasStepPrice (source.Semi c.next-in-Semi.new.self)) c.args.self.now (source.Semi c.in-Semi.source) c.in-Semi.is c.next-in-Semi.ensures.step_price

pub returns-in-Knn-clause-step_price : goal.returns-in-Knn-clause-step_price
returns-in-Knn-clause-step_price g c = of_kind (HasStepPrice (source.Knn c.next-in-Knn.new.self)) c.args.self.now (source.Knn c.in-Knn.source) c.in-Knn.is c.next-in-Knn.ensures.step_price

pub returns-in-Near-clause-step_price : goal.returns-in-Near-clause-step_price
returns-in-Near-clause-step_price g c = of_kind (HasStepPrice (source.Near c.next-in-Near.new.self)) c.args.self.now (source.Near c.in-Near.source) c.in-Near.is c.next-in-Near.ensures.step_price

pub returns-in-Semi-clause-costs : goal.returns-in-Semi-clause-costs
returns-in-Semi-clause-costs g c = of_kind (Paid c.args.desk.now c.next-in-Semi.new.desk (source.Semi c.next-in-Semi.new.self) c.next-in-Semi.result) c.args.self.now
    (source.Semi c.in-Semi.source) c.in-Semi.is c.next-in-Semi.ensures.costs

pub returns-in-Knn-clause-costs : goal.returns-in-Knn-clause-costs
returns-in-Knn-clause-costs g c = of_kind (Paid c.args.desk.now c.next-in-Knn.new.desk (source.Knn c.next-in-Knn.new.self) c.next-in-Knn.result) c.args.self.now
    (source.Knn c.in-Knn.source) c.in-Knn.is c.next-in-Knn.ensures.costs

pub returns-in-Near-clause-costs : goal.returns-in-Near-clause-costs
returns-in-Near-clause-costs g c = of_kind (Paid c.args.desk.now c.next-in-Near.new.desk (source.Near c.next-in-Near.new.self) c.next-in-Near.result) c.args.self.now
    (source.Near c.in-Near.source) c.in-Near.is c.next-in-Near.ensures.costs
