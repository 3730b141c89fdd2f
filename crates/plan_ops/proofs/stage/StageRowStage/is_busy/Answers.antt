-- By the kind of the stage.
use Rattle.plan_ops.specs.declared.stage.Stage.TheVariants as stage
use Rattle.plan_ops.proofs.StageDispatch.{Dry, of_kind}
use Rattle.plan_ops.proofs.stage.StageRowStage.is_busy.Goals as goal

pub returns-in-First-clause-dry : goal.returns-in-First-clause-dry
returns-in-First-clause-dry c free = of_kind Dry c.args.self.now (stage.First c.in-First.stage) c.in-First.is (c.is_busy.ensures.dry free)

pub returns-in-Filter-clause-dry : goal.returns-in-Filter-clause-dry
returns-in-Filter-clause-dry c free = of_kind Dry c.args.self.now (stage.Filter c.in-Filter.stage) c.in-Filter.is (c.is_busy-in-Filter.ensures.dry free)

pub returns-in-Fetch-clause-dry : goal.returns-in-Fetch-clause-dry
returns-in-Fetch-clause-dry c free = of_kind Dry c.args.self.now (stage.Fetch c.in-Fetch.stage) c.in-Fetch.is (c.is_busy-in-Fetch.ensures.dry free)

pub returns-in-Match-clause-dry : goal.returns-in-Match-clause-dry
returns-in-Match-clause-dry c free = of_kind Dry c.args.self.now (stage.Match c.in-Match.stage) c.in-Match.is (c.is_busy-in-Match.ensures.dry free)

pub returns-in-SortBy-clause-dry : goal.returns-in-SortBy-clause-dry
returns-in-SortBy-clause-dry c free = of_kind Dry c.args.self.now (stage.SortBy c.in-SortBy.stage) c.in-SortBy.is (c.is_busy-in-SortBy.ensures.dry free)

pub returns-in-SortNear-clause-dry : goal.returns-in-SortNear-clause-dry
returns-in-SortNear-clause-dry c free = of_kind Dry c.args.self.now (stage.SortNear c.in-SortNear.stage) c.in-SortNear.is (c.is_busy-in-SortNear.ensures.dry free)
