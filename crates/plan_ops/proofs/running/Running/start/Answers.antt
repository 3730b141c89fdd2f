-- the operator has taken and given nothing
use Rattle.sand_store.specs.Contents.{database_in}
use Rattle.statements.specs.Plan.{plan_value}
use Rattle.plan_ops.proofs.running.Running.start.Goals as goal

pub returns : goal.returns
returns c = λ pages stands name.
    c.new.ensures.starts c.in_ok-operator.ensures.counts pages name (plan_value c.args.plan.now) (database_in pages c.args.catalog.now.relations) (c.in_ok-operator.ensures.begun pages stands)
