-- one operator less each time
use Rattle.statements.specs.Plan.{plan_value, depth}
use Rattle.plan_ops.proofs.operators.+operator_of.Given as goal

abbrev pub decreases-operator_of : goal.decreases-operator_of
decreases-operator_of l = depth (plan_value l.plan.now)
