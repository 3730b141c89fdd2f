-- the number of operators, or the greatest number, is compared
use Rattle.statements.specs.Plan.{plan_value}
use Rattle.plan_names.proofs.Depths.{too_deep, not_deep}
use Rattle.plan_names.proofs.checks.check_depth.Goals as goal

pub returns-then-depth-gt-MOST_OPERATORS : goal.returns-then-depth-gt-MOST_OPERATORS
returns-then-depth-gt-MOST_OPERATORS c = too_deep (plan_value c.args.plan.now) c.depth.result c.depth.ensures c.if-depth-gt-MOST_OPERATORS.true

pub returns : goal.returns
returns c = not_deep (plan_value c.args.plan.now) c.depth.result c.depth.ensures c.if-depth-gt-MOST_OPERATORS.false
