-- what is beneath an operator can be opened too
use Rattle.std.proofs.Common.{sym, subst, ◌<◌}
use Rattle.statements.specs.declared.plan.Plan.{Plan}
use Rattle.plan_ops.specs.Openable.{IsOpenable}
use Rattle.plan_ops.proofs.Opened.{operators_in, over_shallower, open_beneath}
use Rattle.plan_ops.proofs.operators.+operator_of.Goals as goal

pub operator_of-requires : goal.operator_of-requires
operator_of-requires t c = (
  subst (λ n. operators_in c.deref.result.now < n) c.decreases
      (subst (λ (p : Plan). operators_in p < operators_in c.args.plan.now) (sym c.deref.ensures) (over_shallower c.in-Filter.inner c.args.plan.now c.in-Filter.is)),
  subst (λ (p : Plan). IsOpenable c.args.catalog.now p) (sym c.deref.ensures) (open_beneath c.args.catalog.now c.in-Filter.inner c.args.plan.now c.in-Filter.is c.requires),
)
