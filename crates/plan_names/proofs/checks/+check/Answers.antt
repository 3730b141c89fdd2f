-- those beneath it fail, or its own decide
use Rattle.std.proofs.Common.{◌∙◌, ap}
use Rattle.std.proofs.lemmas.Result.{err_from_is_err_and}
use Rattle.statements.specs.declared.plan.Plan.{Plan}
use Rattle.sand_model.specs.Checks.{check_operators}
use Rattle.sand_store.specs.Contents.{database_in}
use Rattle.plan_names.specs.OperatorCheck.{check_operator}
use Rattle.statements.specs.Plan.{plan_value}
use Rattle.plan_names.proofs.Refusals.{first_stops, second_decides}
use Rattle.plan_names.proofs.Operators.{over_inner, source_alone}
use Rattle.plan_names.proofs.checks.+check.Goals as goal

pub returns-in_err-check_operators-in-Filter : goal.returns-in_err-check_operators-in-Filter
returns-in_err-check_operators-in-Filter t c = λ is_catalog pages.
    let d = database_in pages c.args.catalog.now.relations in
    let p = err_from_is_err_and c.from_residual.result c.from_residual.ensures.1 in
    let inner = c.check_operators.ensures is_catalog pages ∙ ap (λ (p : Plan). check_operators d (plan_value p)) c.deref.ensures in
    first_stops c.check_operators.result c.from_residual.result p.0 c.in_err-check_operators-in-Filter.field-0.0 _ (check_operator d (plan_value c.args.plan.now))
    c.in_err-check_operators-in-Filter.was p.1 p.2 inner
    ∙ over_inner d c.in-Filter.inner c.args.plan.now c.in-Filter.is

pub returns-in-Scan : goal.returns-in-Scan
returns-in-Scan t c = λ is_catalog pages.
    c.check_operator.ensures is_catalog pages ∙ source_alone (database_in pages c.args.catalog.now.relations) c.args.plan.now c.in-Scan.is

pub returns-in_ok-check_operators-in-Filter : goal.returns-in_ok-check_operators-in-Filter
returns-in_ok-check_operators-in-Filter t c = λ is_catalog pages.
    let d = database_in pages c.args.catalog.now.relations in
    let inner = c.check_operators.ensures is_catalog pages ∙ ap (λ (p : Plan). check_operators d (plan_value p)) c.deref.ensures in
    second_decides c.check_operators.result c.check_operator-in-Filter.result c.in_ok-check_operators-in-Filter.field-0 _ _ c.in_ok-check_operators-in-Filter.was inner
    (c.check_operator-in-Filter.ensures is_catalog pages)
    ∙ over_inner d c.in-Filter.inner c.args.plan.now c.in-Filter.is
