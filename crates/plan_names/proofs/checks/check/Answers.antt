-- the operators are refused, or their number decides
use Rattle.std.proofs.lemmas.Result.{err_from_is_err_and}
use Rattle.plan_names.proofs.Refusals.{first_stops, second_decides}
use Rattle.plan_names.proofs.checks.check.Goals as goal

pub returns-in_err-check_operators : goal.returns-in_err-check_operators
returns-in_err-check_operators c = λ is_catalog pages.
    let p = err_from_is_err_and c.from_residual.result c.from_residual.ensures.1 in
    first_stops c.check_operators.result c.from_residual.result p.0 c.in_err-check_operators.field-0.0 _ _ c.in_err-check_operators.was p.1 p.2 (c.check_operators.ensures is_catalog pages)

pub returns : goal.returns
returns c = λ is_catalog pages.
    second_decides c.check_operators.result c.check_depth.result c.in_ok-check_operators.field-0 _ _ c.in_ok-check_operators.was (c.check_operators.ensures is_catalog pages) c.check_depth.ensures
