-- the first fails, or the second decides
use Rattle.std.proofs.lemmas.Result.{err_from_is_err_and}
use Rattle.plan_names.proofs.Refusals.{first_stops, second_decides}
use Rattle.plan_names.proofs.checks.check_both.Goals as goal

pub returns-in_err-check_column : goal.returns-in_err-check_column
returns-in_err-check_column c = λ is_catalog pages.
    let p = err_from_is_err_and c.from_residual.result c.from_residual.ensures.1 in
    first_stops c.check_column.result c.from_residual.result p.0 c.in_err-check_column.field-0.0 _ _ c.in_err-check_column.was p.1 p.2 (c.check_column.ensures is_catalog pages)

pub returns : goal.returns
returns c = λ is_catalog pages.
    second_decides c.check_column.result c.check_column-2.result c.in_ok-check_column.field-0 _ _ c.in_ok-check_column.was (c.check_column.ensures is_catalog pages)
    (c.check_column-2.ensures is_catalog pages)
