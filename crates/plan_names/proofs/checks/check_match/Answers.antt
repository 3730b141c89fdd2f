-- the place fails, or the column decides
use Rattle.std.proofs.Common.{◌∙◌, ap, Option}
use Rattle.std.proofs.lemmas.Result.{err_from_is_err_and}
use Rattle.sand_base.specs.declared.kind.Kind.{Kind}
use Rattle.sand_model.specs.Checks.{check_column, is_plain_pair}
use Rattle.sand_store.specs.Contents.{database_in}
use Rattle.plan_names.proofs.Refusals.{first_stops, second_decides}
use Rattle.plan_names.proofs.checks.check_match.Goals as goal

pub returns-in_err-check_place : goal.returns-in_err-check_place
returns-in_err-check_place c = λ is_catalog pages.
    let p = err_from_is_err_and c.from_residual.result c.from_residual.ensures.1 in
    first_stops c.check_place.result c.from_residual.result p.0 c.in_err-check_place.field-0.0 _ _ c.in_err-check_place.was p.1 p.2 (c.check_place.ensures pages)

pub returns : goal.returns
returns c = λ is_catalog pages.
    second_decides c.check_place.result c.check_column.result c.in_ok-check_place.field-0 _ _ c.in_ok-check_place.was (c.check_place.ensures pages)
    (c.check_column.ensures is_catalog pages
    ∙ ap (λ (k : Option Kind). check_column (database_in pages c.args.catalog.now.relations) c.args.column.now (is_plain_pair k)) (c.place_kind.ensures pages))
