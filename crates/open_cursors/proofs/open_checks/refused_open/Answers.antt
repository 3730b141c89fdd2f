-- the checks in their order
use Rattle.std.proofs.Common.{refl, sym, ◌∙◌, ap, true≢false}
use Rattle.std.specs.Prelude.{is_some}
use Rattle.std.specs.Result.{result_err}
use Rattle.std.specs.FinMap as map
use Rattle.page_pool.specs.Disk.{PageMap}
use Rattle.statements.specs.Plan.{plan_value}
use Rattle.plan_iterator.specs.Standing.{IsAt}
use Rattle.plan_iterator.specs.Rows.{counts_of}
use Rattle.sand_store.specs.Contents.{database_in}
use Rattle.open_cursors.proofs.NamedCursors.{first_shown, none_shown}
use Rattle.open_cursors.proofs.OpenNames.{stand_named}
use Rattle.open_cursors.specs.OpenCursors.{AtStamp}
use Rattle.statement_exec.proofs.PlanChecks.{operators_refuse, depth_refuses}
use Rattle.open_cursors.proofs.OpenChecks.{open_taken, open_unchecked, open_many, open_deep}
use Rattle.open_cursors.proofs.open_checks.refused_open.Goals as goal

pub returns-in-Some-clause-names : goal.returns-in-Some-clause-names
returns-in-Some-clause-names g c = λ pages cs all setting.
    open_taken (database_in pages c.args.catalog.now.relations) c.args.cursors.now cs c.args.name.now (plan_value c.args.plan.now) setting all c.in-Some._at
    (first_shown c.args.cursors.now c.args.cursors.now c.as_str.result.now c.args.name.now c.place_of.result c.in-Some._at c.place_of.ensures c.as_str.ensures refl c.in-Some.is)

pub returns-in-Err-clause-names : goal.returns-in-Err-clause-names
returns-in-Err-clause-names g c = λ pages cs all setting.
    open_unchecked (database_in pages c.args.catalog.now.relations) c.args.cursors.now cs c.args.name.now (plan_value c.args.plan.now) setting all
    (none_shown c.args.cursors.now c.args.cursors.now c.as_str.result.now c.args.name.now c.place_of.result c.place_of.ensures c.as_str.ensures refl c.in_default.is)
    c.in-Err.why (sym (c.check_operators.ensures c.requires pages) ∙ ap result_err c.in-Err.is)

pub returns-then-cursors-ge-MOST_CURSORS-clause-names : goal.returns-then-cursors-ge-MOST_CURSORS-clause-names
returns-then-cursors-ge-MOST_CURSORS-clause-names g c = λ pages cs all setting.
    open_many (database_in pages c.args.catalog.now.relations) c.args.cursors.now cs c.args.name.now (plan_value c.args.plan.now) setting all
    (none_shown c.args.cursors.now c.args.cursors.now c.as_str.result.now c.args.name.now c.place_of.result c.place_of.ensures c.as_str.ensures refl c.in_default.is)
    (sym (c.check_operators.ensures c.requires pages) ∙ ap result_err c.in_default-check_operators.is) c.if-cursors-ge-MOST_CURSORS.true

pub returns-in-Ok-clause-names : goal.returns-in-Ok-clause-names
returns-in-Ok-clause-names g c = λ pages cs all setting.
    open_deep (database_in pages c.args.catalog.now.relations) c.args.cursors.now cs c.args.name.now (plan_value c.args.plan.now) setting all
    (none_shown c.args.cursors.now c.args.cursors.now c.as_str.result.now c.args.name.now c.place_of.result c.place_of.ensures c.as_str.ensures refl c.in_default.is)
    (sym (c.check_operators.ensures c.requires pages) ∙ ap result_err c.in_default-check_operators.is) c.if-cursors-ge-MOST_CURSORS.false ∙ (sym c.check_depth.ensures ∙ ap result_err c.in-Ok.is)

pub returns-in-Err-check_depth-clause-names : goal.returns-in-Err-check_depth-clause-names
returns-in-Err-check_depth-clause-names g c = λ pages cs all setting.
    open_deep (database_in pages c.args.catalog.now.relations) c.args.cursors.now cs c.args.name.now (plan_value c.args.plan.now) setting all
    (none_shown c.args.cursors.now c.args.cursors.now c.as_str.result.now c.args.name.now c.place_of.result c.place_of.ensures c.as_str.ensures refl c.in_default.is)
    (sym (c.check_operators.ensures c.requires pages) ∙ ap result_err c.in_default-check_operators.is) c.if-cursors-ge-MOST_CURSORS.false
    ∙ (sym c.check_depth.ensures ∙ ap result_err c.in-Err-check_depth.is)

-- cursors that stand have the names
pub returns-in-Some-clause-checks : goal.returns-in-Some-clause-checks
returns-in-Some-clause-checks g c = λ stamps pages cs all. returns-in-Some-clause-names g c pages cs
    (stand_named (AtStamp (λ r. IsAt g.S.RowSource.At g.T.RowStage.Stands g.T.RowStage.closed (λ s. counts_of (g.S.RowSource.seen s)) r)) stamps c.args.cursors.now cs all)

pub returns-in-Err-clause-checks : goal.returns-in-Err-clause-checks
returns-in-Err-clause-checks g c = λ stamps pages cs all. returns-in-Err-clause-names g c pages cs
    (stand_named (AtStamp (λ r. IsAt g.S.RowSource.At g.T.RowStage.Stands g.T.RowStage.closed (λ s. counts_of (g.S.RowSource.seen s)) r)) stamps c.args.cursors.now cs all)

pub returns-then-cursors-ge-MOST_CURSORS-clause-checks : goal.returns-then-cursors-ge-MOST_CURSORS-clause-checks
returns-then-cursors-ge-MOST_CURSORS-clause-checks g c = λ stamps pages cs all. returns-then-cursors-ge-MOST_CURSORS-clause-names g c pages cs
    (stand_named (AtStamp (λ r. IsAt g.S.RowSource.At g.T.RowStage.Stands g.T.RowStage.closed (λ s. counts_of (g.S.RowSource.seen s)) r)) stamps c.args.cursors.now cs all)

pub returns-in-Ok-clause-checks : goal.returns-in-Ok-clause-checks
returns-in-Ok-clause-checks g c = λ stamps pages cs all. returns-in-Ok-clause-names g c pages cs
    (stand_named (AtStamp (λ r. IsAt g.S.RowSource.At g.T.RowStage.Stands g.T.RowStage.closed (λ s. counts_of (g.S.RowSource.seen s)) r)) stamps c.args.cursors.now cs all)

pub returns-in-Err-check_depth-clause-checks : goal.returns-in-Err-check_depth-clause-checks
returns-in-Err-check_depth-clause-checks g c = λ stamps pages cs all. returns-in-Err-check_depth-clause-names g c pages cs
    (stand_named (AtStamp (λ r. IsAt g.S.RowSource.At g.T.RowStage.Stands g.T.RowStage.closed (λ s. counts_of (g.S.RowSource.seen s)) r)) stamps c.args.cursors.now cs all)

pub returns-in-Err-clause-of_check : goal.returns-in-Err-clause-of_check
returns-in-Err-clause-of_check g c =
    let no_pages : PageMap = map.empty in
    operators_refuse (database_in no_pages c.args.catalog.now.relations) (plan_value c.args.plan.now) c.in-Err.why (sym (c.check_operators.ensures c.requires no_pages) ∙ ap result_err c.in-Err.is)

pub returns-in-Err-check_depth-clause-of_check : goal.returns-in-Err-check_depth-clause-of_check
returns-in-Err-check_depth-clause-of_check g c = depth_refuses (plan_value c.args.plan.now) c.in-Err-check_depth.why (sym c.check_depth.ensures ∙ ap result_err c.in-Err-check_depth.is)

-- where none is refused, the operators' checks pass
pub returns-in-Some-clause-openable : goal.returns-in-Some-clause-openable
returns-in-Some-clause-openable g c = λ none. absurd (true≢false (ap is_some none))

pub returns-in-Err-clause-openable : goal.returns-in-Err-clause-openable
returns-in-Err-clause-openable g c = λ none. absurd (true≢false (ap is_some none))

pub returns-then-cursors-ge-MOST_CURSORS-clause-openable : goal.returns-then-cursors-ge-MOST_CURSORS-clause-openable
returns-then-cursors-ge-MOST_CURSORS-clause-openable g c = λ none. absurd (true≢false (ap is_some none))

pub returns-in-Ok-clause-openable : goal.returns-in-Ok-clause-openable
returns-in-Ok-clause-openable g c = λ none pages. sym (c.check_operators.ensures c.requires pages) ∙ ap result_err c.in_default-check_operators.is

pub returns-in-Err-check_depth-clause-openable : goal.returns-in-Err-check_depth-clause-openable
returns-in-Err-check_depth-clause-openable g c = λ none. absurd (true≢false (ap is_some none))
