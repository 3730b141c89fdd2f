-- the first that is left fails, or passes
use Rattle.std.proofs.Common.{◌≡◌, ◌+◌, List, map, drop, None, refl, sym, ◌∙◌, ap}
use Rattle.std.proofs.lemmas.Result.{err_from_is_err_and}
use Rattle.std.specs.Result.{result_err}
use Rattle.sand_base.specs.declared.kind.Kind.{Kind}
use Rattle.sand_base.specs.Shape.{value_kind}
use Rattle.sand_model.specs.Checks.{check_place, check_tests}
use Rattle.sand_model.specs.Operators.{relations_of}
use Rattle.sand_store.specs.Contents.{database_in}
use Rattle.statements.specs.declared.test.Test.{Test}
use Rattle.plan_names.specs.Asked.{is_asked}
use Rattle.plan_names.specs.declared.asked.Asked.TheVariants as asked
use Rattle.statements.specs.Plan.{plan_value}
use Rattle.plan_names.proofs.Refusals.{first_stops, first_passes}
use Rattle.plan_names.proofs.Rests.{next_left, none_left}
use Rattle.plan_names.proofs.checks.check_tests.Goals as goal

pub tests-init : goal.tests-init
tests-init c = λ pages. refl

pub returns-in_err-check_place : goal.returns-in_err-check_place
returns-in_err-check_place c = λ pages.
    let d = database_in pages c.args.catalog.now.relations in
    let names = relations_of (plan_value c.args.plan.now) in
    let left = next_left c.args.tests.now c.tests.test-index c.test-item.result c.tests-test.true c.test-item.is in
    let p = err_from_is_err_and c.from_residual.result c.from_residual.ensures.1 in
    first_stops c.check_place.result c.from_residual.result p.0 c.in_err-check_place.field-0.0 _
    (check_tests d names (drop (c.tests.test-index + 1) c.args.tests.now)) c.in_err-check_place.was p.1 p.2
    (c.check_place.ensures pages ∙ ap (λ (k : Kind). check_place d names c.test-item.result.place (is_asked (asked.ComparedWith c.test-item.result.op k))) c.kind.ensures)
    ∙ (sym (ap (λ (xs : List Test). check_tests d names xs) left) ∙ c.tests.invariant pages)

pub tests-preserved : goal.tests-preserved
tests-preserved c = λ pages.
    let d = database_in pages c.args.catalog.now.relations in
    let names = relations_of (plan_value c.args.plan.now) in
    let left = next_left c.args.tests.now c.tests.test-index c.test-item.result c.tests-test.true c.test-item.is in
    let behind = check_tests d names (drop (c.tests.test-index + 1) c.args.tests.now) in
    let passed : None ≡ check_place d names c.test-item.result.place (is_asked (asked.ComparedWith c.test-item.result.op (value_kind c.test-item.result.value))) =
    sym (ap result_err c.in_ok-check_place.was)
    ∙ (c.check_place.ensures pages ∙ ap (λ (k : Kind). check_place d names c.test-item.result.place (is_asked (asked.ComparedWith c.test-item.result.op k))) c.kind.ensures) in
    first_passes _ behind behind passed refl ∙ (sym (ap (λ (xs : List Test). check_tests d names xs) left) ∙ c.tests.invariant pages)

pub returns : goal.returns
returns c = λ pages.
    let d = database_in pages c.args.catalog.now.relations in
    let names = relations_of (plan_value c.args.plan.now) in
    sym (ap (λ (xs : List Test). check_tests d names xs) (none_left c.args.tests.now c.tests.test-index c.tests-test.false)) ∙ c.tests.invariant pages
