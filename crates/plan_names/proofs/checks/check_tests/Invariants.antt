-- those before passed, so those that are left decide
use Rattle.std.proofs.Common.{◌≡◌, map, drop}
use Rattle.page_pool.specs.Disk.{PageMap}
use Rattle.sand_model.specs.Checks.{check_tests}
use Rattle.sand_model.specs.Operators.{relations_of}
use Rattle.sand_store.specs.Contents.{database_in}
use Rattle.statements.specs.Plan.{plan_value}
use Rattle.plan_names.proofs.checks.check_tests.Given as goal

abbrev pub invariant-tests : goal.invariant-tests
invariant-tests l = (pages : PageMap)
    → check_tests (database_in pages l.catalog.relations) (relations_of (plan_value l.plan)) (drop l.test-index l.tests)
    ≡ check_tests (database_in pages l.catalog.relations) (relations_of (plan_value l.plan)) l.tests
