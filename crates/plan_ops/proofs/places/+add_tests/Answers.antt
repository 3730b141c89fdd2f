-- the first test, and then the others
use Rattle.std.proofs.Common.{length, take, drop, ◌-◌, ◌<◌, subst}
use Rattle.sand_model.specs.Operators.{relations_of}
use Rattle.sand_store.specs.Contents.{database_in}
use Rattle.statements.specs.Plan.{plan_value}
use Rattle.plan_ops.proofs.Added.{rest_falls, first_and_rest, tests_added}
use Rattle.plan_ops.proofs.StagesStarted.{first_test, other_tests}
use Rattle.plan_ops.proofs.places.+add_tests.Goals as goal

pub spot_test-requires : goal.spot_test-requires
spot_test-requires t c = λ pages.
    let xs = c.args.tests.now in
    first_test (database_in pages c.args.catalog.now.relations) (relations_of (plan_value c.args.plan.now)) xs c.test-item.result (take (length xs - 1) (drop 1 xs))
    (first_and_rest xs c.test-item.result c.in-len1-up.len_at_least c.test-item.is) (c.requires pages)

pub add_tests-requires : goal.add_tests-requires
add_tests-requires t c =
    let xs = c.args.tests.now in (
      subst (λ n. length (take (length xs - 1) (drop 1 xs)) < n) c.decreases (rest_falls xs c.in-len1-up.len_at_least),
      λ pages. other_tests (database_in pages c.args.catalog.now.relations) (relations_of (plan_value c.args.plan.now)) xs c.test-item.result (take (length xs - 1) (drop 1 xs))
          (first_and_rest xs c.test-item.result c.in-len1-up.len_at_least c.test-item.is) (c.requires pages),
    )

pub returns-in_ok-add_tests-in-len1-up : goal.returns-in_ok-add_tests-in-len1-up
returns-in_ok-add_tests-in-len1-up t c = λ pages stands.
    let xs = c.args.tests.now in
    tests_added (database_in pages c.args.catalog.now.relations) (relations_of (plan_value c.args.plan.now)) pages xs c.test-item.result
    (take (length xs - 1) (drop 1 xs)) c.in_ok-spot_test-in-len1-up.field-0
    c.args.found.now.items c.push.new.self.items c.add_tests.new.found.items (first_and_rest xs c.test-item.result c.in-len1-up.len_at_least c.test-item.is)
    c.in_ok-push-in-len1-up.ensures.items (c.in_ok-spot_test-in-len1-up.ensures pages stands) (c.in_ok-add_tests-in-len1-up.ensures pages stands)
