use Rattle.std.specs.Prelude.{codes}
use Rattle.script_text.specs.Page.{with_pieces}
use Rattle.script_text.specs.Printing.{fixed, test_words}
use Rattle.script_text.proofs.Pages.{more_on}
use Rattle.script_text.proofs.printer.Printer.more_tests.Goals as goal

-- one more is written
pub tests-preserved : goal.tests-preserved
unfolding with_pieces
tests-preserved c =
    more_on (fixed (codes "and")) test_words c.tests.self c.name.new.self c.test.new.self _ c.args.tests.now c.tests.test-index c.test-item.result c.tests-test.true c.test-item.is
    c.in_ok-name.ensures c.in_ok-test.ensures c.tests.invariant
