use Rattle.std.specs.Prelude.{codes}
use Rattle.script_text.specs.Printing.{fixed, test_words}
use Rattle.script_text.proofs.Pages.{list_on}
use Rattle.script_text.proofs.printer.Printer.tests.Goals as goal

-- the first one, and then the others
pub returns : goal.returns
returns c =
    list_on (fixed (codes "and")) test_words c.args.self.now c.test.new.self c.more_tests.new.self c.args.tests.now c.first-item.result c.in-len1-up.len_at_least c.first-item.is
    c.in_ok-test.ensures c.in_ok-more_tests.ensures
