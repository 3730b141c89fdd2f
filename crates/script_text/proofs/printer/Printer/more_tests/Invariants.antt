-- what is written so far and what is left are all
use Rattle.std.proofs.Common.{◌≡◌, drop}
use Rattle.std.specs.Prelude.{codes}
use Rattle.script_text.specs.Page.{with_pieces}
use Rattle.script_text.specs.Printing.{more_words, fixed, test_words}
use Rattle.script_text.proofs.printer.Printer.more_tests.Given as goal

abbrev pub invariant-tests : goal.invariant-tests
invariant-tests l = with_pieces l.self (more_words (fixed (codes "and")) test_words (drop l.test-index l.tests)) ≡ with_pieces l.fn.self (more_words (fixed (codes "and")) test_words l.tests)
