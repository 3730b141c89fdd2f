-- The items so far, and the list that is read behind them, are the list.
use Rattle.std.proofs.Common.{◌≡◌, length}
use Rattle.script_text.specs.Grammar.{reading}
use Rattle.script_text.specs.Reading.{gone_on}
use Rattle.script_text.specs.Rules.{tests_form}
use Rattle.script_text.proofs.cursor.Cursor.tests.Given as goal

abbrev pub invariant-tests : goal.invariant-tests
invariant-tests l = gone_on l.items.items (reading tests_form) l.self ≡ reading tests_form l.fn.self

-- each item takes a token at least
abbrev pub decreases-tests : goal.decreases-tests
decreases-tests l = length l.self.left
