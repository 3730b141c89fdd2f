-- The items so far, and the list that is read behind them, are the list.
use Rattle.std.proofs.Common.{◌≡◌, length}
use Rattle.script_text.specs.Grammar.{reading}
use Rattle.script_text.specs.Reading.{gone_on}
use Rattle.script_text.specs.Rules.{columns_form}
use Rattle.script_text.proofs.cursor.Cursor.columns.Given as goal

abbrev pub invariant-columns : goal.invariant-columns
invariant-columns l = gone_on l.items.items (reading columns_form) l.self ≡ reading columns_form l.fn.self

-- each item takes a token at least
abbrev pub decreases-columns : goal.decreases-columns
decreases-columns l = length l.self.left
