-- The items so far, and the list that is read behind them, are the list.
use Rattle.std.proofs.Common.{◌≡◌, length}
use Rattle.script_text.specs.Grammar.{reading}
use Rattle.script_text.specs.Reading.{gone_on}
use Rattle.script_text.specs.Rules.{values_form}
use Rattle.script_text.proofs.cursor.Cursor.values.Given as goal

abbrev pub invariant-values : goal.invariant-values
invariant-values l = gone_on l.items.items (reading values_form) l.self ≡ reading values_form l.fn.self

-- each item takes a token at least
abbrev pub decreases-values : goal.decreases-values
decreases-values l = length l.self.left
