-- The items so far, and the list that is read behind them, are the list.
use Rattle.std.proofs.Common.{◌≡◌, length}
use Rattle.script_text.specs.Grammar.{reading}
use Rattle.script_text.specs.Reading.{gone_on}
use Rattle.script_text.specs.Rules.{spots_form}
use Rattle.script_text.proofs.cursor.Cursor.spots.Given as goal

abbrev pub invariant-spots : goal.invariant-spots
invariant-spots l = gone_on l.items.items (reading spots_form) l.self ≡ reading spots_form l.fn.self

-- each item takes a token at least
abbrev pub decreases-spots : goal.decreases-spots
decreases-spots l = length l.self.left
