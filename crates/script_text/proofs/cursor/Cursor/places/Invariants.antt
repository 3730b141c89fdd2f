-- The items so far, and the list that is read behind them, are the list.
use Rattle.std.proofs.Common.{◌≡◌, length}
use Rattle.script_text.specs.Grammar.{reading}
use Rattle.script_text.specs.Reading.{gone_on}
use Rattle.script_text.specs.Rules.{places_form}
use Rattle.script_text.proofs.cursor.Cursor.places.Given as goal

abbrev pub invariant-places : goal.invariant-places
invariant-places l = gone_on l.items.items (reading places_form) l.self ≡ reading places_form l.fn.self

-- each item takes a token at least
abbrev pub decreases-places : goal.decreases-places
decreases-places l = length l.self.left
