-- what is written so far and what is left are all
use Rattle.std.proofs.Common.{◌≡◌, drop}
use Rattle.script_text.specs.Page.{with_pieces}
use Rattle.script_text.specs.Printing.{more_words, comma, place_words}
use Rattle.script_text.proofs.printer.Printer.more_places.Given as goal

abbrev pub invariant-places : goal.invariant-places
invariant-places l = with_pieces l.self (more_words comma place_words (drop l.place-index l.places)) ≡ with_pieces l.fn.self (more_words comma place_words l.places)
