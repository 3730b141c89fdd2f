-- what is written so far and what is left are all
use Rattle.std.proofs.Common.{◌≡◌, drop}
use Rattle.script_text.specs.Page.{with_pieces}
use Rattle.script_text.specs.Printing.{each, spot_words}
use Rattle.script_text.proofs.printer.Printer.spots.Given as goal

abbrev pub invariant-spots : goal.invariant-spots
invariant-spots l = with_pieces l.self (each spot_words (drop l.spot-index l.spots)) ≡ with_pieces l.fn.self (each spot_words l.spots)
