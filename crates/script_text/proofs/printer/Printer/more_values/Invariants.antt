-- what is written so far and what is left are all
use Rattle.std.proofs.Common.{◌≡◌, drop}
use Rattle.script_text.specs.Page.{with_pieces}
use Rattle.script_text.specs.Printing.{more_words, comma, value_words}
use Rattle.script_text.proofs.printer.Printer.more_values.Given as goal

abbrev pub invariant-values : goal.invariant-values
invariant-values l = with_pieces l.self (more_words comma value_words (drop l.value-index l.values)) ≡ with_pieces l.fn.self (more_words comma value_words l.values)
