-- what is written so far and what is left are all
use Rattle.std.proofs.Common.{◌≡◌, drop}
use Rattle.script_text.specs.Page.{with_pieces}
use Rattle.script_text.specs.Printing.{more_words, comma, field_words}
use Rattle.script_text.proofs.printer.Printer.more_fields.Given as goal

abbrev pub invariant-columns : goal.invariant-columns
invariant-columns l = with_pieces l.self (more_words comma field_words (drop l.name-index l.columns)) ≡ with_pieces l.fn.self (more_words comma field_words l.columns)
