use Rattle.script_text.specs.Printing.{comma, value_words}
use Rattle.script_text.proofs.Pages.{list_on}
use Rattle.script_text.proofs.printer.Printer.values.Goals as goal

-- the first one, and then the others
pub returns : goal.returns
returns c =
    list_on comma value_words c.args.self.now c.value.new.self c.more_values.new.self c.args.values.now c.first-item.result c.in-len1-up.len_at_least c.first-item.is
    c.in_ok-value.ensures c.in_ok-more_values.ensures
