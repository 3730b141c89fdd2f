use Rattle.script_text.specs.Page.{with_pieces}
use Rattle.script_text.specs.Printing.{comma, value_words}
use Rattle.script_text.proofs.Pages.{more_on}
use Rattle.script_text.proofs.printer.Printer.more_values.Goals as goal

-- one more is written
pub values-preserved : goal.values-preserved
unfolding with_pieces
values-preserved c =
    more_on comma value_words c.values.self c.mark.new.self c.value.new.self _ c.args.values.now c.values.value-index c.value-item.result c.values-test.true c.value-item.is
    c.in_ok-mark.ensures c.in_ok-value.ensures c.values.invariant
