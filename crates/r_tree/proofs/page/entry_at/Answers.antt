-- the words read are those of the cell
use Rattle.std.proofs.Common.{◌+◌, ◌*◌, ◌∙◌, arith}
use Rattle.r_tree.proofs.Cells.{entry_read}
use Rattle.r_tree.proofs.page.entry_at.Goals as goal

pub returns : goal.returns
returns c = c.entry_from.ensures ∙ entry_read c.args.page.now (32 + 32 * c.args.i) c.word_at.result c.word_at-2.result c.word_at-3.result c.word_at-4.result
    (omega arith) c.word_at.ensures c.word_at-2.ensures c.word_at-3.ensures c.word_at-4.ensures
