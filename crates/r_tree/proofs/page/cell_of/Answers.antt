-- four words fill the cell
use Rattle.std.proofs.Common.{ℕ, arith, replicate}
use Rattle.std.proofs.lemmas.List.{length-replicate}
use Rattle.r_tree.proofs.Cells.{cell_back, cell_long}
use Rattle.r_tree.proofs.page.cell_of.Goals as goal

pub returns-clause-value : goal.returns-clause-value
returns-clause-value c = cell_back (replicate 32 0) c.put_word.new.page c.put_word-2.new.page c.put_word-3.new.page c.put_word-4.new.page c.args.p c.args.q c.args.mark c.args.child
    (length-replicate {A = ℕ} 32 0) (omega arith) (omega arith) (omega arith) (omega arith)
    c.put_word.ensures c.put_word-2.ensures c.put_word-3.ensures c.put_word-4.ensures

pub returns-clause-long : goal.returns-clause-long
returns-clause-long c = cell_long (replicate 32 0) c.put_word.new.page c.put_word-2.new.page c.put_word-3.new.page c.put_word-4.new.page c.args.p c.args.q c.args.mark c.args.child
    (length-replicate {A = ℕ} 32 0)
    c.put_word.ensures c.put_word-2.ensures c.put_word-3.ensures c.put_word-4.ensures
