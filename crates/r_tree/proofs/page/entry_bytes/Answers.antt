-- the numbers of the entry are those of the bytes
use Rattle.std.proofs.Common.{◌∙◌}
use Rattle.r_tree.proofs.page.entry_bytes.Goals as goal

pub returns-clause-value : goal.returns-clause-value
returns-clause-value c = c.cell_of.ensures.value ∙ c.marks_of-p.ensures c.args.entry.child
