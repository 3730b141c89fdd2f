-- bytes 8 to 15 are the next leaf
use Rattle.std.proofs.Common.{◌∙◌, sym}
use Rattle.code_btree.proofs.Nodes.{next_read}
use Rattle.code_btree.proofs.leaf.next_at.Goals as goal

pub returns : goal.returns
returns c = λ h. c.word_at.ensures ∙ sym (next_read c.args.page.now h)
