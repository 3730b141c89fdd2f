-- zeros but for the kind
use Rattle.code_btree.proofs.Edits.{leaf_new}
use Rattle.code_btree.proofs.leaf.empty_leaf.Goals as goal

pub returns : goal.returns
returns c = leaf_new c.paste.new.page c.paste.ensures
