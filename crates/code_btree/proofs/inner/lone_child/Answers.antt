-- zeros but for the kind and the child
use Rattle.std.proofs.Common.{List, ℕ, ◌∙◌, ap, arith}
use Rattle.code_btree.specs.Bytes.{pasted, word_bytes}
use Rattle.code_btree.proofs.Edits.{inner_new}
use Rattle.code_btree.proofs.inner.lone_child.Goals as goal

pub returns : goal.returns
returns c = inner_new c.put_word.new.page c.args.child (c.put_word.ensures ∙ ap (λ (x : List ℕ). pasted x 2736 (word_bytes c.args.child)) c.paste.ensures) (omega arith)
