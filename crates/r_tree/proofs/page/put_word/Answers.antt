-- what is pasted is the number's bytes
use Rattle.std.proofs.Common.{List, ℕ, ap, ◌∙◌}
use Rattle.code_btree.specs.Bytes.{pasted, word_bytes}
use Rattle.r_tree.proofs.page.put_word.Goals as goal

pub returns : goal.returns
unfolding word_bytes
returns c = c.paste.ensures ∙ ap (λ (b : List ℕ). pasted c.args.page.now c.args.at b) c.to_be_bytes.ensures
