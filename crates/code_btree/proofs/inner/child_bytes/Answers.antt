-- one child fills the cell
use Rattle.std.proofs.Common.{List, ℕ, ◌∙◌, ap, arith, replicate}
use Rattle.std.proofs.lemmas.List.{length-replicate}
use Rattle.code_btree.specs.Node.{children_in}
use Rattle.code_btree.proofs.Edits.{child_cell}
use Rattle.code_btree.proofs.inner.child_bytes.Goals as goal

pub returns : goal.returns
returns c = ap (λ (x : List ℕ). children_in x) c.put_word.ensures ∙ child_cell (replicate 8 0) c.args.child (length-replicate {A = ℕ} 8 0) (omega arith)
