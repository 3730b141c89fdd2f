-- one key fills the cell
use Rattle.std.proofs.Common.{List, ℕ, ◌∙◌, ap, arith, replicate}
use Rattle.std.proofs.lemmas.List.{length-replicate}
use Rattle.code_btree.specs.Node.{keys_in}
use Rattle.code_btree.proofs.Edits.{key_cell}
use Rattle.code_btree.proofs.inner.key_bytes.Goals as goal

pub returns : goal.returns
returns c = ap (λ (x : List ℕ). keys_in x) c.put_number.ensures ∙ key_cell (replicate 16 0) c.args.key (length-replicate {A = ℕ} 16 0) (omega arith)
