-- a key and a value fill the cell
use Rattle.std.proofs.Common.{List, ℕ, ◌∙◌, ap, arith, replicate}
use Rattle.std.proofs.lemmas.List.{length-replicate}
use Rattle.code_btree.specs.Bytes.{pasted, number_bytes}
use Rattle.code_btree.specs.Node.{entries_in}
use Rattle.code_btree.proofs.Edits.{entry_cell}
use Rattle.code_btree.proofs.leaf.entry_bytes.Goals as goal

pub returns : goal.returns
returns c = ap (λ (x : List ℕ). entries_in x) (c.put_number-2.ensures ∙ ap (λ (x : List ℕ). pasted x 16 (number_bytes c.args.value)) c.put_number.ensures)
    ∙ entry_cell (replicate 32 0) c.args.key c.args.value (length-replicate {A = ℕ} 32 0) (omega arith) (omega arith)
