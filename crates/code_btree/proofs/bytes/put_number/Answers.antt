-- the two halves stand side by side
use Rattle.std.proofs.Common.{ℕ, List, ◌+◌, ◌/◌, ◌%◌, ◌^◌, ◌∙◌, ap, arith}
use Rattle.code_btree.specs.Bytes.{number_bytes, word_bytes, pasted}
use Rattle.code_btree.proofs.Pieces.{pasted_twice}
use Rattle.code_btree.proofs.Numbers.{length-word_bytes}
use Rattle.code_btree.proofs.bytes.put_number.Goals as goal

pub returns : goal.returns
unfolding number_bytes
returns c =
    let l = length-word_bytes (c.args.number / 2 ^ 64) in
    let m = length-word_bytes (c.args.number % 2 ^ 64) in
    c.put_word-2.ensures
    ∙ (ap (λ (x : List ℕ). pasted x (c.args.at + 8) (word_bytes (c.args.number % 2 ^ 64))) c.put_word.ensures
    ∙ (ap (λ (n : ℕ). pasted (pasted c.args.page.now c.args.at (word_bytes (c.args.number / 2 ^ 64))) (c.args.at + n) (word_bytes (c.args.number % 2 ^ 64))) (omega arith)
    ∙ pasted_twice c.args.page.now c.args.at (word_bytes (c.args.number / 2 ^ 64)) (word_bytes (c.args.number % 2 ^ 64)) (omega arith)))
