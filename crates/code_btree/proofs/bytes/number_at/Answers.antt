-- a number is its two halves
use Rattle.std.proofs.Common.{◌+◌, ◌*◌, ◌^◌, ap₂, ℕ, ◌∙◌}
use Rattle.code_btree.proofs.Numbers.{number_read}
use Rattle.code_btree.proofs.bytes.number_at.Goals as goal

pub returns : goal.returns
returns c = ap₂ (λ (a b : ℕ). a * 2 ^ 64 + b) (c.from.ensures ∙ c.word_at-high.ensures) (c.from-2.ensures ∙ c.word_at-low.ensures) ∙ number_read c.args.at c.args.bytes.now
