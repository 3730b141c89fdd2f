-- the first key is read where it stands
use Rattle.std.proofs.Common.{◌∙◌, ℕ, ap}
use Rattle.std.specs.Prelude.{Some}
use Rattle.code_btree.proofs.Evens.{first_read}
use Rattle.code_btree.proofs.remove.first_left.Goals as goal

pub returns-clause-first : goal.returns-clause-first
returns-clause-first c = λ is l z. ap (λ (x : ℕ). Some x) (c.entry_key_at.ensures ∙ first_read c.args.page.now c.args.count is l)
