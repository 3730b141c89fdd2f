use Rattle.std.proofs.Common.{◌≡◌, true, false, refl, Some}
use Rattle.page_pool.specs.Inside.{HasNumbersOf}
use Rattle.page_pool.proofs.Listed.{listed-again, listed-same}
use Rattle.page_pool.proofs.staged.Staged.overwrite.Goals as goal

-- the number has a change, before and after
pub invariant_of-self : goal.invariant_of-self
invariant_of-self c = (elim c.overwrite.result as (λ b. c.overwrite.result ≡ b → HasNumbersOf c.overwrite.new.self c.self.inside.numbers) [
  | true ↦ λ wrote. listed-again c.self.inside.numbers c.self.inside.table c.overwrite.new.self c.args.n (Some c.args.bytes.now) (c.overwrite.ensures.there wrote)
      (c.overwrite.ensures.written wrote) c.self.invariant
  | false ↦ λ kept. listed-same c.self.inside.numbers c.self.inside.numbers c.self.inside.table c.overwrite.new.self refl (c.overwrite.ensures.unchanged kept) c.self.invariant
]) refl
