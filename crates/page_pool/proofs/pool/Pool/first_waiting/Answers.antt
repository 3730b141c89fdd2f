use Rattle.std.proofs.Common.{◌⊎◌, ◌≡◌, ◌∙◌, IsTrue, IfNone, Some, None, ap, subst}
use Rattle.std.specs.FinMap as map
use Rattle.std.specs.FinSet as set
use Rattle.std.proofs.lemmas.Option.{IfSome_then}
use Rattle.page_pool.specs.Commands.{IsWritten}
use Rattle.page_pool.specs.Inside.{dirty_of, freed_of}
use Rattle.page_pool.proofs.Changes.{dirty-empty, freed-empty}
use Rattle.page_pool.proofs.WritesAdd.{waits_for, dirty_waits}
use Rattle.page_pool.proofs.pool.Pool.first_waiting.Goals as goal

pub returns-clause-found : goal.returns-clause-found
returns-clause-found g c = IfSome_then c.first.result c.first.ensures.found (λ n there.
    subst (λ s. IsTrue (set.contains s.dirty n) ⊎ IsTrue (set.contains s.freed n)) c.self.view_is (waits_for c.self.inside.staged.changes n there))

-- a dirty page has a staged change
pub returns-clause-least : goal.returns-clause-least
returns-clause-least g c = IfSome_then c.first.result c.first.ensures.least (λ n least q dirty.
    least q (dirty_waits c.self.inside.staged.changes q (ap (λ s. set.contains s.dirty q) c.self.view_is ∙ dirty)))

pub returns-clause-none : goal.returns-clause-none
returns-clause-none g c = (elim c.first.result as (λ r. IfNone r (c.self.inside.staged ≡ record { changes = map.empty; count = 0 }) → IfNone r (IsWritten c.args.self.now)) [
  | None ↦ λ none. subst IsWritten c.self.view_is record { dirty = ap (λ s. dirty_of s.changes) none ∙ dirty-empty; freed = ap (λ s. freed_of s.changes) none ∙ freed-empty }
  | Some n ↦ λ _. tt
]) c.first.ensures.none
