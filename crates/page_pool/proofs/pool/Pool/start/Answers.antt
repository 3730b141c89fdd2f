use Rattle.std.proofs.Common.{ap, ◌∙◌}
use Rattle.page_pool.specs.Pool.{new_pool}
use Rattle.page_pool.proofs.Whole.{whole-new}
use Rattle.page_pool.proofs.Fresh.{new_state}
use Rattle.page_pool.proofs.pool.Pool.start.Goals as goal

pub invariant_of-result : goal.invariant_of-result
invariant_of-result g c =
    whole-new c.in-Ok.archive c.new-2.result.changes c.in-Ok-new.frames c.new-3.result
    c.in-Ok.ensures.whole c.in-Ok.ensures.begun (ap (λ s. s.changes) c.new-2.ensures) (ap (λ s. s.newest) c.in-Ok-new.ensures) (ap (λ s. s.past) c.in-Ok-new.ensures)
    (ap (λ s. s.top) c.new-3.ensures) (ap (λ s. s.spare) c.new-3.ensures)

pub returns-clause-begun : goal.returns-clause-begun
returns-clause-begun g c =
    new_state c.in-Ok.archive c.new-2.result c.in-Ok-new.frames c.new-3.result c.in-Ok.ensures.begun c.new-2.ensures (ap (λ s. s.count) c.in-Ok-new.ensures)
    (ap (λ s. s.top) c.new-3.ensures) (ap (λ s. s.spare) c.new-3.ensures)
    ∙ ap (λ s. new_pool c.in-Ok.archive.disk s.most) c.in-Ok-new.ensures
