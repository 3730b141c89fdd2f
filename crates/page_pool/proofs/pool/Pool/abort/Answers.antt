use Rattle.std.proofs.Common.{◌≡◌, true, false, IsSome, sym, ap, subst}
use Rattle.page_pool.specs.Inside.{state_of}
use Rattle.page_pool.proofs.Whole.{open_is, whole-aborted}
use Rattle.page_pool.specs.Commands.{Aborts}
use Rattle.page_pool.proofs.States.{aborts_state}
use Rattle.page_pool.proofs.pool.Pool.abort.Goals as goal

pub returns : goal.returns
returns g c =
    let opened : c.self.inside.is_open ≡ true = open_is c.self.inside.is_open c.self.inside.archive.pages (subst (λ s. IsSome s.beginning) (sym c.self.view_is) c.requires) in
    subst (λ old. Aborts old (state_of c.self.inside.archive c.clear.new.self c.self.inside.frames c.restore.new.self false c.self.inside.gets c.self.inside.damages)) c.self.view_is
    (aborts_state c.self.inside.archive c.self.inside.staged c.clear.new.self c.self.inside.frames c.self.inside.numbers c.restore.new.self c.self.inside.is_open c.self.inside.gets c.self.inside.damages opened c.self.invariant (ap (λ s. s.changes) c.clear.ensures))

-- the beginning's books are taken up again
pub invariant_of-self : goal.invariant_of-self
invariant_of-self g c =
    let opened : c.self.inside.is_open ≡ true = open_is c.self.inside.is_open c.self.inside.archive.pages (subst (λ s. IsSome s.beginning) (sym c.self.view_is) c.requires) in
    whole-aborted c.self.inside.archive c.self.inside.staged.changes c.clear.new.self.changes c.self.inside.frames c.self.inside.numbers c.restore.new.self c.self.inside.is_open
    opened (ap (λ s. s.changes) c.clear.ensures) c.restore.ensures.top c.restore.ensures.spare c.self.invariant
