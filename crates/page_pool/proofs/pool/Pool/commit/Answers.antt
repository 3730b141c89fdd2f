use Rattle.std.proofs.Common.{◌≡◌, true, IsSome, sym, ap, subst}
use Rattle.page_pool.proofs.Whole.{open_is, whole-committed}
use Rattle.page_pool.proofs.pool.Pool.commit.Goals as goal

-- what was taken stays taken
pub invariant_of-self : goal.invariant_of-self
invariant_of-self g c =
    let opened : c.self.inside.is_open ≡ true = open_is c.self.inside.is_open c.self.inside.archive.pages (subst (λ s. IsSome s.beginning) (sym c.self.view_is) c.requires) in
    whole-committed c.self.inside.archive c.self.inside.staged.changes c.self.inside.frames c.self.inside.numbers c.settle.new.self c.self.inside.is_open opened
    (ap (λ s. s.top) c.settle.ensures) (ap (λ s. s.spare) c.settle.ensures) c.self.invariant
