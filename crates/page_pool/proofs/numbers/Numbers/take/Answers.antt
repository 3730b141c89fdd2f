use Rattle.std.proofs.Common.{subst, IfSome, take, ◌-◌}
use Rattle.page_pool.specs.Inside.{TakesNumber}
use Rattle.page_pool.proofs.Spare.{takes_last, numbers_of}
use Rattle.page_pool.proofs.numbers.Numbers.take.Goals as goal

-- the last of the numbers that are left is given
pub returns-then-self-gt0 : goal.returns-then-self-gt0
returns-then-self-gt0 c =
    subst (λ old. IfSome old.next (TakesNumber old
    (numbers_of (take (c.self.inside.left - 1) c.self.inside.free.items) c.self.inside.free.items c.self.inside.top c.self.inside.past_top))) c.self.view_is
    (takes_last c.self.inside.free.items c.self.inside.left c.self.inside.top c.self.inside.past_top c.if-self-gt0.true c.self.invariant.0 c.self.invariant.1)
