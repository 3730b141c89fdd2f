use Rattle.std.proofs.Common.{◌≡◌, Some, true, IsSome, IfSome, sym, ap, subst, ◌∙◌}
use Rattle.std.specs.FinMap as map
use Rattle.page_pool.specs.Pool.{zero_page}
use Rattle.page_pool.specs.Inside.{IsWhole, TakesNumber, state_of}
use Rattle.page_pool.specs.Commands.{Allocates}
use Rattle.page_pool.proofs.Whole.{open_is, whole-taken}
use Rattle.page_pool.proofs.States.{allocates_state}
use Rattle.page_pool.proofs.pool.Pool.allocate.Goals as goal

-- the number that was to be given next is taken
pub invariant_of-self-2 : goal.invariant_of-self-2
invariant_of-self-2 g c =
    let opened : c.self.inside.is_open ≡ true = open_is c.self.inside.is_open c.self.inside.archive.pages (subst (λ s. IsSome s.beginning) (sym c.self.view_is) c.requires) in
    let takes : TakesNumber c.self.inside.numbers c.take.new.self c.in-Some.n = subst (λ o. IfSome o (TakesNumber c.self.inside.numbers c.take.new.self)) (sym c.in-Some.ensures) c.take.ensures in
    subst (λ changes. IsWhole c.self.inside.archive changes c.self.inside.frames c.take.new.self c.self.inside.is_open) (sym c.in_ok-insert.ensures.staged)
    (whole-taken c.self.inside.archive c.self.inside.staged.changes c.self.inside.frames c.self.inside.numbers c.take.new.self c.self.inside.is_open c.in-Some.n
    (Some c.in_ok-page.page) opened takes c.self.invariant)

pub returns-clause-allocated : goal.returns-clause-allocated
unfolding zero_page
returns-clause-allocated g c =
    let opened : c.self.inside.is_open ≡ true = open_is c.self.inside.is_open c.self.inside.archive.pages (subst (λ s. IsSome s.beginning) (sym c.self.view_is) c.requires) in
    let takes : TakesNumber c.self.inside.numbers c.take.new.self c.in-Some.n = subst (λ o. IfSome o (TakesNumber c.self.inside.numbers c.take.new.self)) (sym c.in-Some.ensures) c.take.ensures in
    subst (λ old. Allocates old (state_of c.self.inside.archive c.insert.new.self c.self.inside.frames c.take.new.self c.self.inside.is_open c.self.inside.gets c.self.inside.damages) c.in-Some.n) c.self.view_is
    (allocates_state c.self.inside.archive c.self.inside.staged c.insert.new.self c.self.inside.frames c.self.inside.numbers c.take.new.self c.self.inside.is_open c.self.inside.gets c.self.inside.damages c.in-Some.n opened
    (c.in_ok-insert.ensures.staged ∙ ap (λ page. map.insert c.self.inside.staged.changes c.in-Some.n (Some page)) c.in_ok-page.ensures)
    takes c.self.invariant)
