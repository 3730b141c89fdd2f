use Rattle.std.proofs.Common.{sym, ap, ◌∙◌}
use mathlib.Core.Bool.{true≢false}
use Rattle.std.specs.FinMap as map
use Rattle.page_pool.proofs.Listed.{listed-none, staged-empty, none_of}
use Rattle.page_pool.proofs.staged.Staged.first.Goals as goal

pub returns-in-Some-clause-found : goal.returns-in-Some-clause-found
returns-in-Some-clause-found c = ap (λ s. map.contains_key s.changes c.in-Some.n.now) (sym c.self.view_is) ∙ sym (c.self.invariant c.in-Some.n.now) ∙ c.in-Some.ensures.member

pub returns-in-None-clause-none : goal.returns-in-None-clause-none
returns-in-None-clause-none c = sym c.self.view_is
    ∙ staged-empty c.self.inside.table (listed-none c.self.inside.numbers c.self.inside.table (none_of _ (λ some. true≢false (sym (c.in-None.ensures.variant.1 some)))) c.self.invariant)
