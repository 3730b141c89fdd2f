use Rattle.std.proofs.Common.{ap, sym, ◌∙◌}
use Rattle.std.specs.FinMap as map
use Rattle.page_pool.proofs.Queued.{last_there, none_last, page_count}
use Rattle.page_pool.proofs.frames.Frames.last.Goals as goal

-- its page is there
pub returns-in-Some-clause-found : goal.returns-in-Some-clause-found
returns-in-Some-clause-found c =
    ap (λ s. map.contains_key s.pages c.in-Some.last.0.now) (sym c.self.view_is)
    ∙ last_there c.self.inside.table c.self.inside.queue (c.in-Some.last.0.now, c.in-Some.last.1.now) c.len-count.ensures.valid.0 c.in-Some.ensures c.self.invariant

pub returns-in-None-clause-none : goal.returns-in-None-clause-none
returns-in-None-clause-none c =
    ap (λ s. s.count) (sym c.self.view_is) ∙ page_count c.self.inside.table c.self.inside.queue c.len-count.ensures.valid.0 c.self.invariant
    ∙ none_last c.self.inside.queue.entries (sym c.in-None.ensures)
