use Rattle.std.proofs.Common.{◌≡◌, sym, ap, ◌∙◌, arith}
use Rattle.std.specs.FinMap as map
use Rattle.page_pool.proofs.Queued.{page_count}
use Rattle.page_pool.proofs.frames.Frames.count.Goals as goal

-- as many places are queued
pub returns-clause-count : goal.returns-clause-count
returns-clause-count c = c.len.ensures.len ∙ sym (page_count c.self.inside.table c.self.inside.queue c.len.ensures.valid.0 c.self.invariant) ∙ ap (λ s. s.count) c.self.view_is

pub returns-clause-few : goal.returns-clause-few
returns-clause-few c =
    let size = page_count c.self.inside.table c.self.inside.queue c.len.ensures.valid.0 c.self.invariant in
    let fits = c.len.ensures.valid.1 in
    let count_is : map.len c.self.inside.table ≡ c.args.self.now.count = ap (λ s. s.count) c.self.view_is in
    let most_is : c.self.inside.queue.cap ≡ c.args.self.now.most = ap (λ s. s.most) c.self.view_is in omega arith
