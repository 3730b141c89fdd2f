use Rattle.std.proofs.Common.{◌≡◌, ◌<◌, ◌≤◌, ap, ◌∙◌, arith}
use Rattle.std.specs.FinMap as map
use Rattle.page_pool.proofs.Maps.{fewer_left, no_more_left}
use Rattle.page_pool.proofs.Queued.{queue-removed}
use Rattle.page_pool.proofs.frames.Frames.forget.Goals as goal

-- the place leaves with the page
pub invariant_of-self : goal.invariant_of-self
invariant_of-self c = queue-removed c.self.inside.table c.take.new.self c.args.place c.self.inside.queue c.pop.new.self c.len-count.ensures.valid.0
    (ap (λ q. q.entries) c.pop.ensures.entries) c.take.ensures.left c.self.invariant

pub returns-clause-fewer : goal.returns-clause-fewer
returns-clause-fewer c = λ there.
    let less : map.len c.take.new.self < map.len c.self.inside.table =
    fewer_left c.self.inside.table c.take.new.self c.args.place (ap (λ s. map.contains_key s.pages c.args.place) c.self.view_is ∙ there) c.take.ensures.left in
    let count_is : map.len c.self.inside.table ≡ c.args.self.now.count = ap (λ s. s.count) c.self.view_is in omega arith

pub returns-clause-count : goal.returns-clause-count
returns-clause-count c =
    let less : map.len c.take.new.self ≤ map.len c.self.inside.table = no_more_left c.self.inside.table c.take.new.self c.args.place c.take.ensures.left in
    let count_is : map.len c.self.inside.table ≡ c.args.self.now.count = ap (λ s. s.count) c.self.view_is in omega arith
