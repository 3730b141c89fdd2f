-- The search is over the column, has given nothing, and stands over all pages in which the catalog stands.
use Rattle.std.specs.Ordering.{nat_cmp, ordering_then}
use Rattle.far_cursor.proofs.FarBegun.{begun_far}
use Rattle.far_cursor.proofs.far.Far.start.Goals as goal

pub returns-in-Ok-start-clause-begun : goal.returns-in-Ok-start-clause-begun
returns-in-Ok-start-clause-begun c = λ pages.
    let found = c.in_ok-found.found in
    let over = c.over-tree in
    let s = c.in-Ok-start.search in
    let h = c.in-Ok-start.ensures in
    begun_far c.args.catalog.now (record { relation = c.args.relation.now; column = c.args.column.now }) found.relation.now found.column found.tree c.args.goal c.in-Ok.shapes
    c.in-Ok.ensures.schema c.in-Ok.ensures.file c.in-Ok.ensures.column over.ensures.laws over.result over.ensures.shapes over.ensures.pmr over.ensures.goal
    (λ a b. ordering_then (nat_cmp a.z b.z) (nat_cmp a.level b.level)) s.hierarchy h.hierarchy s.frontier.queue.items s.frontier.last h.none_given h.stands pages (c.in_ok-found.ensures.found pages)
