-- The search stands over all pages where the relations do, and has taken nothing.
use Rattle.plan_sources.specs.Joins.{joined_columns, join_of}
use Rattle.plan_sources.proofs.BegunFirsts.{begun_over}
use Rattle.plan_sources.proofs.semi_source.SemiSource.start.Goals as goal

pub returns-clause-begun : goal.returns-clause-begun
returns-clause-begun c =
    let one = c.args.left in
    let two = c.args.right in
    let e = c.in_ok-search.search in
    let s = c.in_ok-semi.semi in
    begun_over
    (joined_columns one two c.args.ceiling)
    (record { view = (join_of e.hierarchy); held = e.frontier.queue.items; last = e.frontier.last; counts = e.frontier.counts })
    (record { view = (join_of s.engine.hierarchy); held = s.engine.frontier.queue.items; last = s.engine.frontier.last; counts = s.engine.frontier.counts })
    (λ i. let h = c.in_ok-semi.ensures.engine i in record { view = (join_of h.hierarchy); held = h.frontier.queue.items; last = h.frontier.last; counts = h.frontier.counts })
    c.in_ok-search.ensures.view c.in_ok-search.ensures.none_given c.in_ok-search.ensures.none_taken c.in_ok-search.ensures.stands
    s.lefts c.rows.result c.greatest.result c.in_ok-semi.ensures.none_given c.in_ok-semi.ensures.all_wait c.rows.ensures c.greatest.ensures.greatest c.in_ok-semi.ensures.stands
