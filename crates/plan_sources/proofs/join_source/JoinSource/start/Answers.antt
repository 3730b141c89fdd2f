-- The search stands over all pages where the relations do, and has taken nothing.
use Rattle.plan_sources.specs.Joins.{joined_columns, join_of}
use Rattle.plan_sources.proofs.BegunPairs.{begun_over}
use Rattle.plan_sources.proofs.join_source.JoinSource.start.Goals as goal

pub returns-clause-begun : goal.returns-clause-begun
returns-clause-begun c =
    let one = c.args.left in
    let two = c.args.right in
    let s = c.in_ok-search.search in
    begun_over
    (joined_columns one two c.args.ceiling)
    (join_of s.hierarchy)
    c.in_ok-search.ensures.view s.frontier.queue.items s.frontier.last s.frontier.counts c.in_ok-search.ensures.none_given c.in_ok-search.ensures.none_taken c.in_ok-search.ensures.stands
