-- The search stands over what its hierarchy is of, the join of the two columns.
use Rattle.std.proofs.Common.{◌∙◌}
use Rattle.plan_sources.specs.Joins.{joined_columns, join_view, join_of}
use Rattle.plan_sources.proofs.BegunPairs.{moved_search}
use Rattle.plan_sources.proofs.pair_search.pair_search.Goals as goal

pub returns-clause-stands : goal.returns-clause-stands
returns-clause-stands c =
    let one = c.args.left in
    let two = c.args.right in
    let t = c.over-hierarchy.result in
    let s = c.in_ok-search.search in
    moved_search
    (join_view (joined_columns one two c.args.ceiling))
    (join_of t)
    (λ i. record {
      left = record {
        schema = ((λ j. (c.over-hierarchy.ensures.left_shapes j).schema) ∙ c.in_ok-left_shapes.ensures.schema) i;
        file = ((λ j. (c.over-hierarchy.ensures.left_shapes j).file) ∙ c.in_ok-left_shapes.ensures.file) i;
        at = ((λ j. (c.over-hierarchy.ensures.left_shapes j).column) ∙ c.in_ok-left_shapes.ensures.column) i;
        tree = c.over-hierarchy.ensures.left i;
      };
      right = record {
        schema = ((λ j. (c.over-hierarchy.ensures.right_shapes j).schema) ∙ c.in_ok-right_shapes.ensures.schema) i;
        file = ((λ j. (c.over-hierarchy.ensures.right_shapes j).file) ∙ c.in_ok-right_shapes.ensures.file) i;
        at = ((λ j. (c.over-hierarchy.ensures.right_shapes j).column) ∙ c.in_ok-right_shapes.ensures.column) i;
        tree = c.over-hierarchy.ensures.right i;
      };
      ceiling = c.over-hierarchy.ensures.ceiling i;
    })
    s.frontier.queue.items s.frontier.last c.in_ok-search.ensures.stands
