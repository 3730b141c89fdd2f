-- The search stands over all pages where the relation does and the R-tree lists its rows, and has taken nothing.
use Rattle.std.proofs.Common.{ap, ◌∙◌}
use Rattle.sand_base.specs.declared.goal.Goal.TheVariants as figure
use Rattle.sand_store.specs.declared.column.FileShapes.{FileShapes}
use Rattle.plan_sources.proofs.NearBegun.{made_laws, begun}
use Rattle.plan_sources.proofs.NodesOnce.{none_read}
use Rattle.plan_sources.proofs.near_source.NearSource.start.Goals as goal

pub returns-clause-begun : goal.returns-clause-begun
returns-clause-begun c =
    let over = c.over-hierarchy in
    let s = c.in_ok-search.search in
    let h = c.in_ok-search.ensures in
    begun c.args.column.relation.now c.args.column.column c.args.column.tree c.args.goal c.args.ceiling over.result s.hierarchy h.hierarchy
    (record {
      schema = ap (λ (x : FileShapes). x.schema) over.ensures.shapes ∙ c.in_ok-shapes.ensures.schema;
      file = ap (λ (x : FileShapes). x.file) over.ensures.shapes ∙ c.in_ok-shapes.ensures.file;
      column = ap (λ (x : FileShapes). x.column) over.ensures.shapes ∙ c.in_ok-shapes.ensures.column;
      tree = over.ensures.tree;
      goal = over.ensures.goal;
      ceiling = over.ensures.ceiling;
    })
    (made_laws over.result c.in_ok-shapes.shapes c.args.column.tree
    (figure.Shape c.args.goal) c.args.ceiling over.ensures.shapes over.ensures.tree over.ensures.goal over.ensures.ceiling over.ensures.laws)
    s.frontier.queue.items s.frontier.last s.frontier.counts h.none_given h.none_taken h.stands

-- and has read no node
pub returns-clause-none_read : goal.returns-clause-none_read
returns-clause-none_read c =
    let s = c.in_ok-search.search in
    let h = c.in_ok-search.ensures in
    none_read c.over-hierarchy.result s.hierarchy h.hierarchy s.frontier.queue.items s.frontier.last s.frontier.counts h.stands
