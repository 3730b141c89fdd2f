-- The search has its ceiling, stands over all pages where the relation does, and has taken nothing.
use Rattle.std.proofs.Common.{◌≡◌, ℕ, Some, sym, ap, ◌∙◌}
use Rattle.std.specs.Prelude.{⊤}
use Rattle.sand_store.specs.declared.column.FileShapes.{FileShapes}
use Rattle.best_first.specs.ZeroItems.{items_of}
use Rattle.rank_cursor.specs.declared.rank_tree.RankTree.{RankTree}
use Rattle.plan_sources.specs.Rankings.{ranking_of}
use Rattle.plan_sources.proofs.Begun.{made_ranking, begun_over}
use Rattle.plan_sources.proofs.SingleItems.{within_zero}
use Rattle.plan_sources.proofs.rank_source.RankSource.start.Goals as goal

-- within the distance 0
pub returns-in_ok-search-in-Some-eq0-clause-begun : goal.returns-in_ok-search-in-Some-eq0-clause-begun
returns-in_ok-search-in-Some-eq0-clause-begun c =
    let r = c.args.column.relation.now in
    let t = c.args.column.tree.now in
    let over = c.over-hierarchy in
    let s = c.in_ok-search-in-Some-eq0.search in
    let h = c.in_ok-search-in-Some-eq0.ensures in
    let at_zero : over.result.ceiling ≡ Some 0 = over.ensures.ceiling ∙ c.in-Some-eq0.is ∙ ap (λ (n : ℕ). Some n) (sym c.in-Some-eq0.field-0-is ∙ c.in-Some-eq0.field-0-test) in
    begun_over r c.args.column.column t c.args.goal c.args.ceiling c.requires.plane over.result s.hierarchy h.hierarchy
    (made_ranking r c.args.column.column t c.args.goal c.args.ceiling over.result
    (ap (λ (x : FileShapes). x.schema) over.ensures.shapes ∙ c.in_ok-shapes.ensures.schema) (ap (λ (x : FileShapes). x.file) over.ensures.shapes ∙ c.in_ok-shapes.ensures.file)
    (ap (λ (x : FileShapes). x.column) over.ensures.shapes ∙ c.in_ok-shapes.ensures.column)
    over.ensures.pmr over.ensures.goal over.ensures.ceiling)
    (items_of s.frontier.queue) s.frontier.last s.frontier.counts h.none_given h.none_taken (λ m laws. h.stands m laws (within_zero (ranking_of over.result m) at_zero))
    (s.hierarchy.ceiling ≡ Some 0) (ap (λ (x : RankTree FileShapes). x.ceiling) h.hierarchy ∙ at_zero)

-- by distance
pub returns-in_ok-search-in_default-clause-begun : goal.returns-in_ok-search-in_default-clause-begun
returns-in_ok-search-in_default-clause-begun c =
    let r = c.args.column.relation.now in
    let t = c.args.column.tree.now in
    let over = c.over-hierarchy in
    let s = c.in_ok-search-in_default.search in
    let h = c.in_ok-search-in_default.ensures in
    begun_over r c.args.column.column t c.args.goal c.args.ceiling c.requires.plane over.result s.hierarchy h.hierarchy
    (made_ranking r c.args.column.column t c.args.goal c.args.ceiling over.result
    (ap (λ (x : FileShapes). x.schema) over.ensures.shapes ∙ c.in_ok-shapes.ensures.schema) (ap (λ (x : FileShapes). x.file) over.ensures.shapes ∙ c.in_ok-shapes.ensures.file)
    (ap (λ (x : FileShapes). x.column) over.ensures.shapes ∙ c.in_ok-shapes.ensures.column)
    over.ensures.pmr over.ensures.goal over.ensures.ceiling)
    s.frontier.queue.items s.frontier.last s.frontier.counts h.none_given h.none_taken h.stands ⊤ tt
