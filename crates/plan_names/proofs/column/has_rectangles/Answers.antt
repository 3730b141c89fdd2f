-- by the R-tree of the column
use Rattle.std.proofs.Common.{None, Some, sym, ◌∙◌}
use Rattle.sand_store.specs.Contents.{relation_in}
use Rattle.plan_names.proofs.Columns.{rectangles_by_place}
use Rattle.plan_names.proofs.column.has_rectangles.Goals as goal

pub returns-in_default : goal.returns-in_default
returns-in_default c = λ pages.
    rectangles_by_place (relation_in pages c.args.relation.now) c.args.name.now None (sym c.column.ensures.place ∙ c.in_default.is)

pub returns : goal.returns
returns c = λ pages.
    rectangles_by_place (relation_in pages c.args.relation.now) c.args.name.now (Some c.in-Some.at) (sym c.column.ensures.place ∙ c.in-Some.is)
    ∙ (sym (c.rtree.ensures.there pages) ∙ sym c.is_some.ensures)
