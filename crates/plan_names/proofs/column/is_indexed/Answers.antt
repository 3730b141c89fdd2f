-- by the quadtree or the attribute index of the column
use Rattle.std.proofs.Common.{sym, ◌∙◌, ap, Option}
use Rattle.std.specs.Prelude.{is_some}
use Rattle.sand_model.specs.Database.{Index, index_at}
use Rattle.sand_store.specs.Contents.{relation_in}
use Rattle.sand_store.specs.Paths.{IsTreeOf, IsAttributeOf}
use Rattle.plan_names.proofs.Columns.{index_by_place, found_index, column_of_kind}
use Rattle.plan_names.proofs.column.is_indexed.Goals as goal

pub returns-then-is_spatial : goal.returns-then-is_spatial
returns-then-is_spatial c = λ limits described pages kind.
    let r = relation_in pages c.args.relation.now in
    let place = sym c.column.ensures.place ∙ c.in-Some.is in
    let column = column_of_kind r c.args.name.now c.in-Some.at c.args.kind _ place kind (sym c.is_spatial.ensures ∙ c.if-is_spatial.true) in
    index_by_place r c.args.name.now c.in-Some.at place
    ∙ (found_index c.quadtree.result (λ tree. IsTreeOf c.args.relation.now c.in-Some.at tree.now) (index_at r c.in-Some.at) c.quadtree.ensures.tree
    (λ tree h. ap (λ (o : Option Index). is_some o) (h.index pages)) (λ none. c.quadtree.ensures.none none limits described column pages)
    ∙ sym c.is_some.ensures)

pub returns-else-is_spatial : goal.returns-else-is_spatial
returns-else-is_spatial c = λ limits described pages kind.
    let r = relation_in pages c.args.relation.now in
    let place = sym c.column.ensures.place ∙ c.in-Some.is in
    let column = column_of_kind r c.args.name.now c.in-Some.at c.args.kind _ place kind (sym c.is_spatial.ensures ∙ c.if-is_spatial.false) in
    index_by_place r c.args.name.now c.in-Some.at place
    ∙ (found_index c.attribute.result (λ index. IsAttributeOf c.args.relation.now c.in-Some.at index.now) (index_at r c.in-Some.at) c.attribute.ensures.index
    (λ index h. ap (λ (o : Option Index). is_some o) (h.index pages)) (λ none. c.attribute.ensures.none none limits described column pages)
    ∙ sym c.is_some-else-is_spatial.ensures)
