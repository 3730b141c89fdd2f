-- the column is of shapes, and has a quadtree or none
use Rattle.std.proofs.Common.{◌≡◌, ℕ, List, true, refl, ◌∙◌, sym, ap, slice_index_or}
use Rattle.sand_base.specs.Shape.{is_spatial}
use Rattle.sand_base.specs.declared.kind.Kind.{Kind}
use Rattle.statements.specs.declared.column.Column.{Column}
use Rattle.far_cursor.proofs.FarColumns.{element_at, has_column, lacks_index}
use Rattle.far_cursor.proofs.column.column_of.Goals as goal

pub returns-in-Some-quadtree-clause-found : goal.returns-in-Some-quadtree-clause-found
returns-in-Some-quadtree-clause-found c = λ pages.
    let column : Column = record { relation = c.args.relation.now; column = c.args.column.now } in
    let schema : List (List ℕ × Kind) = c.in-Some.found.now.schema in
    let at = c.in-Some-column.at in
    let kind : List ℕ × Kind = slice_index_or schema at c.index-columns-at.result in
    let spatial : is_spatial kind.1 ≡ true =
    sym (c.if-not-is_spatial.ensures ∙ ap (λ (cs : List (List ℕ × Kind)). is_spatial (slice_index_or cs at c.index-columns-at.result).1) (c.columns.ensures ∙ c.schema.ensures)) in
    has_column c.args.catalog.now column pages c.in-Some.found.now (c.in-Some.ensures.named pages) at kind (sym c.in-Some-column.ensures.place)
    (element_at schema at c.index-columns-at.result c.in-Some-column.ensures.inside)
    spatial c.in-Some-quadtree.tree.now c.in-Some-quadtree.ensures.tree (c.in-Some.ensures.stands pages)

pub returns-in-None-clause-lacks : goal.returns-in-None-clause-lacks
returns-in-None-clause-lacks c = λ described pages.
    let column : Column = record { relation = c.args.relation.now; column = c.args.column.now } in
    let schema : List (List ℕ × Kind) = c.in-Some.found.now.schema in
    let at = c.in-Some-column.at in
    let kind : List ℕ × Kind = slice_index_or schema at c.index-columns-at.result in
    let spatial : is_spatial kind.1 ≡ true =
    sym (c.if-not-is_spatial.ensures ∙ ap (λ (cs : List (List ℕ × Kind)). is_spatial (slice_index_or cs at c.index-columns-at.result).1) (c.columns.ensures ∙ c.schema.ensures)) in
    lacks_index c.args.catalog.now column pages c.in-Some.found.now (c.in-Some.ensures.named pages) at kind (sym c.in-Some-column.ensures.place)
    (element_at schema at c.index-columns-at.result c.in-Some-column.ensures.inside)
    spatial (c.in-Some.ensures.described described) (c.in-None.ensures.none refl)
