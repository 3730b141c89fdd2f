-- the column is of shapes, and has a quadtree or none
use Rattle.std.proofs.Common.{◌≡◌, ℕ, List, Some, true, refl, ◌∙◌, sym, ap, slice_index_or}
use Rattle.sand_base.specs.Shape.{is_spatial}
use Rattle.sand_base.specs.declared.kind.Kind.{Kind}
use Rattle.sand_model.specs.Database.{element, column_named, relation_named}
use Rattle.statements.specs.declared.column.Column.{Column}
use Rattle.sand_store.specs.Contents.{database_in, relation_in}
use Rattle.statement_exec.proofs.ColumnTrees.{element_at, has_tree, lacks_tree}
use Rattle.statement_exec.proofs.leaf_tree.quadtree_of.Goals as goal

pub returns-in-Some-quadtree-clause-tree : goal.returns-in-Some-quadtree-clause-tree
returns-in-Some-quadtree-clause-tree c = λ pages.
    let column : Column = record { relation = c.args.relation.now; column = c.args.column.now } in
    let schema : List (List ℕ × Kind) = c.in-Some.found.now.schema in
    let kind : List ℕ × Kind = slice_index_or schema c.in-Some-column.at c.index-columns-at.result in
    let named : relation_named (database_in pages c.args.catalog.now.relations) c.args.relation.now ≡ Some (relation_in pages c.in-Some.found.now) =
    rw c.as_str.ensures at (c.in-Some.ensures.named pages) in
    let place : column_named schema c.args.column.now ≡ Some c.in-Some-column.at =
    sym (c.in-Some-column.ensures.place ∙ ap (λ (n : List ℕ). column_named schema n) c.as_str-2.ensures) in
    let is : element schema c.in-Some-column.at ≡ Some kind = element_at schema c.in-Some-column.at c.index-columns-at.result c.in-Some-column.ensures.inside in
    let spatial : is_spatial kind.1 ≡ true =
    sym (c.if-not-is_spatial.ensures ∙ ap (λ (cs : List (List ℕ × Kind)). is_spatial (slice_index_or cs c.in-Some-column.at c.index-columns-at.result).1) (c.columns.ensures ∙ c.schema.ensures)) in
    has_tree c.args.catalog.now c.in-Some.found.now column c.in-Some-column.at kind pages named place is spatial c.in-Some-quadtree.tree.now c.in-Some-quadtree.ensures.tree
    (c.in-Some.ensures.stands pages)

pub returns-in-None-clause-none : goal.returns-in-None-clause-none
returns-in-None-clause-none c = λ pages.
    let column : Column = record { relation = c.args.relation.now; column = c.args.column.now } in
    let schema : List (List ℕ × Kind) = c.in-Some.found.now.schema in
    let kind : List ℕ × Kind = slice_index_or schema c.in-Some-column.at c.index-columns-at.result in
    let named : relation_named (database_in pages c.args.catalog.now.relations) c.args.relation.now ≡ Some (relation_in pages c.in-Some.found.now) =
    rw c.as_str.ensures at (c.in-Some.ensures.named pages) in
    let place : column_named schema c.args.column.now ≡ Some c.in-Some-column.at =
    sym (c.in-Some-column.ensures.place ∙ ap (λ (n : List ℕ). column_named schema n) c.as_str-2.ensures) in
    let is : element schema c.in-Some-column.at ≡ Some kind = element_at schema c.in-Some-column.at c.index-columns-at.result c.in-Some-column.ensures.inside in
    let spatial : is_spatial kind.1 ≡ true =
    sym (c.if-not-is_spatial.ensures ∙ ap (λ (cs : List (List ℕ × Kind)). is_spatial (slice_index_or cs c.in-Some-column.at c.index-columns-at.result).1) (c.columns.ensures ∙ c.schema.ensures)) in
    lacks_tree c.args.catalog.now c.in-Some.found.now column c.in-Some-column.at kind pages named place is spatial (c.in-Some.ensures.described c.requires) (c.in-None.ensures.none refl)
