-- The checks say that it is there. They hold over any pages, so over none.
use Rattle.std.specs.FinMap as map
use Rattle.std.proofs.Common.{sym, ◌∙◌, ap, List, ℕ}
use Rattle.page_pool.specs.Disk.{PageMap}
use Rattle.sand_model.specs.Database.{relation_named, column_named}
use Rattle.sand_store.specs.Contents.{database_in, relation_in}
use Rattle.plan_names.proofs.Columns.{seen_in}
use Rattle.plan_ops.proofs.Resolved.{near_related, near_placed, tree_there, described_at}
use Rattle.plan_ops.proofs.columns.rtree_column.Goals as goal

pub unreachable-requires : goal.unreachable-requires
unreachable-requires c =
    let pages : PageMap = map.empty in
    let d = database_in pages c.args.catalog.now.relations in
    near_related d c.args.column.now (c.requires.checked pages)
    (ap (λ (name : List ℕ). relation_named d name) (sym c.as_str.ensures) ∙ (c.relation.ensures.named pages ∙ ap (seen_in pages) c.in_default.is))

pub unreachable-requires-in_default-column : goal.unreachable-requires-in_default-column
unreachable-requires-in_default-column c =
    let pages : PageMap = map.empty in
    let d = database_in pages c.args.catalog.now.relations in
    let r = relation_in pages c.in-Some.relation.now in
    near_placed d c.args.column.now (c.requires.checked pages) r
    (ap (λ (name : List ℕ). relation_named d name) (sym c.as_str.ensures) ∙ (c.relation.ensures.named pages ∙ ap (seen_in pages) c.in-Some.is))
    (ap (λ (name : List ℕ). column_named r.schema name) (sym c.as_str-2.ensures) ∙ (sym c.column.ensures.place ∙ c.in_default-column.is))

pub unreachable-requires-in_default-rtree : goal.unreachable-requires-in_default-rtree
unreachable-requires-in_default-rtree c =
    let pages : PageMap = map.empty in
    let d = database_in pages c.args.catalog.now.relations in
    let r = relation_in pages c.in-Some.relation.now in
    let found = ap (λ (name : List ℕ). relation_named d name) (sym c.as_str.ensures) ∙ (c.relation.ensures.named pages ∙ ap (seen_in pages) c.in-Some.is) in
    let place = ap (λ (name : List ℕ). column_named r.schema name) (sym c.as_str-2.ensures) ∙ (sym c.column.ensures.place ∙ c.in-Some-column.is) in
    tree_there d c.args.column.now (c.requires.checked pages) r c.in-Some-column.at found place c.rtree.result (sym (c.rtree.ensures.there pages)) c.in_default-rtree.is

pub returns-clause-described : goal.returns-clause-described
returns-clause-described c =
    described_at c.args.catalog.now c.relation.result c.in-Some.relation c.in-Some.is c.relation.ensures.described c.requires.described
