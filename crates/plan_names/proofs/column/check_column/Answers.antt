-- the column is checked in its relation, where that is there
use Rattle.std.proofs.Common.{ℕ, List, sym, ◌∙◌, ap, Some, None, Bor}
use Rattle.sand_model.specs.Database.{relation_named}
use Rattle.sand_store.specs.Catalog.{IsCatalog, IsDescribed}
use Rattle.sand_store.specs.Contents.{database_in, relation_in}
use Rattle.sand_store.specs.declared.relation.Relation.{Relation}
use Rattle.plan_names.specs.Asked.{is_asked}
use Rattle.plan_names.specs.ColumnCheck.{check_in, has_search}
use Rattle.plan_names.proofs.Columns.{column_check, seen_in, given_some}
use Rattle.plan_names.proofs.column.check_column.Goals as goal

pub returns-in_default : goal.returns-in_default
returns-in_default c = λ is_catalog pages.
    let d = database_in pages c.args.catalog.now.relations in
    column_check (has_search c.args.way) d c.args.column.now (is_asked c.args.asked) None
    (ap (λ (name : List ℕ). relation_named d name) (sym c.as_str.ensures) ∙ (c.relation.ensures.named pages ∙ ap (seen_in pages) c.in_default.is))

pub returns : goal.returns
returns c = λ is_catalog pages.
    let d = database_in pages c.args.catalog.now.relations in
    let described =
    given_some (λ (r : Bor Relation). IsCatalog c.args.catalog.now → IsDescribed c.args.catalog.now.limits r.now) c.relation.result c.in-Some.relation c.in-Some.is c.relation.ensures.described in
    c.check_in.ensures c.args.catalog.now.limits (described is_catalog) pages
    ∙ (ap (λ (name : List ℕ). check_in (has_search c.args.way) (relation_in pages c.in-Some.relation.now) name (is_asked c.args.asked)) c.as_str-2.ensures
    ∙ column_check (has_search c.args.way) d c.args.column.now (is_asked c.args.asked) (Some (relation_in pages c.in-Some.relation.now))
    (ap (λ (name : List ℕ). relation_named d name) (sym c.as_str.ensures) ∙ (c.relation.ensures.named pages ∙ ap (seen_in pages) c.in-Some.is)))
