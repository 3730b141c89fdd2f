-- the relation is there or not
use Rattle.std.proofs.Common.{◌∙◌, ap, Some, None}
use Rattle.sand_store.specs.Contents.{database_in, relation_in}
use Rattle.plan_names.proofs.Columns.{relation_check, seen_in}
use Rattle.plan_names.proofs.column.check_relation.Goals as goal

pub returns-in-Some : goal.returns-in-Some
returns-in-Some c = λ pages.
    relation_check (database_in pages c.args.catalog.now.relations) c.args.name.now (Some (relation_in pages c.in-Some.field-0.now))
    (c.relation.ensures.named pages ∙ ap (seen_in pages) c.in-Some.is)

pub returns-in-None : goal.returns-in-None
returns-in-None c = λ pages.
    relation_check (database_in pages c.args.catalog.now.relations) c.args.name.now None (c.relation.ensures.named pages ∙ ap (seen_in pages) c.in-None.is)
