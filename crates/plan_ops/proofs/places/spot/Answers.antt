-- The checks say that it is there. They hold over any pages, so over none.
use Rattle.std.specs.FinMap as map
use Rattle.std.specs.Prelude.{option_map}
use Rattle.std.proofs.Common.{Option, Bor, Ok, ap, ap₂, subst, sym, ◌∙◌}
use Rattle.page_pool.specs.Disk.{PageMap}
use Rattle.sand_base.specs.declared.label.Label.{Label}
use Rattle.sand_model.specs.Operators.{relations_of}
use Rattle.statements.specs.declared.column.Column.{Column}
use Rattle.sand_store.specs.Contents.{database_in}
use Rattle.statements.specs.Plan.{plan_value}
use Rattle.plan_names.specs.Spots.{HasNoColumn, names_of}
use Rattle.plan_ops.proofs.Resolved.{named_there, column_there}
use Rattle.plan_ops.proofs.places.spot.Goals as goal

pub unreachable-requires : goal.unreachable-requires
unreachable-requires c =
    let pages : PageMap = map.empty in
    named_there (database_in pages c.args.catalog.now.relations) (relations_of (plan_value c.args.plan.now)) c.args.place.now (c.requires pages)
    (sym c.relation_name.ensures ∙ ap (λ (o : Option (Bor Label)). option_map (λ name. name.now) o) c.in_default.is)

pub unreachable-requires-in-None : goal.unreachable-requires-in-None
unreachable-requires-in-None c =
    let pages : PageMap = map.empty in
    let d = database_in pages c.args.catalog.now.relations in
    column_there d (relations_of (plan_value c.args.plan.now)) c.args.place.now (c.requires pages) c.in-Some.name.now
    (sym c.relation_name.ensures ∙ ap (λ (o : Option (Bor Label)). option_map (λ name. name.now) o) c.in-Some.is)
    (subst (λ (column : Column). HasNoColumn d column) (ap₂ names_of c.as_str.ensures c.as_str-column.ensures) (c.named.ensures.none (c.in_ok-spot.was ∙ (λ i. Ok (c.in-None.is i))) pages))
