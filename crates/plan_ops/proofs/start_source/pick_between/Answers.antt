-- The checks say that it is there. They hold over any pages, so over none.
use Rattle.std.specs.FinMap as map
use Rattle.std.proofs.Common.{ap₂, subst, Ok, ◌∙◌}
use Rattle.page_pool.specs.Disk.{PageMap}
use Rattle.plan_sources.specs.Plain.{LacksInts}
use Rattle.plan_ops.proofs.Resolved.{not_lacking_ints}
use Rattle.plan_ops.proofs.start_source.pick_between.Goals as goal
use Rattle.plan_names.specs.Spots.{names_of}
use Rattle.statements.specs.declared.column.Column.{Column}
use Rattle.sand_store.specs.Contents.{database_in}

pub unreachable-requires : goal.unreachable-requires
unreachable-requires c =
    let pages : PageMap = map.empty in
    let d = database_in pages c.args.catalog.now.relations in
    not_lacking_ints d c.args.column.now (c.requires.checked pages)
    (subst (λ (column : Column). LacksInts d column) (ap₂ names_of c.as_str.ensures c.as_str-2.ensures)
    (c.start.ensures.none (c.in_ok-pick.was ∙ (λ i. Ok (c.in-None.is i))) c.requires.described pages))
