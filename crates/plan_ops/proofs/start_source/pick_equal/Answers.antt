-- The checks say that it is there. They hold over any pages, so over none.
use Rattle.std.specs.FinMap as map
use Rattle.std.proofs.Common.{false, ap₂, subst, Ok, ◌∙◌}
use Rattle.page_pool.specs.Disk.{PageMap}
use Rattle.statements.specs.declared.column.Column.{Column}
use Rattle.sand_store.specs.Contents.{database_in}
use Rattle.plan_names.specs.Indexed.{LacksIndex}
use Rattle.plan_names.specs.Spots.{names_of}
use Rattle.plan_ops.proofs.Resolved.{not_lacking}
use Rattle.plan_ops.proofs.start_source.pick_equal.Goals as goal

pub unreachable-requires : goal.unreachable-requires
unreachable-requires c =
    let pages : PageMap = map.empty in
    let d = database_in pages c.args.catalog.now.relations in
    not_lacking d c.args.column.now false (c.requires.checked pages)
    (subst (λ (column : Column). LacksIndex d column false) (ap₂ names_of c.as_str.ensures c.as_str-2.ensures)
    (c.start.ensures.none (c.in_ok-pick.was ∙ (λ i. Ok (c.in-None.is i))) c.requires.described pages))
