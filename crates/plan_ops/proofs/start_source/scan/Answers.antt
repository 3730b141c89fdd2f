-- The check says that it is there. It holds over any pages, so over none.
use Rattle.std.specs.FinMap as map
use Rattle.std.proofs.Common.{Ok, ◌∙◌}
use Rattle.page_pool.specs.Disk.{PageMap}
use Rattle.sand_store.specs.Contents.{database_in}
use Rattle.plan_ops.proofs.Resolved.{scanned}
use Rattle.plan_ops.proofs.start_source.scan.Goals as goal

pub unreachable-requires : goal.unreachable-requires
unreachable-requires c =
    let pages : PageMap = map.empty in
    scanned (database_in pages c.args.catalog.now.relations) c.args.relation.now (c.requires pages) (c.start.ensures.none (c.in_ok-scan.was ∙ (λ i. Ok (c.in-None.is i))) pages)
