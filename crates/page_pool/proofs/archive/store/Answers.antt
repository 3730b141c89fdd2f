use Rattle.std.proofs.Common.{Some, sym, ap, ◌∙◌}
use Rattle.std.specs.FinMap as map
use Rattle.page_pool.specs.Disk.{DiskView}
use Rattle.page_pool.proofs.Maps.{get-insert_same}
use Rattle.page_pool.proofs.ArchiveCalls.{spoils_insert}
use Rattle.page_pool.proofs.archive.store.Goals as goal

-- the page stands at the place with its digest
pub returns : goal.returns
returns g c =
    let disk : DiskView = g.D.Disk.seen c.args.disk.now in
    let disk' : DiskView = g.D.Disk.seen c.write_page.new.self in
    record {
      spoils = spoils_insert disk disk' c.args.digests.now c.insert.new.self c.args.place c.bytes.result.now c.digest.result c.write_page.result c.write_page.ensures c.in_ok-insert.ensures.kept;
      digest = ap (λ m. map.get m c.args.place) c.in_ok-insert.ensures.kept ∙ get-insert_same c.args.digests.now c.args.place c.digest.result ∙ ap (λ d. Some d) c.digest.ensures;
      stored = λ told. c.in_ok-write_page.ensures.written (sym c.write_page.ensures.told ∙ told) ∙ ap (λ page. Some page) c.bytes.ensures;
      counted = c.in_ok-write_page.ensures.counted;
      undamaged = tt;
    }
