use Rattle.std.proofs.Common.{sym, ap, option_map, ◌∙◌}
use Rattle.std.specs.FinMap as map
use Rattle.page_pool.specs.Disk.{DiskView}
use Rattle.page_pool.proofs.ArchiveChanges.{stamp_at}
use Rattle.page_pool.proofs.archive.Archive.stamp.Goals as goal

pub returns : goal.returns
returns g c =
    let disk : DiskView = g.D.Disk.seen c.self.inside.disk in
    c.stamp.ensures.stamp ∙ sym (stamp_at disk c.self.inside.digests c.self.inside.images c.args.slot) ∙ ap (λ a. option_map (λ f. f.at) (map.get a.stamps c.args.slot)) c.self.view_is
