use Rattle.std.proofs.Common.{sym, subst}
use Rattle.page_pool.specs.Disk.{DiskView}
use Rattle.page_pool.specs.Images.{IsImages}
use Rattle.page_pool.proofs.Moves.{empty_images}
use Rattle.page_pool.proofs.ArchiveChanges.{is_archive}
use Rattle.page_pool.proofs.ArchiveStart.{start_archived, start_is}
use Rattle.page_pool.proofs.archive.Archive.start.Goals as goal

-- no image is there
pub invariant_of-result : goal.invariant_of-result
invariant_of-result g c =
    let disk : DiskView = g.D.Disk.seen c.start.new.self in
    start_archived disk c.new.result c.new-2.result c.new-2.ensures

pub returns-clause-begun : goal.returns-clause-begun
returns-clause-begun g c =
    let disk : DiskView = g.D.Disk.seen c.start.new.self in
    start_is disk c.new.result c.new-2.result c.new-2.ensures

pub returns-clause-whole : goal.returns-clause-whole
returns-clause-whole g c =
    let disk : DiskView = g.D.Disk.seen c.start.new.self in
    is_archive disk c.new.result c.new-2.result (subst IsImages (sym c.new-2.ensures) empty_images) (start_archived disk c.new.result c.new-2.result c.new-2.ensures)
