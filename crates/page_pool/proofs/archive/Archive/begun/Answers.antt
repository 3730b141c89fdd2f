use Rattle.std.proofs.Common.{subst}
use Rattle.page_pool.specs.Disk.{DiskView}
use Rattle.page_pool.specs.Archive.{IsArchive}
use Rattle.page_pool.proofs.ArchiveChanges.{is_archive}
use Rattle.page_pool.proofs.archive.Archive.begun.Goals as goal

-- what holds of every archive
pub returns-clause-whole : goal.returns-clause-whole
returns-clause-whole g c =
    let disk : DiskView = g.D.Disk.seen c.self.inside.disk in
    subst IsArchive c.self.view_is (is_archive disk c.self.inside.digests c.self.inside.images c.begun.ensures.whole c.self.invariant)
