use Rattle.std.proofs.Common.{OnOk, subst}
use Rattle.page_pool.specs.Disk.{DiskView}
use Rattle.page_pool.specs.Archive.{LeavesPage}
use Rattle.page_pool.specs.InsideArchive.{archive_of}
use Rattle.page_pool.proofs.ArchiveChanges.{is_archive}
use Rattle.page_pool.proofs.ArchiveCalls.{left}
use Rattle.page_pool.proofs.archive.Archive.leave.Goals as goal

-- the parts fit together after it
pub invariant_of-self : goal.invariant_of-self
invariant_of-self g c =
    let disk : DiskView = g.D.Disk.seen c.self.inside.disk in
    (left disk c.self.inside.digests c.self.inside.images c.leave.new.self c.args.n c.leave.result c.leave.ensures.left c.leave.ensures.unchanged c.self.invariant).0

pub returns-clause-left : goal.returns-clause-left
returns-clause-left g c =
    let disk : DiskView = g.D.Disk.seen c.self.inside.disk in
    subst (λ old. OnOk c.leave.result (LeavesPage old (archive_of disk c.self.inside.digests c.leave.new.self) c.args.n)) c.self.view_is
    (left disk c.self.inside.digests c.self.inside.images c.leave.new.self c.args.n c.leave.result c.leave.ensures.left c.leave.ensures.unchanged c.self.invariant).1

pub returns-clause-whole : goal.returns-clause-whole
returns-clause-whole g c =
    let disk : DiskView = g.D.Disk.seen c.self.inside.disk in
    is_archive disk c.self.inside.digests c.leave.new.self c.leave.ensures.whole
    (left disk c.self.inside.digests c.self.inside.images c.leave.new.self c.args.n c.leave.result c.leave.ensures.left c.leave.ensures.unchanged c.self.invariant).0
