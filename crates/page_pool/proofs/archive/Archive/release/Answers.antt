use Rattle.std.proofs.Common.{subst}
use Rattle.page_pool.specs.Disk.{DiskView}
use Rattle.page_pool.specs.Archive.{Releases}
use Rattle.page_pool.specs.InsideArchive.{archive_of}
use Rattle.page_pool.proofs.ArchiveChanges.{is_archive}
use Rattle.page_pool.proofs.ArchiveStamps.{released_answer}
use Rattle.page_pool.proofs.archive.Archive.release.Goals as goal

-- the others see what they saw
pub invariant_of-self : goal.invariant_of-self
invariant_of-self g c =
    let disk : DiskView = g.D.Disk.seen c.self.inside.disk in
    (released_answer disk c.self.inside.digests c.self.inside.images c.release.new.self c.args.slot c.release.ensures.released c.self.invariant).0

pub returns-clause-released : goal.returns-clause-released
returns-clause-released g c =
    let disk : DiskView = g.D.Disk.seen c.self.inside.disk in
    subst (λ old. Releases old (archive_of disk c.self.inside.digests c.release.new.self) c.args.slot) c.self.view_is
    (released_answer disk c.self.inside.digests c.self.inside.images c.release.new.self c.args.slot c.release.ensures.released c.self.invariant).1

pub returns-clause-whole : goal.returns-clause-whole
returns-clause-whole g c =
    let disk : DiskView = g.D.Disk.seen c.self.inside.disk in
    is_archive disk c.self.inside.digests c.release.new.self c.release.ensures.whole
    (released_answer disk c.self.inside.digests c.self.inside.images c.release.new.self c.args.slot c.release.ensures.released c.self.invariant).0
