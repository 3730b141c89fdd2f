use Rattle.std.proofs.Common.{◌≡◌, None, IfOk, subst}
use Rattle.std.specs.FinMap as map
use Rattle.page_pool.specs.Disk.{DiskView}
use Rattle.page_pool.specs.Archive.{newest_images}
use Rattle.page_pool.specs.InsideArchive.{archive_of}
use Rattle.page_pool.proofs.ArchiveChanges.{is_archive}
use Rattle.page_pool.proofs.ArchiveStamps.{kept_answer}
use Rattle.page_pool.proofs.archive.Archive.keep.Goals as goal

-- the stamp sees the newest images
pub invariant_of-self : goal.invariant_of-self
invariant_of-self g c =
    let disk : DiskView = g.D.Disk.seen c.self.inside.disk in
    (kept_answer disk c.self.inside.digests c.self.inside.images c.keep.new.self c.keep.result c.keep.ensures.before c.keep.ensures.free c.keep.ensures.kept c.keep.ensures.unchanged c.self.invariant).0

pub returns-clause-free : goal.returns-clause-free
returns-clause-free g c =
    let disk : DiskView = g.D.Disk.seen c.self.inside.disk in
    subst (λ old. IfOk c.keep.result (λ slot. map.get old.stamps slot ≡ None)) c.self.view_is
    (kept_answer disk c.self.inside.digests c.self.inside.images c.keep.new.self c.keep.result c.keep.ensures.before c.keep.ensures.free c.keep.ensures.kept c.keep.ensures.unchanged c.self.invariant).1.0

pub returns-clause-kept : goal.returns-clause-kept
returns-clause-kept g c =
    let disk : DiskView = g.D.Disk.seen c.self.inside.disk in
    subst (λ old. IfOk c.keep.result (λ slot. archive_of disk c.self.inside.digests c.keep.new.self ≡ record old { stamps = map.insert old.stamps slot (newest_images old) })) c.self.view_is
    (kept_answer disk c.self.inside.digests c.self.inside.images c.keep.new.self c.keep.result c.keep.ensures.before c.keep.ensures.free c.keep.ensures.kept c.keep.ensures.unchanged c.self.invariant).1.1

pub returns-clause-whole : goal.returns-clause-whole
returns-clause-whole g c =
    let disk : DiskView = g.D.Disk.seen c.self.inside.disk in
    is_archive disk c.self.inside.digests c.keep.new.self c.keep.ensures.whole
    (kept_answer disk c.self.inside.digests c.self.inside.images c.keep.new.self c.keep.result c.keep.ensures.before c.keep.ensures.free c.keep.ensures.kept c.keep.ensures.unchanged c.self.invariant).0
