use Rattle.std.proofs.Common.{◌≡◌, Some, sym, ap, subst, option_and_then, ◌∙◌}
use Rattle.std.specs.FinMap as map
use Rattle.page_pool.specs.Disk.{DiskView}
use Rattle.page_pool.specs.Images.{newest_place}
use Rattle.page_pool.specs.Archive.{IsArchive, StandsWritten, ReadsImage}
use Rattle.page_pool.specs.InsideArchive.{newest_of, stored_at, archive_of}
use Rattle.page_pool.proofs.Archives.{get-newest_of}
use Rattle.page_pool.proofs.ArchiveChanges.{is_archive}
use Rattle.page_pool.proofs.ArchiveCalls.{reads_image, archived_read, stands_stored}
use Rattle.page_pool.proofs.archive.Archive.read.Goals as goal

-- the newest image stands at its place
pub read_image-requires : goal.read_image-requires
read_image-requires g c =
    let disk : DiskView = g.D.Disk.seen c.self.inside.disk in
    stands_stored disk c.self.inside.digests c.self.inside.images c.args.n c.in-Some.place (sym c.newest_place.ensures.place ∙ c.in-Some.is)
    (subst (λ a. StandsWritten a.disk.told a.pages a.kept c.args.n) (sym c.self.view_is) c.requires)

pub returns-in-Some-clause-read : goal.returns-in-Some-clause-read
returns-in-Some-clause-read g c =
    let disk : DiskView = g.D.Disk.seen c.self.inside.disk in
    let disk' : DiskView = g.D.Disk.seen c.read_image.new.disk in
    let here : newest_place c.self.inside.images c.args.n ≡ Some c.in-Some.place = sym c.newest_place.ensures.place ∙ c.in-Some.is in
    subst (λ old. ReadsImage old (archive_of disk' c.self.inside.digests c.self.inside.images) old.pages old.kept c.args.n c.read_image.result) c.self.view_is
    (reads_image disk disk' c.self.inside.digests c.self.inside.images (newest_of (stored_at disk c.self.inside.digests) c.self.inside.images)
    (newest_of (map.get c.self.inside.digests) c.self.inside.images) c.args.n c.in-Some.place c.read_image.result
    (get-newest_of (map.get c.self.inside.digests) c.self.inside.images c.args.n ∙ ap (option_and_then (map.get c.self.inside.digests)) here)
    (get-newest_of (stored_at disk c.self.inside.digests) c.self.inside.images c.args.n ∙ ap (option_and_then (stored_at disk c.self.inside.digests)) here) c.read_image.ensures)

pub returns-in-Some-clause-whole : goal.returns-in-Some-clause-whole
returns-in-Some-clause-whole g c =
    let disk : DiskView = g.D.Disk.seen c.self.inside.disk in
    let disk' : DiskView = g.D.Disk.seen c.read_image.new.disk in
    is_archive disk' c.self.inside.digests c.self.inside.images c.newest_place.ensures.whole
    (archived_read disk disk' c.self.inside.digests c.self.inside.images c.read_image.ensures.told c.read_image.ensures.stored c.self.invariant)

-- nothing was read
pub returns-in-None-clause-whole : goal.returns-in-None-clause-whole
returns-in-None-clause-whole g c =
    let disk : DiskView = g.D.Disk.seen c.self.inside.disk in
    subst IsArchive c.self.view_is (is_archive disk c.self.inside.digests c.self.inside.images c.newest_place.ensures.whole c.self.invariant)
