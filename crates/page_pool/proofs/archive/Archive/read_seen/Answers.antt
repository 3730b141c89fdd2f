use Rattle.std.proofs.Common.{◌<◌, IfSome, sym, subst, ◌∙◌}
use Rattle.std.specs.FinMap as map
use Rattle.page_pool.specs.Disk.{DiskView}
use Rattle.page_pool.specs.Archive.{IsArchive, ReadsImage}
use Rattle.page_pool.specs.InsideArchive.{archive_of}
use Rattle.page_pool.proofs.ArchiveChanges.{is_archive}
use Rattle.page_pool.proofs.ArchiveCalls.{archived_read, seen_stored, reads_seen}
use Rattle.page_pool.proofs.archive.Archive.read_seen.Goals as goal

-- no stamp is there
pub returns-in_default-clause-whole : goal.returns-in_default-clause-whole
returns-in_default-clause-whole g c =
    let disk : DiskView = g.D.Disk.seen c.self.inside.disk in
    subst IsArchive c.self.view_is (is_archive disk c.self.inside.digests c.self.inside.images c.stamp.ensures.whole c.self.invariant)

-- what the stamp sees stands at its place
pub read_image-requires : goal.read_image-requires
read_image-requires g c =
    let disk : DiskView = g.D.Disk.seen c.self.inside.disk in
    seen_stored disk c.self.inside.digests c.self.inside.images c.args.slot c.in-Some.at c.args.n c.in-Some-seen_place.place (sym c.stamp.ensures.stamp ∙ c.in-Some.is)
    (sym c.seen_place.ensures ∙ c.in-Some-seen_place.is)
    (subst (λ a. IfSome (map.get a.stamps c.args.slot) (λ f. f.at < a.begun)) (sym c.self.view_is) c.requires) c.self.invariant

pub returns-in-Some-seen_place-clause-read : goal.returns-in-Some-seen_place-clause-read
returns-in-Some-seen_place-clause-read g c =
    let disk : DiskView = g.D.Disk.seen c.self.inside.disk in
    let disk' : DiskView = g.D.Disk.seen c.read_image.new.disk in
    subst (λ old. IfSome (map.get old.stamps c.args.slot)
    (λ f. ReadsImage old (archive_of disk' c.self.inside.digests c.self.inside.images) f.pages f.kept c.args.n c.read_image.result)) c.self.view_is
    (reads_seen disk disk' c.self.inside.digests c.self.inside.images c.args.slot c.in-Some.at c.args.n c.in-Some-seen_place.place c.read_image.result
    (sym c.stamp.ensures.stamp ∙ c.in-Some.is) (sym c.seen_place.ensures ∙ c.in-Some-seen_place.is) c.read_image.ensures)

pub returns-in-Some-seen_place-clause-whole : goal.returns-in-Some-seen_place-clause-whole
returns-in-Some-seen_place-clause-whole g c =
    let disk : DiskView = g.D.Disk.seen c.self.inside.disk in
    let disk' : DiskView = g.D.Disk.seen c.read_image.new.disk in
    is_archive disk' c.self.inside.digests c.self.inside.images c.stamp.ensures.whole
    (archived_read disk disk' c.self.inside.digests c.self.inside.images c.read_image.ensures.told c.read_image.ensures.stored c.self.invariant)

-- nothing was read
pub returns-in-None-clause-whole : goal.returns-in-None-clause-whole
returns-in-None-clause-whole g c =
    let disk : DiskView = g.D.Disk.seen c.self.inside.disk in
    subst IsArchive c.self.view_is (is_archive disk c.self.inside.digests c.self.inside.images c.stamp.ensures.whole c.self.invariant)
