use Rattle.std.proofs.Common.{Ok, Err, subst}
use Rattle.std.proofs.lemmas.Result.{err_from_is_err_and}
use Rattle.page_pool.specs.declared.fault.PageFault.TheVariants.{Memory}
use Rattle.page_pool.specs.Disk.{DiskView}
use Rattle.page_pool.specs.Archive.{IsArchive, WritesImage}
use Rattle.page_pool.specs.InsideArchive.{archive_of}
use Rattle.page_pool.proofs.ArchiveChanges.{is_archive}
use Rattle.page_pool.proofs.ArchiveCalls.{write_kept, write_unsettled, write_made}
use Rattle.page_pool.proofs.archive.Archive.write.Goals as goal

-- no place was left
pub returns-in_err-place-clause-whole : goal.returns-in_err-place-clause-whole
returns-in_err-place-clause-whole g c =
    let disk : DiskView = g.D.Disk.seen c.self.inside.disk in
    subst IsArchive c.self.view_is (is_archive disk c.self.inside.digests c.self.inside.images c.target.ensures.whole c.self.invariant)

-- the disk or memory for the digest was refused: the place was free
pub invariant_of-self : goal.invariant_of-self
invariant_of-self g c =
    let disk : DiskView = g.D.Disk.seen c.self.inside.disk in
    let disk' : DiskView = g.D.Disk.seen c.store.new.disk in
    (write_kept disk disk' c.self.inside.digests c.store.new.digests c.self.inside.images c.args.n c.in_ok-place.place c.args.page.now c.in_err-store.field-0.0
    c.target.ensures.whole c.in_ok-place.ensures.free c.in_err-store.ensures c.self.invariant).0

pub returns-in_err-store-clause-writes : goal.returns-in_err-store-clause-writes
returns-in_err-store-clause-writes g c =
    let disk : DiskView = g.D.Disk.seen c.self.inside.disk in
    let disk' : DiskView = g.D.Disk.seen c.store.new.disk in
    let p = err_from_is_err_and c.from_residual-in_err-store.result c.from_residual-in_err-store.ensures.1 in
    rw (p.1, p.2)
    (subst (λ old. WritesImage old (archive_of disk' c.store.new.digests c.self.inside.images) c.args.n c.args.page.now (Err c.in_err-store.field-0.0)) c.self.view_is
    (write_kept disk disk' c.self.inside.digests c.store.new.digests c.self.inside.images c.args.n c.in_ok-place.place c.args.page.now c.in_err-store.field-0.0
    c.target.ensures.whole c.in_ok-place.ensures.free c.in_err-store.ensures c.self.invariant).1.0)

pub returns-in_err-store-clause-whole : goal.returns-in_err-store-clause-whole
returns-in_err-store-clause-whole g c =
    let disk : DiskView = g.D.Disk.seen c.self.inside.disk in
    let disk' : DiskView = g.D.Disk.seen c.store.new.disk in
    (write_kept disk disk' c.self.inside.digests c.store.new.digests c.self.inside.images c.args.n c.in_ok-place.place c.args.page.now c.in_err-store.field-0.0
    c.target.ensures.whole c.in_ok-place.ensures.free c.in_err-store.ensures c.self.invariant).1.1

-- memory for the books was refused
pub returns-in_err-settle-clause-writes : goal.returns-in_err-settle-clause-writes
returns-in_err-settle-clause-writes g c =
    let disk : DiskView = g.D.Disk.seen c.self.inside.disk in
    let disk' : DiskView = g.D.Disk.seen c.store.new.disk in
    let p = err_from_is_err_and c.from_residual-in_err-settle.result c.from_residual-in_err-settle.ensures.1 in
    rw (p.1, p.2)
    (subst (λ old. WritesImage old (archive_of disk' c.store.new.digests c.settle.new.self) c.args.n c.args.page.now (Err Memory)) c.self.view_is
    (write_unsettled c.in_ok-store.field-0 disk disk' c.self.inside.digests c.store.new.digests c.self.inside.images c.settle.new.self c.args.n c.in_ok-place.place c.args.page.now
    c.target.ensures.whole c.in_ok-place.ensures.free c.in_ok-store.ensures c.in_err-settle.ensures.unchanged c.self.invariant).1.0)

pub returns-in_err-settle-clause-whole : goal.returns-in_err-settle-clause-whole
returns-in_err-settle-clause-whole g c =
    let disk : DiskView = g.D.Disk.seen c.self.inside.disk in
    let disk' : DiskView = g.D.Disk.seen c.store.new.disk in
    (write_unsettled c.in_ok-store.field-0 disk disk' c.self.inside.digests c.store.new.digests c.self.inside.images c.settle.new.self c.args.n c.in_ok-place.place c.args.page.now
    c.target.ensures.whole c.in_ok-place.ensures.free c.in_ok-store.ensures c.in_err-settle.ensures.unchanged c.self.invariant).1.1

-- the page was written
pub invariant_of-self-2 : goal.invariant_of-self-2
invariant_of-self-2 g c =
    let disk : DiskView = g.D.Disk.seen c.self.inside.disk in
    let disk' : DiskView = g.D.Disk.seen c.store.new.disk in
    (write_made c.in_ok-store.field-0 disk disk' c.self.inside.digests c.store.new.digests c.self.inside.images c.settle.new.self c.args.n c.in_ok-place.place c.args.page.now
    c.settle.ensures.whole c.in_ok-place.ensures.free c.in_ok-store.ensures c.in_ok-settle.ensures.settled c.self.invariant).0

pub returns-clause-writes : goal.returns-clause-writes
returns-clause-writes g c =
    let disk : DiskView = g.D.Disk.seen c.self.inside.disk in
    let disk' : DiskView = g.D.Disk.seen c.store.new.disk in
    subst (λ old. WritesImage old (archive_of disk' c.store.new.digests c.settle.new.self) c.args.n c.args.page.now (Ok c.in_ok-place.place)) c.self.view_is
    (write_made c.in_ok-store.field-0 disk disk' c.self.inside.digests c.store.new.digests c.self.inside.images c.settle.new.self c.args.n c.in_ok-place.place c.args.page.now
    c.settle.ensures.whole c.in_ok-place.ensures.free c.in_ok-store.ensures c.in_ok-settle.ensures.settled c.self.invariant).1.0

pub returns-clause-whole : goal.returns-clause-whole
returns-clause-whole g c =
    let disk : DiskView = g.D.Disk.seen c.self.inside.disk in
    let disk' : DiskView = g.D.Disk.seen c.store.new.disk in
    (write_made c.in_ok-store.field-0 disk disk' c.self.inside.digests c.store.new.digests c.self.inside.images c.settle.new.self c.args.n c.in_ok-place.place c.args.page.now
    c.settle.ensures.whole c.in_ok-place.ensures.free c.in_ok-store.ensures c.in_ok-settle.ensures.settled c.self.invariant).1.1
