use Rattle.std.proofs.Common.{ℕ, OnOk, sym, subst}
use Rattle.page_pool.specs.Disk.{DiskView}
use Rattle.page_pool.specs.Archive.{StandsWritten, Advances}
use Rattle.page_pool.specs.InsideArchive.{archive_of}
use Rattle.page_pool.proofs.ArchiveChanges.{is_archive}
use Rattle.page_pool.proofs.ArchiveStamps.{advanced_answer}
use Rattle.page_pool.proofs.archive.Archive.advance.Goals as goal

-- each newest image stands, so stamps of the command before see what stands
pub invariant_of-self : goal.invariant_of-self
invariant_of-self g c =
    let disk : DiskView = g.D.Disk.seen c.self.inside.disk in
    (advanced_answer disk c.self.inside.digests c.self.inside.images c.advance.new.self c.advance.result c.advance.ensures.before
    (subst (λ a. (n : ℕ) → StandsWritten a.disk.told a.pages a.kept n) (sym c.self.view_is) c.requires) c.advance.ensures.begun c.advance.ensures.unchanged c.self.invariant).0

pub returns-clause-begun : goal.returns-clause-begun
returns-clause-begun g c =
    let disk : DiskView = g.D.Disk.seen c.self.inside.disk in
    subst (λ old. OnOk c.advance.result (Advances old (archive_of disk c.self.inside.digests c.advance.new.self))) c.self.view_is
    (advanced_answer disk c.self.inside.digests c.self.inside.images c.advance.new.self c.advance.result c.advance.ensures.before
    (subst (λ a. (n : ℕ) → StandsWritten a.disk.told a.pages a.kept n) (sym c.self.view_is) c.requires) c.advance.ensures.begun c.advance.ensures.unchanged c.self.invariant).1

pub returns-clause-whole : goal.returns-clause-whole
returns-clause-whole g c =
    let disk : DiskView = g.D.Disk.seen c.self.inside.disk in
    is_archive disk c.self.inside.digests c.advance.new.self c.advance.ensures.whole
    (advanced_answer disk c.self.inside.digests c.self.inside.images c.advance.new.self c.advance.result c.advance.ensures.before
    (subst (λ a. (n : ℕ) → StandsWritten a.disk.told a.pages a.kept n) (sym c.self.view_is) c.requires) c.advance.ensures.begun c.advance.ensures.unchanged c.self.invariant).0
