use Rattle.std.proofs.Common.{◌≡◌, false, IsNone, sym, subst}
use Rattle.page_pool.specs.Archive.{Releases}
use Rattle.page_pool.specs.Inside.{state_of}
use Rattle.page_pool.specs.Stamps.{LetsMapGo}
use Rattle.page_pool.proofs.Written.{closed_is}
use Rattle.page_pool.proofs.Keeping.{lets_go_state, whole-left}
use Rattle.page_pool.proofs.pool.Pool.release.Goals as goal

pub invariant_of-self : goal.invariant_of-self
invariant_of-self g c =
    let closed : c.self.inside.is_open ≡ false = closed_is c.self.inside.is_open c.self.inside.archive.pages (subst (λ s. IsNone s.beginning) (sym c.self.view_is) c.requires.closed.0) in
    let lets : Releases c.self.inside.archive c.release.new.self c.args.stamp = subst (Releases c.self.inside.archive c.release.new.self) c.slot.ensures c.release.ensures.released in
    whole-left c.self.inside.archive c.release.new.self c.self.inside.staged.changes c.self.inside.frames c.self.inside.numbers c.self.inside.is_open c.args.stamp closed lets c.release.ensures.whole c.self.invariant

pub returns : goal.returns
returns g c =
    let lets : Releases c.self.inside.archive c.release.new.self c.args.stamp = subst (Releases c.self.inside.archive c.release.new.self) c.slot.ensures c.release.ensures.released in
    subst (λ old. LetsMapGo old (state_of c.release.new.self c.self.inside.staged c.self.inside.frames c.self.inside.numbers c.self.inside.is_open c.self.inside.gets c.self.inside.damages) c.args.stamp) c.self.view_is
    (lets_go_state c.self.inside.archive c.release.new.self c.self.inside.staged c.self.inside.frames c.self.inside.numbers c.self.inside.is_open c.self.inside.gets c.self.inside.damages c.args.stamp lets)
