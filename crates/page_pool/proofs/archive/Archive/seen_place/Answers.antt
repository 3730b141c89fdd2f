use Rattle.std.proofs.Common.{sym, ap, option_and_then, ◌∙◌}
use Rattle.std.specs.FinMap as map
use Rattle.page_pool.specs.Disk.{DiskView}
use Rattle.page_pool.proofs.Archives.{seen_place_is, no_stamp}
use Rattle.page_pool.proofs.archive.Archive.seen_place.Goals as goal

pub returns-in-Some : goal.returns-in-Some
returns-in-Some g c =
    let disk : DiskView = g.D.Disk.seen c.self.inside.disk in
    c.seen_place.ensures ∙ seen_place_is disk c.self.inside.digests c.self.inside.images c.args.slot c.args.n c.in-Some.at (sym c.stamp.ensures.stamp ∙ c.in-Some.is)
    ∙ ap (λ a. option_and_then (λ f. map.get f.places c.args.n) (map.get a.stamps c.args.slot)) c.self.view_is

pub returns-in-None : goal.returns-in-None
returns-in-None g c =
    let disk : DiskView = g.D.Disk.seen c.self.inside.disk in
    sym (ap (option_and_then (λ f. map.get f.places c.args.n)) (no_stamp disk c.self.inside.digests c.self.inside.images c.args.slot (sym c.stamp.ensures.stamp ∙ c.in-None.is)))
    ∙ ap (λ a. option_and_then (λ f. map.get f.places c.args.n) (map.get a.stamps c.args.slot)) c.self.view_is
