use Rattle.std.proofs.Common.{sym, ap, ◌∙◌}
use Rattle.std.specs.FinSet as set
use Rattle.page_pool.specs.Images.{ImagesState, images_of, is_home_seen, seen_homes}
use Rattle.page_pool.proofs.TurnCounts.{contains-seen_homes}
use Rattle.page_pool.proofs.images.Images.is_home_seen.Goals as goal

pub returns-in-Some : goal.returns-in-Some
returns-in-Some c =
    let s : ImagesState = images_of c.self.inside.homes c.self.inside.past c.self.inside.held c.self.inside.begun c.self.inside.changed c.self.inside.top in
    c.sees.ensures ∙ ap (is_home_seen s.held s.begun) c.in-Some.ensures ∙ sym (contains-seen_homes s c.args.n) ∙ ap (λ x. set.contains (seen_homes x) c.args.n) c.self.view_is

pub returns-in-None : goal.returns-in-None
returns-in-None c =
    let s : ImagesState = images_of c.self.inside.homes c.self.inside.past c.self.inside.held c.self.inside.begun c.self.inside.changed c.self.inside.top in
    ap (is_home_seen s.held s.begun) c.in-None.ensures ∙ sym (contains-seen_homes s c.args.n) ∙ ap (λ x. set.contains (seen_homes x) c.args.n) c.self.view_is
