use Rattle.std.proofs.Common.{◌≡◌, Some, is_some, IsTrue, sym, ap, subst, ◌∙◌}
use Rattle.std.specs.FinMap as map
use Rattle.page_pool.specs.Pool.{shown_of, seen_at}
use Rattle.page_pool.proofs.Viewed.{latest_shown, older_is, older_place_live, seen_is}
use Rattle.page_pool.proofs.pool.Pool.is_live_at.Goals as goal

-- an image of the stamp lies at a place
pub returns-then-is_older : goal.returns-then-is_older
returns-then-is_older g c =
    let f = older_is c.self.inside.archive c.args.slot (sym c.is_older.ensures ∙ c.if-is_older.true) in
    c.is_some.ensures ∙ ap is_some c.seen_place.ensures
    ∙ sym (older_place_live c.self.inside.archive c.self.inside.staged c.self.inside.frames c.self.inside.numbers c.self.inside.is_open c.self.inside.gets c.self.inside.damages c.args.slot c.args.n f.0 f.1.0 f.1.1 c.self.invariant.archived)
    ∙ ap (λ s. map.contains_key (seen_at s c.args.slot).pages c.args.n) c.self.view_is

-- the stamp's map is the live one
pub returns : goal.returns
returns g c =
    let live : map.get c.args.self.now.stamps c.args.slot ≡ Some (shown_of c.args.self.now) = subst (λ s. map.get s.stamps c.args.slot ≡ Some (shown_of s)) c.self.view_is
    (latest_shown c.self.inside.archive c.self.inside.staged c.self.inside.frames c.self.inside.numbers c.self.inside.is_open c.self.inside.gets c.self.inside.damages c.args.slot c.self.invariant.archived
    (subst (λ s. IsTrue (map.contains_key s.stamps c.args.slot)) (sym c.self.view_is) c.requires) (sym c.is_older.ensures ∙ c.if-is_older.false)) in
    c.is_live.ensures ∙ sym (ap (λ s. map.contains_key s.pages c.args.n) (seen_is c.args.self.now c.args.slot (shown_of c.args.self.now) live))
