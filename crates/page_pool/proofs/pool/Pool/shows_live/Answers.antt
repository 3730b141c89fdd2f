use Rattle.std.proofs.Common.{◌≡◌, Some, IsTrue, sym, subst, ◌∙◌}
use Rattle.std.specs.FinMap as map
use Rattle.page_pool.specs.Pool.{shown_of}
use Rattle.page_pool.proofs.Viewed.{latest_shown, not_true}
use Rattle.page_pool.proofs.pool.Pool.shows_live.Goals as goal

-- no command began since the stamp was taken
pub returns : goal.returns
returns g c = λ late.
    subst (λ s. map.get s.stamps c.args.slot ≡ Some (shown_of s)) c.self.view_is
    (latest_shown c.self.inside.archive c.self.inside.staged c.self.inside.frames c.self.inside.numbers c.self.inside.is_open c.self.inside.gets c.self.inside.damages c.args.slot c.self.invariant.archived
    (subst (λ s. IsTrue (map.contains_key s.stamps c.args.slot)) (sym c.self.view_is) c.requires) (sym c.is_older.ensures ∙ not_true c.is_older.result late))
