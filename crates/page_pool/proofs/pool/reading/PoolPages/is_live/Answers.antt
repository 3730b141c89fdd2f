use Rattle.std.proofs.Common.{is_some, sym, ap, ◌∙◌}
use Rattle.std.specs.FinMap as map
use Rattle.page_pool.proofs.Whole.{live_staged, live_unstaged}
use Rattle.page_pool.proofs.pool.reading.PoolPages.is_live.Goals as goal

pub returns-in-Some : goal.returns-in-Some
returns-in-Some g c =
    c.is_some.ensures
    ∙ sym (live_staged c.self.inside.archive c.self.inside.staged.changes c.self.inside.frames c.self.inside.numbers c.self.inside.is_open c.self.invariant c.args.n c.in-Some.change.now
    (sym c.in-Some.ensures))
    ∙ ap (λ s. map.contains_key s.pages c.args.n) c.self.view_is

pub returns-in-None : goal.returns-in-None
returns-in-None g c =
    c.is_some-in-None.ensures
    ∙ ap is_some c.place.ensures
    ∙ sym (c.self.invariant.archived.live.keys c.args.n)
    ∙ sym (live_unstaged c.self.inside.archive c.self.inside.staged.changes c.self.inside.frames c.self.inside.numbers c.self.inside.is_open c.self.invariant c.args.n (sym c.in-None.ensures))
    ∙ ap (λ s. map.contains_key s.pages c.args.n) c.self.view_is
