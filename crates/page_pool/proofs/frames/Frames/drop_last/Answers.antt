use Rattle.std.proofs.Common.{sym, ap, ◌∙◌}
use Rattle.std.specs.FinMap as map
use Rattle.page_pool.proofs.Maps.{found-remove}
use Rattle.page_pool.proofs.frames.Frames.drop_last.Goals as goal

pub returns-in-Some-clause-sound : goal.returns-in-Some-clause-sound
returns-in-Some-clause-sound c = λ q bytes found.
    ap (λ s. map.get s.pages q) (sym c.self.view_is) ∙ found-remove c.self.inside.table c.in-Some.place q bytes (ap (λ m. map.get m q) (sym c.forget.ensures.pages) ∙ found)
