use Rattle.std.proofs.Common.{ap, ◌∙◌}
use Rattle.std.specs.FinMap as map
use Rattle.page_pool.proofs.staged.Staged.get.Goals as goal

pub returns : goal.returns
returns c = c.get.ensures ∙ ap (λ s. map.get s.changes c.args.n) c.self.view_is
