use Rattle.std.proofs.Common.{sym, ◌∙◌}
use Rattle.page_pool.proofs.Seen.{is_unstaged}
use Rattle.page_pool.proofs.Loads.{not_there}
use Rattle.page_pool.proofs.pool.Pool.find.Goals as goal

-- the look at the staged changes found none
pub used_page-requires : goal.used_page-requires
used_page-requires g c = is_unstaged c.self.inside.staged.changes c.args.n (sym c.get.ensures ∙ not_there c.get.result (sym c.is_some.ensures ∙ c.if-is_some.false))

pub read_in-requires : goal.read_in-requires
read_in-requires g c = is_unstaged c.self.inside.staged.changes c.args.n (sym c.get.ensures ∙ not_there c.get.result (sym c.is_some.ensures ∙ c.if-is_some.false))
