-- the page was live, and is no more
use Rattle.std.proofs.Common.{sym, ◌∙◌}
use Rattle.code_btree.proofs.Stores.{freed}
use Rattle.r_tree.proofs.store.release.Goals as goal

pub returns-clause-value : goal.returns-clause-value
returns-clause-value g c = freed c.args.pool.now c.free.new.self c.args.n (sym c.is_live.ensures ∙ c.if-not-is_live.false) c.in_ok-free.ensures.freed
