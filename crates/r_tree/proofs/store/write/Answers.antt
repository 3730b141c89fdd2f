-- the page was live, and has these bytes
use Rattle.std.proofs.Common.{sym, ◌∙◌}
use Rattle.code_btree.proofs.Stores.{wrote}
use Rattle.r_tree.proofs.store.write.Goals as goal

pub returns-clause-value : goal.returns-clause-value
returns-clause-value g c = wrote c.args.pool.now c.put.new.self c.args.n c.args.page.now (sym c.is_live.ensures ∙ c.if-not-is_live.false) c.in_ok-put.ensures.put
