-- byte 0 and the count tell
use Rattle.std.proofs.Common.{sym, ◌∙◌}
use Rattle.r_tree.proofs.Cells.{node_made}
use Rattle.r_tree.proofs.page.node_count.Goals as goal

pub returns-clause-value : goal.returns-clause-value
returns-clause-value c = node_made c.args.page.now c.from-count.result c.kind_of.result c.args.inner c.kind_of.ensures c.if-page-kind_of.false
    (sym (c.from-count.ensures ∙ c.half_at.ensures)) c.if-count-gt126.false
