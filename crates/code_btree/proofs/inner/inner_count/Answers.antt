-- byte 0 and the count tell
use Rattle.std.proofs.Common.{arith, ◌∙◌}
use Rattle.code_btree.proofs.Nodes.{inner_told, inner_is_told}
use Rattle.code_btree.proofs.inner.inner_count.Goals as goal

pub returns-then-page-ne2 : goal.returns-then-page-ne2
returns-then-page-ne2 c = λ h. c.if-page-ne2.true (inner_is_told c.args.page.now h).0

pub returns-then-count-gt169 : goal.returns-then-count-gt169
returns-then-count-gt169 c = λ h. absurd (omega (arith, (inner_is_told c.args.page.now h).1, c.from-count.ensures ∙ c.half_at.ensures))

pub returns : goal.returns
returns c = inner_told c.args.page.now _ c.if-page-ne2.false (c.from-count.ensures ∙ c.half_at.ensures) (omega arith)
