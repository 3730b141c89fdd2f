-- byte 0 and the count tell
use Rattle.std.proofs.Common.{arith, ◌∙◌}
use Rattle.code_btree.proofs.Nodes.{leaf_told, leaf_is_told}
use Rattle.code_btree.proofs.leaf.leaf_count.Goals as goal

pub returns-then-page-ne1 : goal.returns-then-page-ne1
returns-then-page-ne1 c = λ h. c.if-page-ne1.true (leaf_is_told c.args.page.now h).0

pub returns-then-count-gt127 : goal.returns-then-count-gt127
returns-then-count-gt127 c = λ h. absurd (omega (arith, (leaf_is_told c.args.page.now h).1, c.from-count.ensures ∙ c.half_at.ensures))

pub returns : goal.returns
returns c = leaf_told c.args.page.now _ c.if-page-ne1.false (c.from-count.ensures ∙ c.half_at.ensures) (omega arith)
