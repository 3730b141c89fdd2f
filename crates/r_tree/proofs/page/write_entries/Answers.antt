-- each entry is written behind those before it
use Rattle.r_tree.proofs.Cells.{written_more, written_none, written_all}
use Rattle.r_tree.proofs.page.write_entries.Goals as goal

pub entries-init : goal.entries-init
entries-init c = written_none c.args.page.now c.args.entries.now c.told-page

pub entries-preserved : goal.entries-preserved
entries-preserved c = written_more c.entries.page c.paste.new.page c.args.page.now c.entry_bytes.result c.args.entries.now c.entries.i _ c.entries-test.true c.requires c.entry_bytes.ensures.long c.entry_bytes.ensures.value c.paste.ensures c.entries.invariant

pub returns-clause-entries : goal.returns-clause-entries
returns-clause-entries c = written_all c.entries.page c.args.page.now c.args.entries.now c.entries.i c.entries-test.false c.entries.auto.i-end c.entries.invariant

pub returns-clause-head : goal.returns-clause-head
returns-clause-head c = c.entries.invariant.head
