-- the entries so far are written, and the head of the page stays
use Rattle.r_tree.proofs.Cells.{Written}
use Rattle.r_tree.proofs.page.write_entries.Given as goal

abbrev pub invariant-entries : goal.invariant-entries
invariant-entries l = Written l.page l.initial.page l.entries l.i
