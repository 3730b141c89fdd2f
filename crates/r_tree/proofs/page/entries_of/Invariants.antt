-- the entries of the cells so far are there, and there is room for the rest
use Rattle.std.proofs.Common.{◌≡◌, ◌+◌, ◌≤◌, vec_len, vec_capacity}
use Rattle.r_tree.specs.Page.{page_entries}
use Rattle.r_tree.proofs.page.entries_of.Given as goal

abbrev pub invariant-cells : goal.invariant-cells
invariant-cells l = record {
  read : l.entries.items ≡ page_entries l.i l.page;
  room : vec_len l.entries + l.count ≤ vec_capacity l.entries + l.i;
}
