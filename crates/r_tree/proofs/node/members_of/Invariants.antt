-- the members of the cells so far are there, and there is room for the rest
use Rattle.std.proofs.Common.{◌≡◌, ◌+◌, ◌≤◌, vec_len, vec_capacity}
use Rattle.r_tree.specs.Entry.{members_of}
use Rattle.r_tree.specs.Page.{page_entries}
use Rattle.r_tree.proofs.node.members_of.Given as goal

abbrev pub invariant-cells : goal.invariant-cells
invariant-cells l = record {
  listed : l.list.items ≡ members_of (page_entries l.i l.page);
  room : vec_len l.list + l.count ≤ vec_capacity l.list + l.i;
}
