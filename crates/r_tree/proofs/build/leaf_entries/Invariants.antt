-- The members so far are listed, and there is room for the rest.
use Rattle.std.proofs.Common.{◌≡◌, ◌+◌, ◌≤◌, length, take, vec_len, vec_capacity}
use Rattle.r_tree.specs.Entry.{members_of}
use Rattle.r_tree.proofs.build.leaf_entries.Given as goal

abbrev pub invariant-members : goal.invariant-members
invariant-members l = record {
  listed : members_of l.entries.items ≡ take l.member-index l.list;
  room : vec_len l.entries + length l.list ≤ vec_capacity l.entries + l.member-index;
}
