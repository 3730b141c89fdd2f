-- none of the entries so far has the member
use Rattle.std.proofs.Common.{◌≢◌, take}
use Rattle.code_btree.specs.Items.{Each}
use Rattle.r_tree.specs.Entry.{member_of}
use Rattle.r_tree.proofs.remove.place_of.Given as goal

abbrev pub invariant-members : goal.invariant-members
invariant-members l = Each (λ e. member_of e ≢ (l.id, l.rough)) (take l.at l.entries)
