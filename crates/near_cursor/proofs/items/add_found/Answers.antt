-- A leaf adds no nodes, and the children of an inner node weigh less than it.
use Rattle.std.proofs.Common.{arith}
use Rattle.near_cursor.proofs.NearSearching.{on_ok, members_fall, branches_fall}
use Rattle.near_cursor.proofs.items.add_found.Goals as goal

pub returns-in-Leaf-clause-falls : goal.returns-in-Leaf-clause-falls
returns-in-Leaf-clause-falls c =
    on_ok c.push_members.result (members_fall c.args.goal.now c.args.node c.as_slice.result.now c.args.found.now.items c.push_members.new.found.items) c.push_members.ensures.added

pub returns-else-branches-gt126-clause-falls : goal.returns-else-branches-gt126-clause-falls
returns-else-branches-gt126-clause-falls c =
    on_ok c.push_branches.result
    (branches_fall c.args.goal.now c.in-Some.height c.args.node c.as_slice-branches.result.now (let high = c.in-Some.ensures in omega arith) (let few = c.if-branches-gt126.false in omega arith)
    c.args.found.now.items c.push_branches.new.found.items)
    c.push_branches.ensures.added
