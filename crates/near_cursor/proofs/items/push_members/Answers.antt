-- A member's item goes to the end.
use Rattle.std.proofs.Common.{arith}
use Rattle.near_cursor.specs.NearRanking.{member_found}
use Rattle.rank_cursor.proofs.AlikeLists.{one_pushed}
use Rattle.near_cursor.proofs.items.push_members.Goals as goal

pub members-preserved : goal.members-preserved
members-preserved c =
    let before = c.members.invariant.room in
    let len = c.push_reserved.ensures.len in
    let same = c.push_reserved.ensures.capacity in
    record {
      added = one_pushed (λ i. member_found c.args.goal.now i.0 i.1) c.args.members.now c.members.member-index _
          c.args.found.now.items c.members.found.items c.push_reserved.new.self.items _ c.members-test.true c.members.invariant.added
          c.member_item.ensures c.push_reserved.ensures.items;
      room = omega arith;
    }
