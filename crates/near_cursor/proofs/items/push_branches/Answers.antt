-- A child goes to the end under the gap of its rectangle.
use Rattle.std.proofs.Common.{arith, refl}
use Rattle.near_cursor.specs.NearRanking.{branch_found}
use Rattle.rank_cursor.proofs.AlikeLists.{one_pushed}
use Rattle.near_cursor.proofs.items.push_branches.Goals as goal

pub branches-preserved : goal.branches-preserved
branches-preserved c =
    let before = c.branches.invariant.room in
    let len = c.push_reserved.ensures.len in
    let same = c.push_reserved.ensures.capacity in
    record {
      added = one_pushed (branch_found c.args.goal.now c.args.height) c.args.branches.now c.branches.bound-index _
          c.args.found.now.items c.branches.found.items c.push_reserved.new.self.items _ c.branches-test.true c.branches.invariant.added
          (c.rect_gap-gap.ensures, refl) c.push_reserved.ensures.items;
      room = omega arith;
    }
