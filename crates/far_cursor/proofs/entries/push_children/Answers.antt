-- A child goes to the end under the gap of its square.
use Rattle.std.proofs.Common.{arith}
use Rattle.far_cursor.specs.FarRanking.{far_block}
use Rattle.rank_cursor.proofs.AlikeLists.{none_added, one_pushed}
use Rattle.rank_cursor.proofs.LeafEntries.{below_four}
use Rattle.far_cursor.proofs.FarEntries.{block_same}
use Rattle.far_cursor.proofs.entries.push_children.Goals as goal

pub children-init : goal.children-init
children-init c = record {
  added = none_added c.args.found.now.items c.reserve.new.self.items c.reserve.ensures.items;
  room = let ok = c.in_ok-reserve.ensures.ok in omega arith;
}

pub rect_key-gap-requires-clause-rect : goal.rect_key-gap-requires-clause-rect
rect_key-gap-requires-clause-rect c =
    let below = below_four c.args.block c.quarters.result c.children.child-index c.quarters.ensures.value c.children-test.true in
    (c.quarters.ensures.squares c.children.child-index _ below).in_closed_plane

pub children-preserved : goal.children-preserved
children-preserved c =
    let below = below_four c.args.block c.quarters.result c.children.child-index c.quarters.ensures.value c.children-test.true in
    let before = c.children.invariant.room in
    let len = c.push_reserved.ensures.len in
    let same = c.push_reserved.ensures.capacity in
    record {
      added = one_pushed (λ pair. far_block c.args.goal pair.0) c.quarters.result c.children.child-index _
          c.args.found.now.items c.children.found.items c.push_reserved.new.self.items _ below c.children.invariant.added
          (block_same c.args.goal _ c.rect_key-gap.result (c.quarters.ensures.squares c.children.child-index _ below).square c.rect_key-gap.ensures)
          c.push_reserved.ensures.items;
      room = omega arith;
    }
