-- What one more entry of the left leaf gives goes to the end.
use Rattle.std.proofs.Common.{length, vec_len, vec_capacity}
use Rattle.sand_base.specs.declared.rough.Rough.TheVariants as rough
use Rattle.rank_cursor.proofs.AlikeLists.{none_added, one_added}
use Rattle.dist_join.specs.OverPages.{row_found}
use Rattle.dist_join.proofs.RoomForPairs.{room_for_all, room_for_one, room_for_others}
use Rattle.dist_join.proofs.entries.push_leaves.Goals as goal

pub lefts-init : goal.lefts-init
lefts-init c = record {
  added = none_added c.args.found.now.items c.reserve_pairs.new.found.items c.reserve_pairs.ensures.items;
  room = room_for_all (vec_len c.reserve_pairs.new.found) (vec_capacity c.reserve_pairs.new.found) (length c.args.lefts.now) (length c.args.rights.now) c.in_ok-reserve_pairs.ensures.room;
}

pub push_row-requires-clause-room : goal.push_row-requires-clause-room
push_row-requires-clause-room c =
    room_for_one (vec_len c.lefts.found) (vec_capacity c.lefts.found) (length c.args.lefts.now) (length c.args.rights.now) c.lefts.left-index c.lefts.invariant.room c.lefts-test.true

pub lefts-preserved : goal.lefts-preserved
lefts-preserved c = record {
  added = one_added (row_found c.args.leaf c.args.rights.now) c.args.lefts.now c.lefts.left-index (record { id = 0; rough = rough.Point (record { x = 0; y = 0 }) })
      c.args.found.now.items c.lefts.found.items c.push_row.new.found.items c.lefts-test.true c.lefts.invariant.added c.push_row.ensures.added;
  room = room_for_others (vec_len c.lefts.found) (vec_capacity c.lefts.found) (vec_len c.push_row.new.found) (vec_capacity c.push_row.new.found)
      (length c.args.lefts.now) (length c.args.rights.now) c.lefts.left-index
      c.lefts.invariant.room c.push_row.ensures.len c.push_row.ensures.capacity;
}
