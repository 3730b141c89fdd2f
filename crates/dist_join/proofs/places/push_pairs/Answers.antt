-- One more block with each of the others goes to the end.
use Rattle.std.proofs.Common.{length, vec_len, vec_capacity}
use Rattle.rank_cursor.proofs.AlikeLists.{none_added, one_added}
use Rattle.dist_join.specs.OverPages.{squares_found}
use Rattle.dist_join.proofs.RoomForPairs.{room_for_all, room_for_one, room_for_others}
use Rattle.dist_join.proofs.places.push_pairs.Goals as goal

pub lefts-init : goal.lefts-init
lefts-init c = record {
  added = none_added c.args.found.now.items c.reserve_pairs.new.found.items c.reserve_pairs.ensures.items;
  room = room_for_all (vec_len c.reserve_pairs.new.found) (vec_capacity c.reserve_pairs.new.found) (length c.args.lefts.now) (length c.args.rights.now) c.in_ok-reserve_pairs.ensures.room;
}

pub push_with-requires-clause-room : goal.push_with-requires-clause-room
push_with-requires-clause-room c =
    room_for_one (vec_len c.lefts.found) (vec_capacity c.lefts.found) (length c.args.lefts.now) (length c.args.rights.now) c.lefts.left-index c.lefts.invariant.room c.lefts-test.true

pub lefts-preserved : goal.lefts-preserved
lefts-preserved c = record {
  added = one_added (squares_found c.args.rights.now) c.args.lefts.now c.lefts.left-index _
      c.args.found.now.items c.lefts.found.items c.push_with.new.found.items c.lefts-test.true c.lefts.invariant.added c.push_with.ensures.added;
  room = room_for_others (vec_len c.lefts.found) (vec_capacity c.lefts.found) (vec_len c.push_with.new.found) (vec_capacity c.push_with.new.found)
      (length c.args.lefts.now) (length c.args.rights.now) c.lefts.left-index
      c.lefts.invariant.room c.push_with.ensures.len c.push_with.ensures.capacity;
}
