-- An entry's item goes to the end, and a mark adds nothing.
use Rattle.std.proofs.Common.{◌≤◌, arith, sym, ap, ◌∙◌, option_to_list, length, get_or}
use Rattle.rank_cursor.proofs.AlikeLists.{none_added, one_added}
use Rattle.rank_cursor.proofs.LeafEntries.{pair_found, some_found, none_found, all_found}
use Rattle.rank_cursor.proofs.entries.push_leaf.Goals as goal
use Rattle.rank_cursor.proofs.entries.push_leaf.Goals.{in-Some, in_default}

pub entries-init : goal.entries-init
entries-init c = record {
  added = none_added c.args.found.now.items c.reserve.new.self.items c.reserve.ensures.items;
  room = let ok = c.in_ok-reserve.ensures.ok in omega arith;
}

pub entries-preserved : goal.entries-preserved
entries-preserved c =
    elim c.match-listed_of.branch [
      | in-Some w ↦ rw w.found-is (record {
        added = one_added (pair_found c.args.goal.now c.args.leaf) c.pairs-pairs.result.now c.entries.pair-index (0, 0)
            c.args.found.now.items c.entries.found.items w.push_entry.new.found.items c.entries-test.true c.entries.invariant.added
            (some_found c.args.goal.now c.args.leaf (get_or c.pairs-pairs.result.now c.entries.pair-index (0, 0)) w.in-Some.listed c.entries.found.items w.push_entry.new.found.items
            (sym (ap option_to_list w.in-Some.is) ∙ c.listed_of.ensures.listed) w.push_entry.ensures.added);
        room = let before = c.entries.invariant.room in let len = w.push_entry.ensures.len in let same = w.push_entry.ensures.capacity in omega arith;
      })
      | in_default w ↦ rw w.found-is (record {
        added = one_added (pair_found c.args.goal.now c.args.leaf) c.pairs-pairs.result.now c.entries.pair-index (0, 0)
            c.args.found.now.items c.entries.found.items c.entries.found.items c.entries-test.true c.entries.invariant.added
            (none_found c.args.goal.now c.args.leaf (get_or c.pairs-pairs.result.now c.entries.pair-index (0, 0)) c.entries.found.items
            (sym (ap option_to_list w.in_default.is) ∙ c.listed_of.ensures.listed));
        room = let before = c.entries.invariant.room in omega arith;
      })
    ]

pub returns-clause-added : goal.returns-clause-added
returns-clause-added c =
    let end : length c.pairs-pairs.result.now ≤ c.entries.pair-index = let past = c.entries-test.false in omega arith in
    all_found c.args.goal.now c.args.leaf c.pairs-pairs.result.now c.entries.pair-index c.args.list.now c.args.found.now.items c.entries.found.items end c.pairs-pairs.ensures c.entries.invariant.added
