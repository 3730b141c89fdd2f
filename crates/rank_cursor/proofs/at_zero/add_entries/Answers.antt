-- An entry joins after those before it.
use Rattle.std.proofs.Common.{sym, subst, arith, length, get_or, ◌≤◌, ◌^◌}
use Rattle.best_first.specs.RowsAtZero.{zero_gap}
use Rattle.rank_cursor.specs.AtZero.{HaveBits}
use Rattle.rank_cursor.proofs.LeafEntries.{pair_found}
use Rattle.rank_cursor.proofs.AtZeroEntries.{PairHasBit, one_joined, nothing_joined, all_joined, few_pairs, bits_apart}
use Rattle.rank_cursor.proofs.at_zero.add_entries.Goals as goal

pub entries-init : goal.entries-init
entries-init c = record { inside = omega arith; added = nothing_joined c.args.queue.now }

pub add_pair-requires-clause-bit : goal.add_pair-requires-clause-bit
add_pair-requires-clause-bit c =
    subst (λ n. PairHasBit n (get_or c.pairs-pairs.result.now c.entries.at (0, 0))) (sym c.entries.invariant.added.below)
    (bits_apart c.args.queue.now.below c.pairs-pairs.result.now (subst (HaveBits c.args.queue.now.below) (sym c.pairs-pairs.ensures) c.requires.bits) c.entries.at (0, 0)
    (let here = c.entries-test.true in omega arith))

pub entries-preserved : goal.entries-preserved
entries-preserved c = record {
  inside = let here = c.entries-test.true in omega arith;
  added = one_joined (pair_found c.args.goal.now zero_gap) c.pairs-pairs.result.now c.entries.at (0, 0)
      c.args.queue.now.nodes c.args.queue.now c.entries.queue c.add_pair.new.queue (let here = c.entries-test.true in omega arith) c.entries.invariant.added c.add_pair.ensures;
}

pub returns-clause-added : goal.returns-clause-added
returns-clause-added c =
    let end : length c.pairs-pairs.result.now ≤ c.entries.at = let past = c.entries-test.false in omega arith in
    all_joined c.args.goal.now c.pairs-pairs.result.now c.entries.at c.args.list.now c.args.queue.now.nodes c.args.queue.now c.entries.queue end c.pairs-pairs.ensures c.entries.invariant.added

pub returns-clause-few : goal.returns-clause-few
returns-clause-few c = few_pairs c.args.goal.now c.pairs-pairs.result.now c.args.list.now (2 ^ 64) c.pairs-pairs.ensures
    (let end = c.entries-test.false in let fits = c.entries.auto.at-fits in omega arith)
