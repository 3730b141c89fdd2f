-- What the entries give takes the place of the block.
use Rattle.std.proofs.Common.{sym, subst}
use Rattle.z_code.specs.declared.block.Block.{Block}
use Rattle.best_first.specs.ZeroItems.{ZeroItems}
use Rattle.rank_cursor.specs.AtZero.{HaveBits, list_found}
use Rattle.rank_cursor.proofs.AlikeLists.{all_alike_itself}
use Rattle.rank_cursor.proofs.AtZeroEntries.{from_taken}
use Rattle.rank_cursor.proofs.at_zero.open_leaf.Goals as goal

pub add_entries-requires-clause-bits : goal.add_entries-requires-clause-bits
add_entries-requires-clause-bits c =
    let (rest, ends) = c.requires.next in
    subst (λ (q : ZeroItems Block). HaveBits q.below c.args.list.now) (sym (c.take_node.ensures c.args.block rest ends)) (c.have_bits.ensures.0 c.if-not-have_bits.false)

pub returns-clause-opened : goal.returns-clause-opened
returns-clause-opened c = record {
  found = list_found c.args.goal.now c.args.list.now;
  alike = all_alike_itself (list_found c.args.goal.now c.args.list.now);
  few = c.add_entries.ensures.few;
  opens = λ rest ends. from_taken rest (list_found c.args.goal.now c.args.list.now) c.args.queue.now c.take_node.new.self c.add_entries.new.queue
      (c.take_node.ensures c.args.block rest ends) c.add_entries.ensures.added;
}
