-- What an entry lists joins, and a mark adds nothing.
use Rattle.std.proofs.Common.{sym, ap, ◌∙◌, option_to_list}
use Rattle.rank_cursor.proofs.AtZeroEntries.{some_bit}
use Rattle.rank_cursor.proofs.at_zero.add_pair.Goals as goal

pub add_entry-requires-clause-bit : goal.add_entry-requires-clause-bit
add_entry-requires-clause-bit c =
    (some_bit c.args.queue.now.below c.args.pair c.in-Some.listed (sym (ap option_to_list c.in-Some.is) ∙ c.listed_of.ensures.listed)).1 c.requires.bit
