-- The ids so far.
use Rattle.std.proofs.Common.{All, take}
use Rattle.rank_cursor.proofs.AtZeroEntries.{PairHasBit}
use Rattle.rank_cursor.proofs.at_zero.have_bits.Given as goal

-- each id so far has a bit
abbrev pub invariant-ids : goal.invariant-ids
invariant-ids l = All (PairHasBit l.queue.below) (take l.pair-index l.pairs)
