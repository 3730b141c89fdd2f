-- Each is a lemma.
use Rattle.rank_cursor.proofs.CountedItems.{row_is_reach, ceiling_is_reach, nothing_counted}
use Rattle.rank_cursor.proofs.laws.reach_laws.Goals as goal

-- all of them
pub returns : goal.returns
returns c = record { row = row_is_reach; ceiling = ceiling_is_reach; nothing = nothing_counted }
