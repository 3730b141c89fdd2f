-- What holds of the fields of a set of ids.
use Rattle.std.specs.Prelude.{◌*◌, ◌^◌, ◌≤◌, length, MatchOption}
use Rattle.best_first.specs.Bits.{HasNoBit, IsLeastBit}
use Rattle.best_first.specs.declared.id_set.IdSet.TheInside.{Inside}

-- Each bit stands for an id of 32 bits, and the least bit is known.
pub record IsIdSet (set : Inside) : Type 0 where
  pub small : 64 * length set.words.items ≤ 2 ^ 32
  pub least : MatchOption set.least (HasNoBit set.words.items) (IsLeastBit set.words.items)
