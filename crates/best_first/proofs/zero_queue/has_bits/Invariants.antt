-- The ids so far.
use Rattle.std.proofs.Common.{All, take}
use Rattle.best_first.specs.ZeroItems.{HasBit}
use Rattle.best_first.proofs.zero_queue.has_bits.Given as goal

-- each id so far has a bit
abbrev pub invariant-found : goal.invariant-found
invariant-found g l = All (HasBit l.ids.below) (take l.item-index l.found)
