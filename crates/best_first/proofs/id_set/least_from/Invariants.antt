use Rattle.std.proofs.Common.{◌≡◌, ℕ, ◌*◌, ◌<◌, false}
use Rattle.best_first.specs.Bits.{has_bit}
use Rattle.best_first.proofs.id_set.least_from.Given as goal

-- no word up to the place has a bit
abbrev pub invariant-loop-place : goal.invariant-loop-place
invariant-loop-place l = (k : ℕ) → k < 64 * l.place → has_bit l.words k ≡ false
