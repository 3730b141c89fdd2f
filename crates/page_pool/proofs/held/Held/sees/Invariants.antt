use Rattle.std.proofs.Common.{◌≡◌, ◌<◌, ℕ, false}
use Rattle.std.specs.FinMap as map
use Rattle.page_pool.specs.Images.{is_seen_by}
use Rattle.page_pool.proofs.held.Held.sees.Given as goal

-- none of the slots so far
abbrev pub invariant-slots : goal.invariant-slots
invariant-slots l = (id : ℕ) → id < l.slot → is_seen_by l.made l.until (map.get l.self id) ≡ false
