use Rattle.std.proofs.Common.{◌≡◌, ℕ, ◌+◌, ◌-◌, None, length, get_or}
use Rattle.page_pool.proofs.table.grow.Given as goal

-- the places that were added are empty
abbrev pub invariant-places : goal.invariant-places
invariant-places g l = (q : ℕ) → get_or l.places.items q None ≡ get_or l.initial.places.items q None

-- fewer places are wanted each time
abbrev pub decreases-places : goal.decreases-places
decreases-places g l = l.place + 1 - length l.places.items
