use Rattle.std.proofs.Common.{◌≡◌}
use Rattle.page_pool.proofs.Entries.{any_shown}
use Rattle.page_pool.proofs.past.shown_place.Given as goal

-- whether one is shown, those that are left tell
abbrev pub invariant-images : goal.invariant-images
invariant-images l = any_shown l.n l.at l.images.entries ≡ any_shown l.n l.at l.place-iterator
