-- the places copied so far
use Rattle.std.proofs.Common.{◌≡◌, take}
use Rattle.statements.proofs.lists.Places.copy.Given as goal

abbrev pub invariant-places : goal.invariant-places
invariant-places l = l.items.items ≡ take l.place-index l.place-items
