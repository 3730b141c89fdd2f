-- the tests copied so far
use Rattle.std.proofs.Common.{◌≡◌, take}
use Rattle.statements.proofs.lists.Tests.copy.Given as goal

abbrev pub invariant-tests : goal.invariant-tests
invariant-tests l = l.items.items ≡ take l.test-index l.test-items
