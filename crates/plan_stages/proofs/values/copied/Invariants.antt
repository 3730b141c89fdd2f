-- the values copied so far
use Rattle.std.proofs.Common.{◌≡◌, take}
use Rattle.plan_stages.proofs.values.copied.Given as goal

abbrev pub invariant-values : goal.invariant-values
invariant-values l = l.values.items ≡ take l.value-index l.all
