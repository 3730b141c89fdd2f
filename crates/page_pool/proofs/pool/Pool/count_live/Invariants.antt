use Rattle.std.proofs.Common.{◌≡◌}
use Rattle.std.specs.FinMap as map
use Rattle.page_pool.specs.Inside.{count_upto}
use Rattle.page_pool.proofs.pool.Pool.count_live.Given as goal

-- so many of the numbers so far
abbrev pub invariant-numbers : goal.invariant-numbers
invariant-numbers g l = l.count ≡ count_upto (map.contains_key l.self.pages) l.n
