use Rattle.std.proofs.Common.{◌≡◌, ◌&&◌}
use Rattle.std.specs.FinMap as map
use Rattle.std.specs.FinSet as set
use Rattle.page_pool.specs.Inside.{count_upto}
use Rattle.page_pool.proofs.pool.stamps.count_shared.Given as goal

-- so many of the numbers so far
abbrev pub invariant-numbers : goal.invariant-numbers
invariant-numbers g l = l.count ≡ count_upto (λ n. set.contains l.archive.shared n && map.contains_key l.staged.changes n) l.n
