use Rattle.std.proofs.Common.{arith}
use Rattle.std.specs.FinMap as map
use Rattle.page_pool.proofs.Numbered.{count_low}
use Rattle.page_pool.proofs.pool.Pool.count_live.Goals as goal

-- no more than the numbers so far
pub overflow_add-count : goal.overflow_add-count
overflow_add-count g c = let low = count_low (map.contains_key c.args.self.now.pages) c.numbers.n in let so_far = c.numbers.invariant in omega arith
