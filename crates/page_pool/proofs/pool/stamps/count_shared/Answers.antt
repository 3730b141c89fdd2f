use Rattle.std.proofs.Common.{◌&&◌, arith}
use Rattle.std.specs.FinMap as map
use Rattle.std.specs.FinSet as set
use Rattle.page_pool.proofs.Numbered.{count_low}
use Rattle.page_pool.proofs.pool.stamps.count_shared.Goals as goal

-- no more than the numbers so far
pub overflow_add-count : goal.overflow_add-count
overflow_add-count g c = let low = count_low (λ n. set.contains c.args.archive.now.shared n && map.contains_key c.args.staged.now.changes n) c.numbers.n in
    let so_far = c.numbers.invariant in omega arith
