use Rattle.std.proofs.Common.{sym, ap, subst}
use Rattle.page_pool.specs.Inside.{Compares, state_of}
use Rattle.page_pool.proofs.Loads.{counted_in}
use Rattle.page_pool.proofs.pool.Pool.load.Goals as goal

-- the refusal is counted, and nothing else changed since
pub returns-clause-read_in : goal.returns-clause-read_in
returns-clause-read_in g c =
    let read = subst (λ s. Compares c.args.self.now s c.args.n c.read_compared-read.result) (sym c.self.view_is) c.read_compared-read.ensures.read in
    counted_in c.args.self.now (state_of c.self.inside.archive c.self.inside.staged c.self.inside.frames c.self.inside.numbers c.self.inside.is_open c.self.inside.gets c.self.inside.damages)
    (state_of c.self.inside.archive c.self.inside.staged c.self.inside.frames c.self.inside.numbers c.self.inside.is_open c.self.inside.gets c.damages_by-self-inside.result) c.args.n c.read_compared-read.result read
    (ap (state_of c.self.inside.archive c.self.inside.staged c.self.inside.frames c.self.inside.numbers c.self.inside.is_open c.self.inside.gets) c.damages_by-self-inside.ensures)
