-- the value is that of the row, and its entry is gone
use Rattle.std.proofs.Common.{◌^◌, ◌<◌, arith}
use Rattle.sand_store.proofs.PathLoss.{index_lost}
use Rattle.sand_store.proofs.shrink.shrunk_index.Goals as goal

pub returns-in-Ok-clause-lost : goal.returns-in-Ok-clause-lost
returns-in-Ok-clause-lost g c = λ told held can.
    let small : c.args.id < 2 ^ 32 = omega (arith, c.ranges.id.fits) in
    index_lost c.args.pool.now.pages c.drop_entry.new.pool.pages held c.args.id c.args.column c.args.row.now c.args.index c.drop_entry.new.self c.in-Some.value.now
    small can c.in-Some.ensures.value (c.in-Ok.ensures.value told)
