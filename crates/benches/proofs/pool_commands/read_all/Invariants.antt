-- a command stays open, or closed, while pages are read
use Rattle.std.proofs.Common.{◌≡◌}
use Rattle.benches.proofs.pool_commands.read_all.Given as goal

abbrev pub invariant-pages : goal.invariant-pages
invariant-pages l = record {
  beginning : l.run.pool.beginning ≡ l.fn.run.pool.beginning;
  shown : l.run.pool.live ≡ l.fn.run.pool.live;
}
