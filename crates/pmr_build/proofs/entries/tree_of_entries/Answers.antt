-- the next entry comes last
use Rattle.std.proofs.Common.{◌<◌, length, arith}
use Rattle.pmr_build.proofs.Filled.{filling_next}
use Rattle.pmr_build.proofs.entries.tree_of_entries.Goals as goal

pub entries-preserved : goal.entries-preserved
entries-preserved g c =
    let lt : c.entries.key-index < length c.args.entries.now = omega arith in
    filling_next c.args.pool.now c.entries.pool c.insert.new.pool c.entries.tree c.insert.new.self c.args.entries.now c.entries.key-index _ _ lt c.requires.ascending c.entries.invariant
    c.insert.ensures.within c.in_ok-insert.ensures.cause.counted c.in_ok-insert.ensures.value
