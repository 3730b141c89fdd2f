-- the planted index can take all rows, and has them, or would be too full
use Rattle.std.proofs.Common.{sym, ◌∙◌}
use Rattle.sand_store.proofs.Planting.{asks_fill, got_built, built_full, built_of}
use Rattle.sand_store.proofs.index.filled_index.Goals as goal

pub filled-requires-clause-can : goal.filled-requires-clause-can
filled-requires-clause-can g c = λ after.
    let told = sym c.in-Ok.ensures.within.told ∙ after in
    asks_fill c.args.pool.now.pages c.planted.new.pool.pages c.args.limits _ c.args.relation.now c.args.column c.args.threshold c.in-Ok.path c.relation.view_is c.requires.some
    (c.requires.stands told) (c.in-Ok.ensures.planted told)

pub returns-in-Ok-filled-clause-builds : goal.returns-in-Ok-filled-clause-builds
returns-in-Ok-filled-clause-builds g c = λ told.
    got_built c.args.pool.now.pages c.planted.new.pool.pages c.filled.new.pool.pages c.args.limits _ c.args.relation.now c.args.column c.args.threshold c.in-Ok.path c.in-Ok-filled.path c.relation.view_is
    (c.requires.stands told) (c.in-Ok.ensures.planted told) (c.in-Ok-filled.ensures.fills (c.in-Ok.ensures.within.told ∙ told))

pub returns-in-Ok-filled-clause-of : goal.returns-in-Ok-filled-clause-of
returns-in-Ok-filled-clause-of g c =
    built_of _ c.args.relation.now c.args.column c.args.threshold c.in-Ok.path c.in-Ok-filled.path c.relation.view_is c.requires.column c.in-Ok.ensures.of c.in-Ok-filled.ensures.of

pub returns-in-Err-filled-clause-full : goal.returns-in-Err-filled-clause-full
returns-in-Err-filled-clause-full g c = λ e told gap measure.
    built_full gap c.args.pool.now.pages c.planted.new.pool.pages c.args.limits _ c.args.relation.now c.args.column c.args.threshold c.in-Ok.path c.relation.view_is
    (c.requires.stands told) (c.in-Ok.ensures.planted told) (c.in-Err-filled.ensures.full e (c.in-Ok.ensures.within.told ∙ told) gap measure)
