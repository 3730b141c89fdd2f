-- the relation has the index that was built since the command began
use Rattle.std.proofs.Common.{ap}
use Rattle.sand_store.proofs.IndexCall.{command_became, command_full}
use Rattle.sand_store.proofs.index.add.Goals as goal

pub returns-in-Ok-take_path-clause-became : goal.returns-in-Ok-take_path-clause-became
returns-in-Ok-take_path-clause-became g c =
    command_became c.args.pool.now c.begin.new.self c.built.new.pool c.commit.new.self c.args.limits c.args.relation.now c.take_path.new.self c.args.column c.args.threshold c.in-Ok-built.path
    c.in-Ok.ensures.writes.writes.pages c.in-Ok.ensures.writes.writes.told
    (ap (λ s. s.pages) c.commit.ensures) c.requires.stands c.requires.owns c.in-Ok-built.ensures.builds c.in-Ok-take_path.ensures.added

pub returns-in-Ok-take_path-clause-added : goal.returns-in-Ok-take_path-clause-added
returns-in-Ok-take_path-clause-added g c = record { path = c.in-Ok-built.path; added = c.in-Ok-take_path.ensures.added; of = c.in-Ok-built.ensures.of }

pub returns-in-Err-built-clause-full : goal.returns-in-Err-built-clause-full
returns-in-Err-built-clause-full g c = λ e told gap measure.
    command_full gap c.args.pool.now c.begin.new.self c.args.limits c.args.relation.now c.args.column c.args.threshold c.in-Ok.ensures.writes.writes.pages c.in-Ok.ensures.writes.writes.told
    (λ began. c.in-Err-built.ensures.full e began gap measure) told
