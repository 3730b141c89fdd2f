-- the new relation leads to the file that was planted
use Rattle.std.proofs.Common.{◌∙◌, ◌++◌, [], ◌∷◌, ap}
use Rattle.sand_store.proofs.Creates.{planted_over}
use Rattle.sand_store.proofs.create.add.Goals as goal

pub returns-in-Ok-push-clause-added : goal.returns-in-Ok-push-clause-added
returns-in-Ok-push-clause-added g c = record {
  file = c.in-Ok-plant.file;
  added = c.in-Ok-push.ensures.items ∙ ap (λ r. c.args.relations.now.items ++ r ∷ []) c.new.ensures;
  planted = planted_over c.args.pool.now c.begin.new.self c.plant.new.pool c.commit.new.self c.in-Ok-plant.file
      c.in-Ok.ensures.writes.writes.pages c.in-Ok.ensures.writes.writes.told (ap (λ s. s.pages) c.commit.ensures) c.in-Ok-plant.ensures.value;
}
