-- the pages are those before the command began, and those at its end
use Rattle.std.proofs.Common.{◌∙◌, ap}
use Rattle.sand_store.proofs.RowLoss.{loss_committed}
use Rattle.sand_store.proofs.delete.remove.Goals as goal

pub returns-in-Ok-without_row-clause-shrank : goal.returns-in-Ok-without_row-clause-shrank
returns-in-Ok-without_row-clause-shrank g c = λ told bounds can.
    loss_committed c.args.pool.now.pages c.begin.new.self.pages c.without_row.new.pool.pages c.commit.new.self.pages bounds c.args.relation.now
    c.args.id c.args.row.now c.in-Ok-without_row.roots.file c.in-Ok-without_row.roots.paths.items c.in-Ok-without_row.roots.trees.items
    (c.in-Ok.ensures.writes.writes.pages told) (ap (λ s. s.pages) c.commit.ensures) (c.in-Ok-without_row.ensures.shrank (c.in-Ok.ensures.writes.writes.told ∙ told)) can
