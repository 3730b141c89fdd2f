-- nothing was taken
use Rattle.sand_store.specs.Contents.{database_in}
use Rattle.plan_names.specs.Spots.{names_of}
use Rattle.plan_sources.proofs.Picks.{pick_begun}
use Rattle.plan_sources.proofs.pick_equal.PickEqual.start.Goals as goal

pub returns-clause-begun : goal.returns-clause-begun
returns-clause-begun c = λ pages h.
    pick_begun pages c.in-Some.look_up (database_in pages c.args.catalog.now.relations) (names_of c.args.relation.now c.args.column.now) c.args.value
    ((rw c.in-Some.is at c.in_ok-look_up.ensures.found) pages h)
