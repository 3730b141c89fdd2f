-- those before passed, so those that are left decide
use Rattle.std.proofs.Common.{◌≡◌, map, drop}
use Rattle.page_pool.specs.Disk.{PageMap}
use Rattle.sand_model.specs.Checks.{check_places}
use Rattle.sand_model.specs.Operators.{relations_of}
use Rattle.sand_store.specs.Contents.{database_in}
use Rattle.statements.specs.Plan.{plan_value}
use Rattle.plan_names.proofs.checks.check_places.Given as goal

abbrev pub invariant-places : goal.invariant-places
invariant-places l = (pages : PageMap)
    → check_places (database_in pages l.catalog.relations) (relations_of (plan_value l.plan)) (drop l.place-index l.places)
    ≡ check_places (database_in pages l.catalog.relations) (relations_of (plan_value l.plan)) l.places
