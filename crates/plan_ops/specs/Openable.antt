-- Which plans can be opened over a catalog.
use Rattle.std.specs.Prelude.{◌≡◌, None}
use Rattle.page_pool.specs.Disk.{PageMap}
use Rattle.statements.specs.declared.plan.Plan.{Plan as SpokenPlan}
use Rattle.script_text.specs.InRange.{IsPlanInRange}
use Rattle.sand_model.specs.Checks.{check_operators}
use Rattle.sand_store.specs.Catalog.{CatalogView, IsCatalog}
use Rattle.sand_store.specs.Contents.{database_in}
use Rattle.statements.specs.Plan.{plan_value}

-- The plan can be opened: the checks of its operators pass in the catalog, whatever its pages, and it is in range.
pub record IsOpenable (catalog : CatalogView) (p : SpokenPlan) : Type 0 where
  pub described : IsCatalog catalog
  pub checked : (pages : PageMap) → check_operators (database_in pages catalog.relations) (plan_value p) ≡ None
  pub in_range : IsPlanInRange (plan_value p)
