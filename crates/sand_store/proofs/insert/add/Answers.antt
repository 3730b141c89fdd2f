-- the pages are those before the command began
use Rattle.std.proofs.Common.{◌≡◌, ◌∙◌, Some, subst}
use Rattle.page_pool.specs.Disk.{PageMap}
use Rattle.sand_base.specs.declared.refusal.Refusal.TheVariants as why
use Rattle.sand_model.specs.Database.{with_row}
use Rattle.sand_model.specs.StatementChecks.{check_listings}
use Rattle.sand_store.specs.Contents.{relation_in}
use Rattle.sand_store.proofs.insert.add.Goals as goal

pub returns-in-Err-with_row-clause-full : goal.returns-in-Err-with_row-clause-full
returns-in-Err-with_row-clause-full g c = λ e told gap measure.
    let P : PageMap → Type 0 = λ m. check_listings c.args.limits (with_row gap c.args.row.now (relation_in m c.args.relation.now)) ≡ Some why.IndexFull in
    subst P (c.in-Ok.ensures.writes.writes.pages told) (c.in-Err-with_row.ensures.full e (c.in-Ok.ensures.writes.writes.told ∙ told) gap measure)
