-- a row has a byte at least, and the relation that took it in is described
use Rattle.std.proofs.Common.{◌≡◌, ℕ, ◌≤◌, List, length, None, sym, ◌∙◌, subst}
use Rattle.page_pool.specs.Pool.{IsTold}
use Rattle.sand_model.specs.Database.{with_row}
use Rattle.sand_store.specs.Catalog.{RelationView}
use Rattle.sand_store.specs.Loads.{CountsRows}
use Rattle.sand_store.specs.Steps.{Became, row_check}
use Rattle.sand_store.proofs.Loads.{counts_one}
use Rattle.sand_store.proofs.PlainChecks.{row_fails}
use Rattle.sand_store.proofs.RowChecks.{check_stops}
use Rattle.sand_store.proofs.RowGrowth.{row_some}
use Rattle.sand_store.proofs.load.enter.Goals as goal

pub with_row-requires-clause-some : goal.with_row-requires-clause-some
with_row-requires-clause-some g c =
    let Some : List ℕ → Type 0 = λ bytes. 1 ≤ length bytes in
    subst Some (sym (c.deref.ensures.value ∙ c.in-Ok.ensures.bytes))
    (row_some c.args.relation.now.schema c.args.row.now c.requires.described.schema.some c.in-Ok.ensures.of.of_schema)

pub returns-in-Ok-with_row-clause-counts : goal.returns-in-Ok-with_row-clause-counts
returns-in-Ok-with_row-clause-counts g c =
    let P : RelationView → Type 0 = λ u. CountsRows c.args.limits c.args.relation.now u 1 in
    subst P (sym c.take_over.ensures.grown)
    (counts_one c.args.limits c.args.relation.now c.in-Ok-with_row.growth.file c.in-Ok-with_row.growth.paths.items c.in-Ok-with_row.growth.trees.items c.take_over.new.self.spans c.args.row.now c.requires.described
    c.in-Ok.ensures.passes c.in-Ok-with_row.ensures.places c.in-Ok-with_row.ensures.columns)

pub returns-in-Ok-with_row-clause-became : goal.returns-in-Ok-with_row-clause-became
returns-in-Ok-with_row-clause-became g c = λ told.
    let P : RelationView → Type 0 = λ u. Became c.args.pool.now.pages c.with_row.new.pool.pages c.args.limits c.args.relation.now u (λ gap. with_row gap c.args.row.now) in
    subst P (sym c.take_over.ensures.grown) ((c.in-Ok-with_row.ensures.grew told).became c.take_over.new.self.spans c.take_over.ensures.learnt)

-- a check of the row fails
pub returns-in-Err-clause-stops : goal.returns-in-Err-clause-stops
returns-in-Err-clause-stops g c =
    check_stops (IsTold c.args.pool.now) c.args.pool.now.pages c.args.limits c.args.relation.now c.args.row.now c.in-Err.why c.in-Err.ensures.refused

pub returns-in-Err-clause-plain : goal.returns-in-Err-clause-plain
returns-in-Err-clause-plain g c =
    row_fails c.args.limits c.args.relation.now c.args.row.now (row_check c.args.limits c.args.relation.now c.args.row.now ≡ None) c.in-Err.why c.in-Err.ensures.refused
