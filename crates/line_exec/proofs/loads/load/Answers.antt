-- the rows of a file that enter, or a refusal before any page is touched
use Rattle.std.proofs.Common.{[], ◌∷◌, refl, subst}
use Rattle.sand_store.specs.Catalog.{CatalogView}
use Rattle.statements.specs.Statement.{Load}
use Rattle.statement_exec.specs.Loading.{LoadOf, InSettings, Yields, IsRefusedEarly}
use Rattle.statement_exec.specs.Performing.{line_of_answer}
use Rattle.statement_exec.proofs.LoadCalls.{refused_early}
use Rattle.line_exec.proofs.ShelfChanges.{follows_over, over_shelf}
use Rattle.line_exec.proofs.Led.{unchanged_itself}
use Rattle.line_exec.proofs.loads.load.Goals as goal

pub returns-in-Ok-clause-performs : goal.returns-in-Ok-clause-performs
returns-in-Ok-clause-performs g c = λ cs.
    let load : LoadOf = record { relation = c.args.name.now; file = c.args.file.now; header = c.args.header } in
    over_shelf (Load c.args.name.now c.args.file.now c.args.header) c.args.store.now c.enter.new.store (g.H.Shelf.files c.args.shelf.now) (g.H.Shelf.files c.rows_to_load.new.shelf)
    (g.H.Shelf.faults c.args.shelf.now) (g.H.Shelf.faults c.rows_to_load.new.shelf) cs (line_of_answer c.enter.result.answer ∷ []) c.rows_to_load.ensures.files c.in-Ok.ensures.cause
    (c.enter.ensures.performs load refl (g.H.Shelf.files c.args.shelf.now) (g.H.Shelf.faults c.args.shelf.now) cs
    (subst (λ (catalog : CatalogView). InSettings catalog (g.H.Shelf.files c.args.shelf.now)
    (λ setting state. Yields setting state load c.in-Ok.rows.items)) c.catalog.ensures.catalog c.in-Ok.ensures.yields))

pub returns-in-Err-clause-performs : goal.returns-in-Err-clause-performs
returns-in-Err-clause-performs g c = λ cs.
    let load : LoadOf = record { relation = c.args.name.now; file = c.args.file.now; header = c.args.header } in
    rw c.refused.ensures
    (refused_early c.args.store.now load cs (g.H.Shelf.files c.args.shelf.now) (g.H.Shelf.files c.rows_to_load.new.shelf) (g.H.Shelf.faults c.args.shelf.now)
    (g.H.Shelf.faults c.rows_to_load.new.shelf) c.in-Err.why
    (subst (λ (catalog : CatalogView). InSettings catalog (g.H.Shelf.files c.args.shelf.now)
    (λ setting state. IsRefusedEarly setting state load c.in-Err.why)) c.catalog.ensures.catalog c.in-Err.ensures.refused)
    c.in-Err.ensures.cause c.in-Err.ensures.no_page)

pub returns-in-Ok-clause-follows : goal.returns-in-Ok-clause-follows
returns-in-Ok-clause-follows g c =
    follows_over c.args.store.now c.enter.new.store (g.H.Shelf.files c.args.shelf.now) (g.H.Shelf.files c.rows_to_load.new.shelf) (g.H.Shelf.faults c.args.shelf.now)
    (g.H.Shelf.faults c.rows_to_load.new.shelf)
    c.rows_to_load.ensures.files c.in-Ok.ensures.cause (c.enter.ensures.follows (g.H.Shelf.files c.args.shelf.now) (g.H.Shelf.faults c.args.shelf.now))

-- before any page nothing was done
pub returns-in-Err-clause-kept : goal.returns-in-Err-clause-kept
returns-in-Err-clause-kept g c = rw c.refused.ensures (unchanged_itself c.args.store.now)

-- and the rows that enter are what is kept
pub returns-in-Ok-clause-kept : goal.returns-in-Ok-clause-kept
returns-in-Ok-clause-kept g c = c.enter.ensures.kept c.args.file.now c.args.header
