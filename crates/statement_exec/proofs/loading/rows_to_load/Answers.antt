-- what the file was read as
use Rattle.std.proofs.Common.{◌≡◌, Some}
use Rattle.page_pool.specs.Disk.{PageMap}
use Rattle.sand_model.specs.Database.{relation_named}
use Rattle.sand_store.specs.Contents.{database_in, relation_in}
use Rattle.statement_exec.specs.Loading.{LoadOf}
use Rattle.statement_exec.proofs.FileFaults.{of_no_page}
use Rattle.statement_exec.proofs.LoadChecks.{yields, refuses, unknown}
use Rattle.statement_exec.proofs.loading.rows_to_load.Goals as goal

pub returns-in-Ok-clause-yields : goal.returns-in-Ok-clause-yields
returns-in-Ok-clause-yields g c =
    let load : LoadOf = record { relation = c.args.name.now; file = c.args.file.now; header = c.args.header } in
    let named : (pages : PageMap) → relation_named (database_in pages c.args.catalog.now.relations) c.args.name.now ≡ Some (relation_in pages c.in-Some.relation.now) = λ pages.
    rw c.as_str.ensures at (c.in-Some.ensures.named pages) in
    yields (g.H.Shelf.files c.args.shelf.now) c.args.catalog.now load c.in-Some.relation.now named c.in-Ok.rows.items
    (rw c.schema.ensures at c.in-Ok.ensures.rows)

pub returns-in-Err-clause-refused : goal.returns-in-Err-clause-refused
returns-in-Err-clause-refused g c =
    let load : LoadOf = record { relation = c.args.name.now; file = c.args.file.now; header = c.args.header } in
    let named : (pages : PageMap) → relation_named (database_in pages c.args.catalog.now.relations) c.args.name.now ≡ Some (relation_in pages c.in-Some.relation.now) = λ pages.
    rw c.as_str.ensures at (c.in-Some.ensures.named pages) in
    rw c.refusal_of.ensures (refuses (g.H.Shelf.files c.args.shelf.now) c.args.catalog.now load c.in-Some.relation.now named c.in-Err.why
    (rw c.schema.ensures at c.in-Err.ensures.none))

pub returns-in-Err-clause-no_page : goal.returns-in-Err-clause-no_page
returns-in-Err-clause-no_page g c = rw c.refusal_of.ensures (of_no_page c.in-Err.why)

pub returns-in_default-clause-refused : goal.returns-in_default-clause-refused
returns-in_default-clause-refused g c =
    let load : LoadOf = record { relation = c.args.name.now; file = c.args.file.now; header = c.args.header } in
    unknown (g.H.Shelf.files c.args.shelf.now) c.args.catalog.now load (λ pages. rw c.as_str.ensures at (c.in_default.ensures.named pages))
