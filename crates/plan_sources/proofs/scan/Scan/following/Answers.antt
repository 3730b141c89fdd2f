-- the least id from the next one on, or none behind the greatest
use Rattle.std.proofs.Common.{sym, ap, ◌∙◌, subst}
use Rattle.code_btree.specs.Tree.{pages_in}
use Rattle.sand_store.specs.Catalog.{RelationView}
use Rattle.sand_store.specs.Contents.{rows_in}
use Rattle.tuple_file.specs.declared.file.TupleFile.{TupleFile}
use Rattle.tuple_file.specs.File.{IsFile}
use Rattle.plan_sources.proofs.Scans.{next_found, none_past}
use Rattle.plan_sources.proofs.scan.Scan.following.Goals as goal

pub returns-then-self-greatest-clause-value : goal.returns-then-self-greatest-clause-value
returns-then-self-greatest-clause-value g c = λ told.
    none_past c.args.self.now.last c.greatest.result (rows_in (g.P.Pages.shown c.args.pages.now).pages c.args.self.now.relation.value)
    ((rw c.deref.ensures at c.greatest.ensures.greatest) (g.P.Pages.shown c.args.pages.now).pages (c.requires told).0 (c.requires told).1) c.if-self-greatest.true

pub scan-requires : goal.scan-requires
scan-requires g c = λ told.
    let F : TupleFile → Type 0 = λ f. IsFile (pages_in (g.P.Pages.shown c.args.pages.now)) f in
    subst F (sym (c.file.ensures ∙ ap (λ (r : RelationView). r.file) c.deref-2.ensures)) (c.requires told).1.table.file

pub returns-in-Ok-clause-value : goal.returns-in-Ok-clause-value
returns-in-Ok-clause-value g c = λ told.
    next_found (g.P.Pages.shown c.args.pages.now).pages c.args.self.now.relation.value c.file.result.now c.args.self.now.last c.in-Ok.found (c.requires told)
    (c.file.ensures ∙ ap (λ (r : RelationView). r.file) c.deref-2.ensures) (c.in-Ok.ensures.value told)
