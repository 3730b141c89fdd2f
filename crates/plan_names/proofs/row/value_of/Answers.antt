-- the value is that of the row of which the bytes of the id are the encoding
use Rattle.std.proofs.Common.{ℕ, List, sym, subst}
use Rattle.std.proofs.lemmas.Result.{IfOk-weaker}
use Rattle.code_btree.specs.Tree.{pages_in}
use Rattle.tuple_file.specs.declared.file.TupleFile.{TupleFile}
use Rattle.tuple_file.specs.File.{IsFile}
use Rattle.tuple_file.specs.Spans.{AreKnown}
use Rattle.plan_names.proofs.ValuesRead.{value_read}
use Rattle.plan_names.proofs.row.value_of.Goals as goal

pub fetch_placed_value-requires-clause-file : goal.fetch_placed_value-requires-clause-file
fetch_placed_value-requires-clause-file g c = λ told.
    let F : TupleFile → Type 0 = λ f. IsFile (pages_in (g.P.Pages.shown c.args.pages.now)) f in
    subst F (sym c.file.ensures) (c.requires told).1.table.file

pub fetch_placed_value-requires-clause-known : goal.fetch_placed_value-requires-clause-known
fetch_placed_value-requires-clause-known g c = λ told.
    let F : TupleFile → Type 0 = λ f. AreKnown (pages_in (g.P.Pages.shown c.args.pages.now)) f c.spans.result.now in
    let K : List ℕ → Type 0 = λ known. AreKnown (pages_in (g.P.Pages.shown c.args.pages.now)) c.args.relation.now.file known in
    subst F (sym c.file.ensures) (subst K (sym c.spans.ensures) (c.requires told).1.known)

pub returns-clause-value : goal.returns-clause-value
returns-clause-value g c = IfOk-weaker c.fetch_placed_value.result _ _
    (λ value is told.
    value_read (g.P.Pages.shown c.args.pages.now).pages c.args.relation.now c.schema.result.now c.file.result.now c.args.id c.args.column value c.schema.ensures c.file.ensures
    (c.requires told) (is told))
    c.fetch_placed_value.ensures.value
