-- the span that is known is that of the tuple to which the tree leads
use Rattle.std.proofs.lemmas.Result.{IfOk-weaker}
use Rattle.code_btree.specs.Tree.{pages_in}
use Rattle.tuple_file.proofs.Fetches.{value_placed}
use Rattle.tuple_file.proofs.file.TupleFile.fetch_placed_value.Goals as goal

pub returns-in-Some-clause-value : goal.returns-in-Some-clause-value
returns-in-Some-clause-value g c = IfOk-weaker c.value_within.result _ _
    (λ value is told.
    value_placed c.args.schema.now (pages_in (g.P.Pages.shown c.args.pages.now)) c.args.self.now c.args.spans.now c.args.id c.args.column c.in-Some.span value
    (c.requires.known told) c.in-Some.ensures.some c.in-Some.ensures.known c.in-Some.ensures.span (is told))
    c.value_within.ensures.value
