-- the tree leads to the tuple, or the id isn't there
use Rattle.std.proofs.Common.{◌∙◌}
use Rattle.std.proofs.lemmas.Result.{IfOk-weaker}
use Rattle.code_btree.specs.Tree.{pages_in}
use Rattle.code_btree.proofs.Stores.{same_store}
use Rattle.tuple_file.proofs.Fetches.{value_found_by, value_absent_by}
use Rattle.tuple_file.proofs.file.TupleFile.fetch_value.Goals as goal

pub returns-in_default-clause-value : goal.returns-in_default-clause-value
returns-in_default-clause-value g c = λ told.
    value_absent_by c.args.schema.now (pages_in (g.P.Pages.shown c.args.pages.now)) c.args.self.now c.args.id c.from.result c.args.column c.in_ok-place.field-0 c.from.ensures
    (c.in_ok-place.ensures.value told) c.in_default.is

pub returns-clause-value : goal.returns-clause-value
returns-clause-value g c = IfOk-weaker c.value_at.result _ _
    (λ value is told.
    value_found_by c.args.schema.now (pages_in (g.P.Pages.shown c.args.pages.now))
    (pages_in (g.P.Pages.shown c.get.new.pages)) c.args.self.now c.args.id c.from.result c.in-Some.place c.in-Some-spot_of.page c.in-Some-spot_of.slot c.args.column c.in_ok-place.field-0 value
    c.from.ensures (same_store (g.P.Pages.shown c.get.new.pages) (g.P.Pages.shown c.args.pages.now) c.in_ok-place.ensures.looks.read.pages) (c.in_ok-place.ensures.value told) c.in-Some.is
    c.in-Some-spot_of.ensures.page c.in-Some-spot_of.ensures.slot (is (c.in_ok-place.ensures.looks.read.told ∙ told)))
    c.value_at.ensures.value
