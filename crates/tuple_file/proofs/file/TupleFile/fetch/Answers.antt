-- the tree leads to the tuple, or the id isn't there
use Rattle.std.proofs.Common.{◌∙◌}
use Rattle.code_btree.specs.Tree.{pages_in}
use Rattle.code_btree.proofs.Stores.{same_store}
use Rattle.tuple_file.proofs.Fetches.{row_found_by, row_absent_by}
use Rattle.tuple_file.proofs.file.TupleFile.fetch.Goals as goal

pub returns-in_default-clause-value : goal.returns-in_default-clause-value
returns-in_default-clause-value g c = λ told.
    row_absent_by c.args.schema.now (pages_in (g.P.Pages.shown c.args.pages.now)) c.args.self.now c.args.id c.from.result c.in_ok-place.field-0 c.from.ensures
    (c.in_ok-place.ensures.value told) c.in_default.is

pub returns-clause-value : goal.returns-clause-value
returns-clause-value g c = λ told.
    row_found_by c.args.schema.now (pages_in (g.P.Pages.shown c.args.pages.now))
    (pages_in (g.P.Pages.shown c.get.new.pages)) c.args.self.now c.args.id c.from.result c.in-Some.place c.in-Some-spot_of.page c.in-Some-spot_of.slot c.in_ok-place.field-0 c.in_ok-row.row
    c.from.ensures (same_store (g.P.Pages.shown c.get.new.pages) (g.P.Pages.shown c.args.pages.now) c.in_ok-place.ensures.looks.read.pages) (c.in_ok-place.ensures.value told) c.in-Some.is
    c.in-Some-spot_of.ensures.page c.in-Some-spot_of.ensures.slot (c.in_ok-row.ensures.value (c.in_ok-place.ensures.looks.read.told ∙ told))
