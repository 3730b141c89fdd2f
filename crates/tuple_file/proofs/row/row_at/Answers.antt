-- the page is that of the store
use Rattle.std.proofs.Common.{sym, ◌∙◌, ap, List, ℕ}
use Rattle.std.specs.Prelude.{Option}
use Rattle.tuple_file.specs.Page.{tuple_at}
use Rattle.tuple_file.specs.File.{bytes_of}
use Rattle.code_btree.specs.Tree.{pages_in}
use Rattle.tuple_file.proofs.Fetches.{decoded}
use Rattle.tuple_file.proofs.row.row_at.Goals as goal

pub returns-clause-value : goal.returns-clause-value
returns-clause-value g c = λ told.
    decoded c.args.schema.now c.tuple_of.result.now (tuple_at (bytes_of (pages_in (g.P.Pages.shown c.args.pages.now) c.args.n)) c.args.slot) c.in_ok-row.row
    (c.tuple_of.ensures ∙ ap (λ (o : Option (List ℕ)). tuple_at (bytes_of o) c.args.slot) (sym (c.in_ok-page.ensures.value.told told))) c.in_ok-row.ensures.found c.in_ok-row.ensures.whole
