-- the tree's least key from there on
use Rattle.std.proofs.Common.{sym, ◌∙◌, ap, ℕ}
use Rattle.std.specs.Prelude.{Option, None, Some, option_map}
use Rattle.code_btree.specs.Node.{Pair}
use Rattle.code_btree.specs.Tree.{pages_in}
use Rattle.tuple_file.proofs.Fetches.{least_by}
use Rattle.tuple_file.proofs.file.TupleFile.scan.Goals as goal

pub returns-in_default-clause-value : goal.returns-in_default-clause-value
returns-in_default-clause-value g c = λ told.
    least_by (pages_in (g.P.Pages.shown c.args.pages.now)) c.args.self.now c.args.from c.from.result c.in_ok-key.field-0 None c.from.ensures
    (c.in_ok-key.ensures.value told) (ap (λ (o : Option Pair). option_map (λ (e : Pair). e.0) o) c.in_default.is)

pub returns-clause-value : goal.returns-clause-value
returns-clause-value g c = λ told.
    least_by (pages_in (g.P.Pages.shown c.args.pages.now)) c.args.self.now c.args.from c.from.result c.in_ok-key.field-0 (Some c.in-Ok.id) c.from.ensures (c.in_ok-key.ensures.value told)
    (ap (λ (o : Option Pair). option_map (λ (e : Pair). e.0) o) c.in-Some.is ∙ ap (λ (k : ℕ). Some k) (sym c.in-Ok.ensures.1))
