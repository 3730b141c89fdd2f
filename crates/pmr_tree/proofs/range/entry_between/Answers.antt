-- The first entry from a key on is in the range, or it is behind it, or there is none.
use Rattle.std.proofs.Common.{◌∙◌, sym, ap, take, arith}
use Rattle.code_btree.specs.Tree.{pages_in, tree_items}
use Rattle.pmr_tree.proofs.Ranges.{none_between, past_between, some_between}
use Rattle.pmr_tree.proofs.range.entry_between.Goals as goal

pub returns-in_default-clause-found : goal.returns-in_default-clause-found
returns-in_default-clause-found g c = λ told. sym (ap (take 1) (none_between c.args.low c.args.high _ (sym (c.in_ok-pair.ensures.value told) ∙ c.in_default.is)))

pub returns-then-pair-high-clause-found : goal.returns-then-pair-high-clause-found
returns-then-pair-high-clause-found g c = λ told.
    sym (ap (take 1) (past_between c.args.low c.args.high (tree_items (pages_in (g.P.Pages.shown c.args.pages.now)) c.args.tree) c.in-Some.pair (c.requires told).at.ascending
    (sym (c.in_ok-pair.ensures.value told) ∙ c.in-Some.is) (omega (arith, c.if-pair-high.true))))

pub returns-clause-found : goal.returns-clause-found
returns-clause-found g c = λ told.
    some_between c.args.low c.args.high (tree_items (pages_in (g.P.Pages.shown c.args.pages.now)) c.args.tree) c.in-Some.pair
    (sym (c.in_ok-pair.ensures.value told) ∙ c.in-Some.is) (omega (arith, c.if-pair-high.false))
