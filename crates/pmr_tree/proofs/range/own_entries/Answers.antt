-- The range begins at the block's mark.
use Rattle.std.proofs.Common.{◌∙◌}
use Rattle.code_btree.specs.Tree.{pages_in, tree_items}
use Rattle.pmr_tree.proofs.Ranges.{own_range, own_price}
use Rattle.pmr_tree.proofs.range.own_entries.Goals as goal

pub returns-in_err-found-clause-price : goal.returns-in_err-found-clause-price
returns-in_err-found-clause-price g c = λ told.
    own_price c.args.block c.key_of-mark.result c.args.tree.height (g.P.Pages.shown c.args.pages.now).gets (g.P.Pages.shown c.between_near.new.pages).gets
    (tree_items (pages_in (g.P.Pages.shown c.args.pages.now)) c.args.tree) c.key_of-mark.ensures.value
    (c.in_err-found.ensures.price told)

pub returns-clause-found : goal.returns-clause-found
returns-clause-found g c = λ told. c.in_ok-found.ensures.value told
    ∙ own_range c.args.block c.key_of-mark.result (tree_items (pages_in (g.P.Pages.shown c.args.pages.now)) c.args.tree) c.key_of-mark.ensures.value

pub returns-clause-price : goal.returns-clause-price
returns-clause-price g c = λ told.
    own_price c.args.block c.key_of-mark.result c.args.tree.height (g.P.Pages.shown c.args.pages.now).gets (g.P.Pages.shown c.between_near.new.pages).gets
    (tree_items (pages_in (g.P.Pages.shown c.args.pages.now)) c.args.tree) c.key_of-mark.ensures.value
    (c.in_ok-found.ensures.price told)
