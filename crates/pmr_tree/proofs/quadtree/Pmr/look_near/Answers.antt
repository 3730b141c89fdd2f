-- The own entries of the block are those of its place.
use Rattle.std.proofs.Common.{◌∙◌, sym, subst}
use Rattle.pmr_tree.specs.Calls.{IsFoundInRange}
use Rattle.pmr_tree.proofs.Looked.{looked, looked_roughs, looked_price, node_range, node_above}
use Rattle.pmr_tree.proofs.quadtree.Pmr.look_near.Goals as goal

pub returns-in_err-pairs-clause-price : goal.returns-in_err-pairs-clause-price
returns-in_err-pairs-clause-price g c = λ told place at.
    let is = c.requires.tree told in
    looked_price (g.P.Pages.shown c.args.pages.now).pages c.args.self.now c.args.block place _ _ is is.entries.tall at (c.in_err-pairs.ensures.price told)

pub returns-clause-place : goal.returns-clause-place
returns-clause-place g c = λ told.
    looked (g.P.Pages.shown c.args.pages.now).pages c.args.self.now c.args.block c.in_ok-pairs.pairs.items c.node_in.result (c.requires.tree told) (c.in_ok-pairs.ensures.found told) c.node_in.ensures

pub returns-clause-roughs : goal.returns-clause-roughs
returns-clause-roughs g c = λ told.
    looked_roughs (g.P.Pages.shown c.args.pages.now).pages c.args.self.now c.args.block c.in_ok-pairs.pairs.items c.node_in.result (c.in_ok-pairs.ensures.found told) c.node_in.ensures

pub returns-clause-plane : goal.returns-clause-plane
returns-clause-plane g c = subst IsFoundInRange (sym c.node_in.ensures) (node_range c.args.block c.in_ok-pairs.pairs.items)

pub returns-clause-above_points : goal.returns-clause-above_points
returns-clause-above_points g c = λ e. node_above c.args.block c.in_ok-pairs.pairs.items (sym c.node_in.ensures ∙ e)

pub returns-clause-price : goal.returns-clause-price
returns-clause-price g c = λ told place at.
    let is = c.requires.tree told in
    looked_price (g.P.Pages.shown c.args.pages.now).pages c.args.self.now c.args.block place _ _ is is.entries.tall at (c.in_ok-pairs.ensures.price told)
