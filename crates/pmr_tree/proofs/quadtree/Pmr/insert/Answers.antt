-- The number of entries is that of the grown tree's listings.
use Rattle.std.proofs.Common.{◌<◌, ◌≤◌, ap, ◌∙◌, subst}
use Rattle.sand_model.specs.Tree.{listings}
use Rattle.pmr_tree.proofs.Counts.{entries_are_listings}
use Rattle.pmr_tree.proofs.quadtree.Pmr.insert.Goals as goal

pub returns-then-tree-limit-clause-full : goal.returns-then-tree-limit-clause-full
returns-then-tree-limit-clause-full g c = λ same told gap measure.
    let grown = c.in_ok-tree.ensures.grown told in
    let count = entries_are_listings c.grown.new.pool.pages c.in_ok-tree.tree grown.stays.is ∙ ap listings (grown.grown gap measure) in
    subst (λ n. c.args.limit < n) count c.if-tree-limit.true

pub returns-clause-few : goal.returns-clause-few
returns-clause-few g c = λ told.
    let count = entries_are_listings c.grown.new.pool.pages c.in_ok-tree.tree (c.in_ok-tree.ensures.grown told).stays.is in
    subst (λ n. n ≤ c.args.limit) count c.if-tree-limit.false
