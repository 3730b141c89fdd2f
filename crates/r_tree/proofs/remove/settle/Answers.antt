-- the child is filled still, or was balanced with a sibling
use Rattle.std.proofs.Common.{◌<◌, ◌++◌, ◌∷◌, [], List, length, ◌∙◌, ap, arith}
use Rattle.code_btree.specs.Tree.{pages_in}
use Rattle.r_tree.specs.declared.entry.NodeEntry.{NodeEntry}
use Rattle.r_tree.specs.Steps.{raised}
use Rattle.r_tree.proofs.Inserts.{at_lent}
use Rattle.r_tree.proofs.Removes.{settled_full_from, settled_short_from, is_inner_test}
use Rattle.r_tree.proofs.remove.settle.Goals as goal

pub returns-then-below-ge50-clause-value : goal.returns-then-below-ge50-clause-value
returns-then-below-ge50-clause-value g c = λ told m i e ec s.
    settled_full_from m (pages_in c.args.pool.now)
    (pages_in c.lay.new.pool) c.args.level c.args.n c.args.child i e c.args.entries.now.items c.deref.result.now c.args.below c.in_ok-shrunk.shrunk c.in-Some.bound ec c.in-Some.is s c.if-below-ge50.true
    (c.deref.ensures.value ∙ (c.in_ok-add.ensures
    ∙ ap (λ (x : NodeEntry). c.args.entries.now.items
    ++ x ∷ []) c.branch-bound.ensures)) c.in_ok-shrunk.ensures.value c.in_ok-shrunk.ensures.least c.in_ok-shrunk.ensures.counted c.in_ok-shrunk.ensures.fits

pub returns-clause-value : goal.returns-clause-value
returns-clause-value g c = λ told m i e ec s.
    let es : List NodeEntry = c.args.entries.now.items in
    let at : c.nearest-at.result < length es = at_lent es c.deref-2.result.now c.nearest-at.result c.deref-2.ensures.value c.nearest-at.ensures
    (omega (arith, c.if-is_empty.ensures, c.args.entries.now.ok.0)) in
    settled_short_from m (pages_in c.args.pool.now) (pages_in c.balance.new.pool)
    (pages_in c.lay-2.new.pool) c.args.level c.args.n c.args.child c.nearest-at.result i e c.swap_remove-sibling.result es c.deref-3.result.now c.args.below c.in_ok-shrunk-2.shrunk c.in-Some.bound c.in_ok-grown.grown _ ec c.in-Some.is s
    at c.swap_remove-sibling.ensures.value (is_inner_test c.args.level) (c.in_ok-grown.ensures.value told)
    (c.deref-3.ensures.value ∙ (c.in_ok-raise.ensures ∙ ap (λ (x : List NodeEntry). x ++ raised c.args.child c.in_ok-grown.grown) c.swap_remove-sibling.ensures.items))
    c.in_ok-shrunk-2.ensures.value c.in_ok-shrunk-2.ensures.least c.in_ok-shrunk-2.ensures.counted c.in_ok-shrunk-2.ensures.fits
