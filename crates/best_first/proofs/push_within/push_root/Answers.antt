-- The root goes into the queue where it is within the ceiling.
use Rattle.std.proofs.Common.{sym, ◌∙◌, subst, IsPermutation, [], ◌++◌}
use Rattle.std.proofs.lemmas.List.Sorted.{IsPermutation-refl}
use Rattle.best_first.specs.declared.item.Item.TheVariants.{Node}
use Rattle.best_first.specs.Item.{gap_of}
use Rattle.best_first.specs.Reach.{within}
use Rattle.best_first.proofs.Bags.{filter_here, filter_skips}
use Rattle.best_first.proofs.push_within.push_root.Goals as goal

pub returns-then-is_within : goal.returns-then-is_within
returns-then-is_within g c =
    subst (λ l. IsPermutation (l ++ g.Q.Queue.held c.args.queue.now) (g.Q.Queue.held c.push.new.self))
    (sym (filter_here (λ item. within c.args.ceiling (gap_of item)) (Node c.args.gap c.args.node) [] (sym c.is_within.ensures ∙ c.if-is_within.true))) c.push.ensures.items

pub returns-else-is_within : goal.returns-else-is_within
returns-else-is_within g c =
    subst (λ l. IsPermutation (l ++ g.Q.Queue.held c.args.queue.now) (g.Q.Queue.held c.args.queue.now))
    (sym (filter_skips (λ item. within c.args.ceiling (gap_of item)) (Node c.args.gap c.args.node) [] (sym c.is_within.ensures ∙ c.if-is_within.false)))
    (IsPermutation-refl (g.Q.Queue.held c.args.queue.now))
