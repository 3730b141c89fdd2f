use Rattle.std.proofs.Common.{sym, ap, ◌∙◌}
use Rattle.std.specs.Ordering.{is_gt}
use Rattle.pair_heap.proofs.OrderOfItems.{not_after}
use Rattle.pair_heap.proofs.MeldsKeepOrder.{put_below}
use Rattle.pair_heap.proofs.MeldsKeepItems.{below_first, below_second}
use Rattle.pair_heap.proofs.meld.meld.Goals as goal
use Rattle.pair_heap.proofs.meld.meld.Goals.{then-is_gt, else-is_gt}

-- where the one's item comes later, it goes below the other; else the other goes below it
pub returns-clause-tree : goal.returns-clause-tree
returns-clause-tree g c =
    elim c.if-is_gt.branch [
      | then-is_gt w ↦ put_below g.met.T.Ord.total c.args.other c.args.one c.over.result (rw w.top-is at c.over.ensures.item) (rw w.top-is at c.over.ensures.kids)
          (not_after g.met.T.Ord.total _ _ (sym (w.if-is_gt.ensures ∙ ap is_gt (rw (c.item.ensures, c.item-2.ensures) at c.cmp.ensures)))) c.requires.other c.requires.one
      | else-is_gt w ↦ put_below g.met.T.Ord.total c.args.one c.args.other c.over.result (rw w.top-is at c.over.ensures.item) (rw w.top-is at c.over.ensures.kids)
          (sym (w.if-is_gt.ensures ∙ ap is_gt (rw (c.item.ensures, c.item-2.ensures) at c.cmp.ensures))) c.requires.one c.requires.other
    ]

pub returns-clause-items : goal.returns-clause-items
returns-clause-items g c = elim c.if-is_gt.branch [
  | then-is_gt w ↦ rw (c.over.ensures.item, c.over.ensures.kids, w.top-is) (below_second _ _ _ _)
  | else-is_gt w ↦ rw (c.over.ensures.item, c.over.ensures.kids, w.top-is) (below_first _ _ _ _)
]

pub returns-clause-slots : goal.returns-clause-slots
returns-clause-slots g c = elim c.if-is_gt.branch [
  | then-is_gt w ↦ rw (c.over.ensures.place, c.over.ensures.kids, w.top-is) (below_second _ _ _ _)
  | else-is_gt w ↦ rw (c.over.ensures.place, c.over.ensures.kids, w.top-is) (below_first _ _ _ _)
]
