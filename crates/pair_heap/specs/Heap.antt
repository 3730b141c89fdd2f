-- Chains of trees in heap order: no item of a tree comes before its root's.
use Rattle.std.specs.declared.cmp.Ordering.{Ordering}
use Rattle.pair_heap.specs.Least.{IsLeastItem}
use Rattle.pair_heap.specs.Chain.{Chain, end, link, items}

-- in each tree the root's item is the least, and so in the trees below it
abbrev pub IsHeap : {X : Type 0} → (X → X → Ordering) → Chain X → Type 0
IsHeap cmp end = Unit {0}
IsHeap cmp (link p x kids rest) = IsLeastItem cmp x (items kids) × IsHeap cmp kids × IsHeap cmp rest
