-- A tree put below one whose item does not come after its own: heap order is kept.
use Rattle.std.proofs.Common.{◌≡◌, ◌++◌}
use Rattle.std.specs.declared.cmp.Ordering.{Ordering}
use Rattle.std.specs.Cmp.{IsTotalOrder}
use Rattle.std.proofs.lemmas.List.Elements.{All-cons, All-append}
use Rattle.pair_heap.proofs.OrderOfItems.{least_through}
use Rattle.pair_heap.specs.declared.tree.Tree.{Tree}
use Rattle.pair_heap.specs.Least.{AtMost}
use Rattle.pair_heap.specs.Chain.{link, items}
use Rattle.pair_heap.specs.Tree.{IsHeapTree}

module _ {X : Type 0} {cmp : X → X → Ordering} (o : IsTotalOrder cmp) where
  pub put_below : (one other result : Tree X) → result.item ≡ one.item → result.kids ≡ link other.ptr other.item other.kids one.kids
      → AtMost cmp one.item other.item → IsHeapTree cmp one → IsHeapTree cmp other → IsHeapTree cmp result
  put_below one other result same below le t u = record {
    least = rw (same, below) (All-cons (AtMost cmp one.item) other.item (items other.kids ++ items one.kids) le
        (All-append (AtMost cmp one.item) (items other.kids) (items one.kids) (least_through o one.item other.item (items other.kids) le u.least) t.least));
    heap = rw below (u.least, u.heap, t.heap);
  }
