-- The least of some items under a total order, as a queue gives it: the words of the heap below, for those who stand on a queue.
pub use Rattle.pair_heap.specs.Least.{AtMost, IsLeastItem, IsFirst}
