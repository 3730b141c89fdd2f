use Rattle.std.proofs.Common.{◌≡◌, ◌+◌, ◌-◌, ◌<◌, ◌^◌, ◌∷◌, ◌++◌, length, length-append, arith}
use Rattle.std.proofs.lemmas.List.Sorted.{IsPermutation-sym, IsPermutation-trans, length_permutation}
use Rattle.pair_heap.specs.Tree.{root_items}
use Rattle.pair_heap.proofs.heap.PairHeap.replace_first.Goals as goal

-- one item fewer, then those of the list; so the spare slots, the other way round
pub invariant_of-self-2 : goal.invariant_of-self-2
invariant_of-self-2 g c =
    let heap = c.self.inside in
    let new = root_items c.replace_least.new.root in
    let added = c.args.items.now.items in
    let long : length (c.in_ok-item.item ∷ new) ≡ length (added ++ root_items heap.root) = length_permutation (added ++ root_items heap.root) (c.in_ok-item.item ∷ new) c.in_ok-item.ensures.items in
    let held : c.in_ok-item.ensures.first.queued.0 < length (root_items heap.root) = c.in_ok-item.ensures.first.queued.1 in
    let both = length-append added (root_items heap.root) in
    let slots : length c.replace_least.new.spares.places + length added ≡ length heap.spares.places + 1 = c.in_ok-item.ensures.spares in
    let counted : c.len-added.result ≡ length added = omega (arith, c.len-added.ensures, c.args.items.now.ok.0) in
    let count : heap.len - 1 + c.len-added.result ≡ length new = omega (arith, c.self.invariant.count, counted, held, long, both) in
    let spares : length c.replace_least.new.spares.places ≡ heap.spare + 1 - c.len-added.result = omega (arith, c.self.invariant.spares, slots, counted) in
    let fits : (heap.len - 1 + c.len-added.result) + (heap.spare + 1 - c.len-added.result) < 2 ^ 64 =
    omega (arith, c.self.invariant.count, c.self.invariant.fits, c.self.invariant.spares, slots, counted, held, long, both) in
    record {
      root = c.replace_least.ensures.root;
      spares = spares;
      slots = IsPermutation-trans _ _ _ (IsPermutation-sym _ _ c.replace_least.ensures.slots) c.self.invariant.slots;
      count = count;
      fits = fits;
    }
