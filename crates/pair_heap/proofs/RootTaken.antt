-- What is left of a tree whose root's item is taken.
use Rattle.std.proofs.Common.{◌≡◌, [], ◌∷◌, Option, Some, None, MatchOption, IsPermutation, sym, subst}
use Rattle.std.specs.declared.cmp.Ordering.{Ordering}
use Rattle.std.proofs.lemmas.List.Elements.{All-nil}
use Rattle.std.proofs.lemmas.List.Sorted.{IsPermutation-refl, IsPermutation-cons, All-permutation}
use Rattle.pair_heap.specs.declared.tree.Tree.{Tree}
use Rattle.pair_heap.specs.Least.{AtMost, IsLeastItem}
use Rattle.pair_heap.specs.Chain.{Chain, end, items, chain_places}
use Rattle.pair_heap.specs.Tree.{IsHeapTree, heap_items, tree_places, root_items, root_places}

module _ {X : Type 0} where
  -- the items of a chain whose trees became one
  pub joined_items : (chain : Chain X) (rest : Option (Tree X)) → MatchOption rest (chain ≡ end) (λ t. IsPermutation (items chain) (heap_items t)) → IsPermutation (items chain) (root_items rest)
  joined_items chain None none = subst (λ c. IsPermutation (items c) []) (sym none) (IsPermutation-refl [])
  joined_items chain (Some t) kept = kept

  -- and its slots
  pub joined_places : (chain : Chain X) (rest : Option (Tree X)) → MatchOption rest (chain ≡ end) (λ t. IsPermutation (chain_places chain) (tree_places t))
      → IsPermutation (chain_places chain) (root_places rest)
  joined_places chain None none = subst (λ c. IsPermutation (chain_places c) []) (sym none) (IsPermutation-refl [])
  joined_places chain (Some t) kept = kept

  -- the item, and what was below it as one tree
  pub taken_items : (tree : Tree X) (rest : Option (Tree X)) → MatchOption rest (tree.kids ≡ end) (λ t. IsPermutation (items tree.kids) (heap_items t))
      → IsPermutation (heap_items tree) (tree.item ∷ root_items rest)
  taken_items tree rest kept = IsPermutation-cons tree.item (items tree.kids) (root_items rest) (joined_items tree.kids rest kept)

  -- its slot, and the slots of what was below it
  pub taken_places : (tree : Tree X) (rest : Option (Tree X)) → MatchOption rest (tree.kids ≡ end) (λ t. IsPermutation (chain_places tree.kids) (tree_places t))
      → IsPermutation (tree_places tree) (tree.ptr ∷ root_places rest)
  taken_places tree rest kept = IsPermutation-cons tree.ptr (chain_places tree.kids) (root_places rest) (joined_places tree.kids rest kept)

  -- the item comes before none of what is left
  pub taken_least : (cmp : X → X → Ordering) (tree : Tree X) (rest : Option (Tree X)) → IsHeapTree cmp tree
      → MatchOption rest (tree.kids ≡ end) (λ t. IsPermutation (items tree.kids) (heap_items t)) → IsLeastItem cmp tree.item (root_items rest)
  taken_least cmp tree None ordered none = All-nil (AtMost cmp tree.item)
  taken_least cmp tree (Some t) ordered kept = All-permutation (AtMost cmp tree.item) (items tree.kids) (heap_items t) kept ordered.least
