-- The first item of a queue is taken, and those of a list are queued one by one.
use Rattle.std.proofs.Common.{List, [], ◌∷◌, ◌++◌, IsPermutation, refl, subst, append_assoc, arith}
use Rattle.std.specs.declared.cmp.Ordering.{Ordering}
use Rattle.std.specs.Cmp.{IsTotalOrder}
use Rattle.std.proofs.lemmas.List.Elements.{All-cons}
use Rattle.std.proofs.lemmas.List.Sorted.{IsPermutation-sym, IsPermutation-cons, IsPermutation-trans, IsPermutation-middle, IsPermutation-append_right, All-permutation, Contains-permutation}
use Rattle.pair_heap.proofs.OrderOfItems.{itself}
use Rattle.rank_queue.specs.Least.{AtMost, IsLeastItem, IsFirst}

module _ {X : Type 0} where
  -- the item is gone, and those of the list are still to come
  pub first_gone : (first : X) (added old new : List X) → IsPermutation old (first ∷ new) → IsPermutation (added ++ old) (first ∷ (added ++ new))
  first_gone first added old new taken =
      IsPermutation-trans (added ++ old) (added ++ (first ∷ new)) (first ∷ (added ++ new)) (IsPermutation-append_right added old (first ∷ new) taken) (IsPermutation-middle added first new)

  -- the last one of the list is queued
  pub one_queued : (first item : X) (start rest held more : List X) → IsPermutation start (first ∷ ((rest ++ item ∷ []) ++ held)) → IsPermutation (item ∷ held) more
      → IsPermutation start (first ∷ (rest ++ more))
  one_queued first item start rest held more kept queued =
      IsPermutation-trans start (first ∷ (rest ++ (item ∷ held))) (first ∷ (rest ++ more)) (subst (λ l. IsPermutation start (first ∷ l)) (append_assoc rest (item ∷ []) held) kept)
      (IsPermutation-cons first (rest ++ (item ∷ held)) (rest ++ more) (IsPermutation-append_right rest (item ∷ held) more queued))

module _ {X : Type 0} {cmp : X → X → Ordering} (o : IsTotalOrder cmp) where
  -- what was taken, and comes after none that is left, was the first
  pub was_first : (first : X) (old new : List X) → IsPermutation old (first ∷ new) → IsLeastItem cmp first new → IsFirst cmp first old
  was_first first old new taken least = record {
    queued = Contains-permutation (first ∷ new) old first (IsPermutation-sym old (first ∷ new) taken) (0, omega arith, refl);
    least = All-permutation (AtMost cmp first) (first ∷ new) old (IsPermutation-sym old (first ∷ new) taken) (All-cons (AtMost cmp first) first new (itself o first) least);
  }
