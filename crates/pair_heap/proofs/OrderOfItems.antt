-- What follows from a total order for items that come before or after one another.
use Rattle.std.proofs.Common.{◌≡◌, true, false, List, refl, ap, ◌∙◌}
use Rattle.std.specs.declared.cmp.Ordering.{Ordering}
use Rattle.std.specs.declared.cmp.Ordering.TheVariants.{Less, Equal, Greater}
use Rattle.std.specs.Ordering.{is_gt, ordering_reverse}
use Rattle.std.specs.Cmp.{IsTotalOrder, upto, tied_itself}
use Rattle.std.proofs.lemmas.List.Elements.{All-weaker}
use Rattle.pair_heap.specs.Least.{AtMost, IsLeastItem}

-- what comes after another does not come before it
turned : (r : Ordering) → is_gt r ≡ true → is_gt (ordering_reverse r) ≡ false
turned Less e = cc
turned Equal e = cc
turned Greater e = refl

module _ {X : Type 0} {cmp : X → X → Ordering} (o : IsTotalOrder cmp) where
  -- what comes after y has y at most it
  pub not_after : (x y : X) → is_gt (cmp x y) ≡ true → AtMost cmp y x
  not_after x y e = ap is_gt (o.antisymm y x) ∙ turned (cmp x y) e

  -- what y is at most, x is at most, where x is at most y
  pub least_through : (x y : X) (ys : List X) → AtMost cmp x y → IsLeastItem cmp y ys → IsLeastItem cmp x ys
  least_through x y ys le least = All-weaker (AtMost cmp y) (AtMost cmp x) (λ z p. upto o x y z le p) ys least

  -- an item is at most itself
  pub itself : (x : X) → AtMost cmp x x
  itself x = ap is_gt (tied_itself o x)
