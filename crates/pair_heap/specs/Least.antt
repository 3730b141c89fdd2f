-- The least of some items under a total order, as a priority queue gives it.
use Rattle.std.specs.Prelude.{◌≡◌, false, List, All, Contains}
use Rattle.std.specs.declared.cmp.Ordering.{Ordering}
use Rattle.std.specs.Ordering.{is_gt}

-- x does not come after y
abbrev pub AtMost : {X : Type 0} → (X → X → Ordering) → X → X → Type 0
AtMost cmp x y = is_gt (cmp x y) ≡ false

-- no item of the list comes before x
abbrev pub IsLeastItem : {X : Type 0} → (X → X → Ordering) → X → List X → Type 0
IsLeastItem cmp x xs = All (AtMost cmp x) xs

-- x is an item of the list that no other comes before
pub record IsFirst {X : Type 0} (cmp : X → X → Ordering) (x : X) (xs : List X) : Type 0 where
  pub queued : Contains xs x
  pub least : IsLeastItem cmp x xs
