-- Lists in falling order, greatest item first, so that the least is taken from the end.
use Rattle.std.specs.Prelude.{List, [], ◌∷◌, All}
use Rattle.std.specs.declared.cmp.Ordering.{Ordering}
use Rattle.rank_queue.specs.Least.{AtMost}

-- no item of the list comes before a later one
abbrev pub IsFalling : {X : Type 0} → (X → X → Ordering) → List X → Type 0
IsFalling cmp [] = Unit {0}
IsFalling cmp (x ∷ xs) = All (λ y. AtMost cmp y x) xs × IsFalling cmp xs
