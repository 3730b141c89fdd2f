-- What a caller sees of a priority queue.
use Rattle.std.specs.Prelude.{ℕ, List}

-- The items, in an order that says nothing, and how many more can be added before memory is asked for.
pub record Queued (X : Type 0) : Type 0 where
  pub items : List X
  pub spare : ℕ
