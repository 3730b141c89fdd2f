-- What a search within the distance 0 asks of its hierarchy: the ceiling 0, and single objects, which have no right id.
use Rattle.std.specs.Prelude.{◌≡◌, List, All, Option, Some, ⊤}
use Rattle.std.specs.declared.cmp.Ordering.{Ordering}
use Rattle.best_first.specs.Frontier.{StandsOver}
use Rattle.best_first.specs.Hierarchy.{Meaning}
use Rattle.best_first.specs.declared.hit.Hit.{Hit}
use Rattle.best_first.specs.declared.item.Item.{Item}
use Rattle.best_first.specs.declared.item.Item.TheVariants.{Node, Rough, Row}

-- the item has no right id
abbrev pub IsSingle : {N : Type 0} → Item N → Type 0
IsSingle (Node gap node) = ⊤
IsSingle (Rough gap left right) = right ≡ 0
IsSingle (Row gap left right) = right ≡ 0

-- The ceiling is the distance 0, and leaves list single objects alone.
pub record IsWithinZero {N : Type 0} (m : Meaning N) : Type 0 where
  pub ceiling : m.ceiling ≡ Some 0
  pub single : (node : N) → All IsSingle (m.finds node)

-- the hierarchy meets its laws within the distance 0, and the search stands over it, whatever it has taken
abbrev pub StandsWithin : {N : Type 0} → (N → N → Ordering) → Meaning N → List (Item N) → Option Hit → Type 0
StandsWithin cmp m held last = IsWithinZero m × StandsOver cmp m held last
