-- What a hierarchy does to what is queued, where it opens the node that is next.
use Rattle.std.specs.Prelude.{◌≡◌, ℕ, ◌<◌, ◌^◌, ◌++◌, List, [], ◌∷◌, length, Option, IfSome}
use Rattle.page_pool.specs.Disk.{PageMap}
use Rattle.best_first.specs.Hierarchy.{Meaning, FindsAlike}
use Rattle.best_first.specs.Steps.{AddsLess}
use Rattle.best_first.specs.declared.item.Item.{Item}
use Rattle.best_first.specs.ZeroItems.{ZeroItems, OpensNode}

-- What an expansion finds, as items; those at the distance 0 take the node's place.
pub record OpensAs {N : Type 0} (weight : N → ℕ) (meaning : PageMap → Meaning N) (pages : Option PageMap) (node : N) (old new : ZeroItems N) : Type 0 where
  pub found : List (Item N)
  pub alike : IfSome pages (λ p. FindsAlike ((meaning p).finds node) [] found)
  pub falls : AddsLess weight node [] found
  pub few : length found < 2 ^ 64
  pub opens : (rest : List N) → old.nodes ≡ rest ++ node ∷ [] → OpensNode rest found old new
